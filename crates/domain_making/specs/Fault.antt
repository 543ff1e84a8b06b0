-- Why no domain is made, and what has happened then.
use Rattle.std.specs.Prelude.{◌≡◌, ◌⊎◌, ◌<◌}
use Rattle.domain_layout.specs.domain_base.Limits.{min_first_volume_pages}
use Rattle.domain_layout.specs.volume_disk.Disk.{Disk, volume_pages}
use Rattle.domain_layout.specs.disk_label.Fault.{HasSlotCause}
use Rattle.domain_layout.specs.disk_label.declared.fault.SlotFault.{SlotFault}
use Rattle.domain_layout.specs.disk_label.declared.fault.SlotFault.TheVariants.{Read, Write}
use Rattle.domain_making.specs.declared.fault.MakeFault.{MakeFault}
use Rattle.domain_making.specs.declared.fault.MakeFault.TheVariants.{VolumeSmall, Fault, OutOfMemory}

-- the first volume is small, and nothing was done; one call of the volume that it names failed, and
-- no other call; or nothing was done for want of memory
abbrev pub HasCause : Disk → Disk → MakeFault → Type 0
HasCause old new (VolumeSmall pages) =
    (pages ≡ volume_pages old.sizes 1) × (pages < min_first_volume_pages) × (new ≡ old)
HasCause old new (Fault vol) = HasSlotCause old new (Read vol) ⊎ HasSlotCause old new (Write vol)
HasCause old new OutOfMemory = new ≡ old

-- what the fault of a slot is to a making
abbrev pub IsFaultOf : SlotFault → MakeFault → Type 0
IsFaultOf (Read vol) fault = fault ≡ Fault vol
IsFaultOf (Write vol) fault = fault ≡ Fault vol
