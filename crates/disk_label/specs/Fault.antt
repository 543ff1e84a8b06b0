-- Which call has failed.
use Rattle.std.specs.Prelude.{◌≡◌}
use Rattle.volume_disk.specs.Disk.{Disk, raised_at}
use Rattle.disk_label.specs.declared.fault.AnchorFault.{AnchorFault}
use Rattle.disk_label.specs.declared.fault.AnchorFault.TheVariants.{NoAnchor, Fault}
use Rattle.disk_label.specs.declared.fault.SlotFault.{SlotFault}
use Rattle.disk_label.specs.declared.fault.SlotFault.TheVariants.{Read, Write}

-- a fault has raised the read count of the volume that it names, and no other count of reads
abbrev pub HasCause : Disk → Disk → AnchorFault → Type 0
HasCause old new NoAnchor = new.read_faults ≡ old.read_faults
HasCause old new (Fault vol) = new.read_faults ≡ raised_at old.read_faults vol

-- no read has failed, and no write or sync
abbrev pub HasPassed : Disk → Disk → Type 0
HasPassed old new = (new.read_faults ≡ old.read_faults) × (new.write_faults ≡ old.write_faults)

-- a fault of a slot has raised the count of the volume that it names, of reads or of writes, and no
-- other count
abbrev pub HasSlotCause : Disk → Disk → SlotFault → Type 0
HasSlotCause old new (Read vol) =
    (new.read_faults ≡ raised_at old.read_faults vol) × (new.write_faults ≡ old.write_faults)
HasSlotCause old new (Write vol) =
    (new.read_faults ≡ old.read_faults) × (new.write_faults ≡ raised_at old.write_faults vol)
