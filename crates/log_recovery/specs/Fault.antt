-- Which call has failed, and what is said if there is no domain.
use Rattle.std.specs.Prelude.{◌≡◌, ℕ}
use Rattle.log_ring.specs.volume_disk.Disk.{Disk, raised_at}
use Rattle.log_ring.specs.disk_label.FirstPages.{anchors_page}
use Rattle.log_ring.specs.disk_label.declared.fault.AnchorFault.{AnchorFault}
use Rattle.log_ring.specs.disk_label.declared.fault.AnchorFault.TheVariants.{NoAnchor, Fault as ReadFault}
use Rattle.log_recovery.specs.declared.fault.RecoverFault.{RecoverFault}
use Rattle.log_recovery.specs.declared.fault.RecoverFault.TheVariants.{Fault, NotADomain, OutOfMemory}

-- a fault has raised the read count of the volume that it names, and no other count of reads
abbrev pub HasCause : Disk → Disk → RecoverFault → Type 0
HasCause old new (Fault vol) = new.read_faults ≡ raised_at old.read_faults vol
HasCause old new (NotADomain vol at) = new.read_faults ≡ old.read_faults
HasCause old new OutOfMemory = new.read_faults ≡ old.read_faults

-- a fact of the place at which there is no domain
abbrev pub IfNotADomain : RecoverFault → (ℕ → ℕ → Type 0) → Type 0
IfNotADomain (Fault vol) P = Unit {0}
IfNotADomain (NotADomain vol at) P = P vol at
IfNotADomain OutOfMemory P = Unit {0}

-- the fault of an anchor as recovery has it: if no anchor counts, there is no domain
abbrev pub IsFaultOf : AnchorFault → RecoverFault → Type 0
IsFaultOf NoAnchor fault = fault ≡ NotADomain 1 anchors_page
IsFaultOf (ReadFault vol) fault = fault ≡ Fault vol
