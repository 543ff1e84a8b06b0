-- Why the pages of a domain are not brought, and the first place at which a rule of it is broken.
use Rattle.std.specs.Prelude.{◌≡◌, ◌⊎◌, ℕ, List, ◌∷◌}
use Rattle.domain_faults.specs.page_store.Pages.{Pages}
use Rattle.domain_faults.specs.volume_disk.Disk.{Disk, Tells, raised_at}
use Rattle.domain_faults.specs.volume_disk.Image.{Image}
use Rattle.domain_faults.specs.log_ring.Groups.{Group}
use Rattle.domain_faults.specs.log_recovery.Outcome.{HasRecovered, IsFirstFault}
use Rattle.domain_faults.specs.log_recovery.declared.redone.Redone.{Redone}
use Rattle.domain_faults.specs.log_recovery.declared.fault.RecoverFault.{RecoverFault}
use Rattle.domain_faults.specs.log_recovery.declared.fault.RecoverFault.TheVariants as recovery
use Rattle.domain_faults.specs.domain_layout.Faults.{AreFaults, FaultRow}
use Rattle.domain_faults.specs.domain_layout.Reached.{Frame}
use Rattle.image_loading.specs.declared.fault.LoadFault.{LoadFault}
use Rattle.image_loading.specs.declared.fault.LoadFault.TheVariants as loading
use Rattle.domain_faults.specs.filesets_reading.Faulty.{HasFaults}
use Rattle.domain_bringing.specs.declared.fault.BringFault.{BringFault}
use Rattle.domain_bringing.specs.declared.fault.BringFault.TheVariants.{Fault, NotADomain, OutOfMemory}

-- a fault of loading, and one of recovery, as one of these
abbrev pub same_fault : LoadFault → BringFault
same_fault (loading.Fault vol) = Fault vol
same_fault loading.OutOfMemory = OutOfMemory

abbrev pub same_recovery : RecoverFault → BringFault
same_recovery (recovery.Fault vol) = Fault vol
same_recovery (recovery.NotADomain vol at) = NotADomain vol at
same_recovery recovery.OutOfMemory = OutOfMemory

-- a fault has raised the read count of the volume that it names, and no other count of reads
abbrev pub HasCause : Disk → Disk → BringFault → Type 0
HasCause old new (Fault vol) = new.read_faults ≡ raised_at old.read_faults vol
HasCause old new (NotADomain vol at) = new.read_faults ≡ old.read_faults
HasCause old new OutOfMemory = new.read_faults ≡ old.read_faults

-- a fact of the place at which there is no domain
abbrev pub IfNotADomain : BringFault → (ℕ → ℕ → Type 0) → Type 0
IfNotADomain (Fault vol) P = Unit {0}
IfNotADomain (NotADomain vol at) P = P vol at
IfNotADomain OutOfMemory P = Unit {0}

-- the first of these rows stands at that page
abbrev pub BeginsAt : List FaultRow → ℕ → ℕ → Type 0
BeginsAt rows vol at = (first : FaultRow) × (more : List FaultRow) × (rows ≡ first ∷ more)
    × (first.home.vol ≡ vol) × (first.home.page ≡ at)

-- the first fault of pages stands there
pub record HasFirstRow (pages : Pages) (frame : Frame) (vol at : ℕ) : Type 0 where
  pub rows : List FaultRow
  pub faults : AreFaults pages frame rows
  pub first : BeginsAt rows vol at

-- an image has no domain, or one with faults: there it is seen first
abbrev pub IsNoDomain : List ℕ → Image → ℕ → ℕ → Type 0
IsNoDomain sizes image vol at = IsFirstFault sizes image vol at
    ⊎ ((rows : List FaultRow) × HasFaults sizes image rows × BeginsAt rows vol at)

-- a fault tells where no domain is seen first on what a rack has, if the log was recovered of that
abbrev pub IsWrongOn : Disk → Redone → BringFault → Type 0
IsWrongOn disk found fault = IfNotADomain fault (λ vol at. Tells disk → (groups : List Group)
    → HasRecovered disk.sizes disk.now.contents groups found
    → IsNoDomain disk.sizes disk.now.contents vol at)
