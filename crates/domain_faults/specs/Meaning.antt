-- What an image of volumes means.
use Rattle.std.specs.Prelude.{◌≡◌, ℕ, List, [], Some, Result, Ok, Err}
use Rattle.slot_files.specs.domain_base.declared.place.Home.{Home}
use Rattle.slot_files.specs.domain_base.declared.version.Version.{Version}
use Rattle.slot_files.specs.page_store.Pages.{Pages}
use Rattle.slot_files.specs.volume_disk.Disk.{Disk}
use Rattle.slot_files.specs.volume_disk.Image.{Image}
use Rattle.slot_files.specs.disk_label.declared.anchor.Anchor.{Anchor}
use Rattle.slot_files.specs.log_ring.Groups.{Group}
use Rattle.slot_files.specs.log_recovery.Outcome.{HasRecovered, IsFirstFault}
use Rattle.slot_files.specs.log_recovery.declared.redone.Redone.{Redone}
use Rattle.slot_files.specs.fileset_model.Filesets.{FilesetMap}
use Rattle.slot_files.specs.fileset_model.LooksLike.{LooksLike}
use Rattle.slot_files.specs.domain_layout.Faults.{AreFaults, FaultRow, HasNoFault}
use Rattle.slot_files.specs.domain_layout.Read.{Means, ReadsFrom}
use Rattle.slot_files.specs.filesets_reading.Faulty.{HasFaults}
use Rattle.slot_files.specs.filesets_reading.Good.{frame_at}
use Rattle.slot_files.specs.filesets_filled.Slots.{IsLaidOut}
use Rattle.domain_faults.specs.Rows.{rows_there}
use Rattle.slot_files.specs.log_recovery.declared.fault.RecoverFault.{RecoverFault}
use Rattle.slot_files.specs.log_recovery.declared.fault.RecoverFault.TheVariants as recovery
use Rattle.domain_faults.specs.declared.fault.ReadFault.{ReadFault}
use Rattle.domain_faults.specs.declared.fault.ReadFault.TheVariants as fault
use Rattle.domain_faults.specs.declared.meaning.Meaning.{Meaning}
use Rattle.domain_faults.specs.declared.meaning.Meaning.TheVariants.{Faulty, Filesets, NoDomain}

-- an image means this: it has no domain, from this page on; its domain has these faults; or it
-- has none, and its filesets are these
abbrev pub IsMeaningOf : List ℕ → Image → Meaning → Type 0
IsMeaningOf sizes image (NoDomain vol at) = IsFirstFault sizes image vol at
IsMeaningOf sizes image (Faulty rows) = HasFaults sizes image (rows_there rows.items)
IsMeaningOf sizes image (Filesets all) = Means sizes image all

-- two meanings are the same, as far as replies tell
abbrev pub AreSameMeaning : Meaning → Meaning → Type 0
AreSameMeaning (NoDomain vol at) (NoDomain other page) = (vol ≡ other) × (at ≡ page)
AreSameMeaning (Faulty rows) (Faulty others) = rows_there rows.items ≡ rows_there others.items
AreSameMeaning (Filesets all) (Filesets others) = LooksLike all others
AreSameMeaning _ _ = ⊥

-- ** On the way

-- the log of a rack's contents was recovered
abbrev pub Recovered : Disk → Redone → Type 0
Recovered disk found =
    (groups : List Group) × HasRecovered disk.sizes disk.now.contents groups found

-- pages of a domain without a fault, and their filesets
pub record HasFilesets (pages : Pages) (anchor : Anchor) (version : Version) (all : FilesetMap)
    : Type 0 where
  pub no_fault : HasNoFault pages (frame_at anchor version)
  pub laid : IsLaidOut pages (frame_at anchor version)
  pub reads : (home : Home) → anchor.table ≡ Some home → ReadsFrom pages home all

-- what the pages of a domain mean
abbrev pub HasMeaning : Pages → Anchor → Version → Meaning → Type 0
HasMeaning pages anchor version (NoDomain vol at) = ⊥
HasMeaning pages anchor version (Faulty rows) =
    AreFaults pages (frame_at anchor version) (rows_there rows.items)
    × (¬ rows_there rows.items ≡ [])
HasMeaning pages anchor version (Filesets all) = HasFilesets pages anchor version all

-- what is told where no log was recovered
abbrev pub IsToldBy : RecoverFault → Result Meaning ReadFault → Type 0
IsToldBy (recovery.NotADomain vol at) told = told ≡ Ok (NoDomain vol at)
IsToldBy (recovery.Fault vol) told = told ≡ Err (fault.Fault vol)
IsToldBy recovery.OutOfMemory told = told ≡ Err fault.OutOfMemory
