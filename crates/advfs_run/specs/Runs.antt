-- Runs of commands over a domain.
use Rattle.std.specs.Prelude.{◌≡◌, ◌⊎◌, ◌<◌, ◌≤◌, ℕ, List, MatchOption, None, Option, Some, All}
use Rattle.domain_attaching.specs.domain_base.Counts.{HasRisen}
use Rattle.domain_attaching.specs.domain_base.Limits.{min_first_volume_pages}
use Rattle.domain_attaching.specs.domain_base.declared.place.Home.{Home}
use Rattle.domain_attaching.specs.domain_base.declared.version.Version.{Version}
use Rattle.domain_attaching.specs.page_store.Pages.{Pages}
use Rattle.domain_attaching.specs.volume_disk.Disk.{Disk, MayLeave, Tells, volume_pages}
use Rattle.domain_attaching.specs.volume_disk.Image.{Image}
use Rattle.domain_attaching.specs.volume_disk.Run.{OnlyReads}
use Rattle.domain_attaching.specs.disk_label.declared.anchor.Anchor.{Anchor}
use Rattle.domain_attaching.specs.log_recovery.Settling.{HasNoGroup}
use Rattle.domain_attaching.specs.fileset_model.Filesets.{FilesetMap}
use Rattle.domain_attaching.specs.fileset_values.declared.entry.Entry.{Entry}
use Rattle.domain_attaching.specs.legal_histories.Legal.{Legal}
use Rattle.domain_attaching.specs.legal_histories.State.{State, new_domain}
use Rattle.domain_attaching.specs.log_recovery.declared.redone.Redone.{Redone}
use Rattle.domain_attaching.specs.domain_layout.Reached.{Frame}
use Rattle.domain_attaching.specs.domain_layout.Read.{Means, ReadsFrom}
use Rattle.domain_attaching.specs.domain_bringing.Brought.{IsBroughtFrom, IsWholeDomain}
use Rattle.domain_attaching.specs.domain_bringing.Fault.{IsNoDomain}
use Rattle.domain_attaching.specs.attached_domain.declared.unfit.Unfit.{Unfit}
use Rattle.domain_attaching.specs.attached_domain.declared.unfit.Unfit.TheVariants as unfit
use Rattle.domain_attaching.specs.domain_state.Opening.{HasVolumesOf, IsStartOf, MeansState}
use Rattle.domain_attaching.specs.Attaching.{IsUnfitDomain}
use Rattle.domain_attaching.specs.Settling.{LacksNumbers, StaysReadSince, rested_anchor}
use Rattle.run_parts.specs.declared.status.Status.{Status}
use Rattle.run_parts.specs.declared.status.Status.TheVariants as status
use Rattle.run_parts.specs.declared.status.Unattached.{Unattached}
use Rattle.run_parts.specs.declared.status.Unattached.TheVariants as why

-- ** Where a run leads

-- an image that a stop may leave now means this state, whichever it is
abbrev pub Keeps : Disk → State → Type 0
Keeps disk s =
    (image : Image) → MayLeave disk.now image → ∥ MeansState disk.sizes image s ∥₁

-- and has an anchor with the volumes of a state, and no group of a log after it
abbrev pub KeepsVolumes : Disk → State → Type 0
KeepsVolumes disk s = ∥ ((anchor : Anchor) × HasVolumesOf anchor s × HasNoGroup disk anchor) ∥₁

-- from each state that pages with this anchor mean, the entries lead to some filesets; if `closed`
-- holds, these are on the rack, with this anchor and the volumes that it has
pub record LeadsFrom (pages : Pages) (frame : Frame) (sizes : List ℕ) (entries : List Entry)
    (new : Disk) (closed : Type 0) : Type 0 where
  pub all : FilesetMap
  pub leads : (start : State) → IsStartOf pages frame sizes start
      → ∥ Legal start entries None (record start { filesets = all }) ∥₁
  pub kept : closed → (start : State) → IsStartOf pages frame sizes start
      → Keeps new (record start { filesets = all })
  pub volumes : closed → ∥ HasNoGroup new frame.anchor ∥₁

-- the entries lead in this way from the state of a domain that was just made
pub record LeadsFromNew (version : Version) (sizes : List ℕ) (entries : List Entry) (new : Disk)
    (closed : Type 0) : Type 0 where
  pub all : FilesetMap
  pub leads : ∥ Legal (new_domain version sizes) entries None
      (record (new_domain version sizes) { filesets = all }) ∥₁
  pub kept : closed → Keeps new (record (new_domain version sizes) { filesets = all })
  pub volumes : closed → KeepsVolumes new (new_domain version sizes)

-- pages with this anchor are those of an image once its log is redone and at rest, and break no
-- rule of a domain with the anchor that was recovered
abbrev pub AreOpenedFrom : List ℕ → Image → Pages → Frame → Type 0
AreOpenedFrom sizes image pages frame = (found : Redone)
    × (frame.anchor ≡ rested_anchor found) × IsBroughtFrom sizes image pages found
    × IsWholeDomain pages (record frame { anchor = found.anchor })

-- the entries lead from what a rack had to what it has now: the pages at the start are those of its
-- contents, and mean what these meant; whatever the rack tells, there is a state that they mean
pub record RunsFrom (old new : Disk) (entries : List Entry) (closed : Type 0) : Type 0 where
  pub pages : Pages
  pub frame : Frame
  pub opened : Tells old → AreOpenedFrom old.sizes old.now.contents pages frame
  pub meant : Tells old → (all : FilesetMap) → Means old.sizes old.now.contents all
      → (home : Home) → frame.anchor.table ≡ Some home → ReadsFrom pages home all
  pub some : ∥ ((start : State) × IsStartOf pages frame old.sizes start) ∥₁
  pub leads : ∥ LeadsFrom pages frame old.sizes entries new (Tells old × closed) ∥₁

-- each entry was answered after at least as many calls as the old rack counts, and at most as many
-- as the new one counts
abbrev pub AreStampedWithin : Disk → Disk → List Entry → Type 0
AreStampedWithin old new entries = All (λ e. (old.calls ≤ e.stamp) × (e.stamp ≤ new.calls)) entries

-- ** Why a run does not begin, or its domain is not closed

-- no write or sync has failed
abbrev pub WritesPassed : Disk → Disk → Type 0
WritesPassed old new = new.write_faults ≡ old.write_faults

-- one of the volume has failed
abbrev pub WriteFailed : Disk → Disk → ℕ → Type 0
WriteFailed old new vol = HasRisen (old.write_faults vol) (new.write_faults vol)

-- a read of the volume has failed, or a write or a sync
abbrev pub HasFailed : Disk → Disk → ℕ → Type 0
HasFailed old new vol = HasRisen (old.read_faults vol) (new.read_faults vol)
    ⊎ HasRisen (old.write_faults vol) (new.write_faults vol)

-- what is so of the pages of a domain without a fault that is not attached; None: its log has no
-- numbers left
abbrev pub unfit_as : Unattached → Option Unfit
unfit_as why.Cloned = Some unfit.Cloned
unfit_as why.ReadThrough = Some unfit.ReadThrough
unfit_as why.WrongQuotas = Some unfit.WrongQuotas
unfit_as why.RemovedFile = Some unfit.RemovedFile
unfit_as why.CutDirectory = Some unfit.CutDirectory
unfit_as why.NoNumbers = None

-- the domain that a rack has was not attached, for the cause that the status tells: the first page
-- at which no domain is seen, or what is so of the domain, and then the rack was only read; or a
-- call that failed, a log without numbers, or want of memory, and then recovery takes from each
-- image that a stop may leave what it took from the rack
abbrev pub BeginsNot : Disk → Disk → Status → Type 0
BeginsNot old new (status.NotADomain vol at) =
    OnlyReads old new × (Tells old → IsNoDomain old.sizes old.now.contents vol at)
BeginsNot old new (status.VolumeFault vol) = HasFailed old new vol × StaysReadSince old new
BeginsNot old new (status.Unfit why) = MatchOption (unfit_as why)
    (LacksNumbers old × StaysReadSince old new)
    (λ unfit. OnlyReads old new × (Tells old → IsUnfitDomain old.sizes old.now.contents unfit))
BeginsNot old new status.OutOfMemory = StaysReadSince old new
BeginsNot old new other = ⊥

-- none was made: the volume is too small, and nothing was done; a call failed; or want of memory
abbrev pub MakesNone : Disk → Disk → Status → Type 0
MakesNone old new (status.VolumeSmall pages) = (pages ≡ volume_pages old.sizes 1)
    × (pages < min_first_volume_pages) × (new ≡ old)
MakesNone old new (status.VolumeFault vol) = HasFailed old new vol
MakesNone old new status.OutOfMemory = Unit {0}
MakesNone old new other = ⊥

-- a domain was closed, and no write or sync has failed; or it was not, for one of the volume failed
abbrev pub ClosesAs : Disk → Disk → Status → Type 0
ClosesAs old new status.Ok = WritesPassed old new
ClosesAs old new (status.VolumeFault vol) = WriteFailed old new vol
ClosesAs old new other = ⊥
