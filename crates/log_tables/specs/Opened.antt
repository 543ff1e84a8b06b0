-- A log at rest on a rack, between two calls, and what the calls of its order leave.
use Rattle.std.specs.Prelude.{◌≡◌, ◌++◌, ℕ, List, [], ◌∷◌, Some}
use Rattle.log_recovery.specs.volume_disk.Disk.{Disk, MayLeave, Tells, raised_at}
use Rattle.log_recovery.specs.volume_disk.Image.{Image}
use Rattle.log_recovery.specs.volume_disk.Run.{LeavesOnly}
use Rattle.log_recovery.specs.disk_label.Anchor.{IsNext}
use Rattle.log_recovery.specs.disk_label.Fault.{HasSlotCause}
use Rattle.log_recovery.specs.disk_label.Slot.{IsReadyFor}
use Rattle.log_recovery.specs.disk_label.declared.anchor.Anchor.{Anchor}
use Rattle.log_recovery.specs.log_ring.declared.image.PageImage.{PageImage}
use Rattle.log_recovery.specs.log_ring.Groups.{Group, redone}
use Rattle.log_recovery.specs.log_ring.Settling.{IsRedoneAs}
use Rattle.log_recovery.specs.Fault.{HasCause, IfNotADomain}
use Rattle.log_recovery.specs.Outcome.{HasGoodAnchor, HasRecovered, IsFirstFault, IsUsable}
use Rattle.log_recovery.specs.Readable.{IsGoodNow}
use Rattle.log_recovery.specs.Settled.{HasNumbersLeft, settled_anchor}
use Rattle.log_recovery.specs.declared.redone.Redone.{Redone}
use Rattle.file_pages.specs.meta_log.Force.{HasEither}
use Rattle.file_pages.specs.meta_log.Log.{IsFullFor, Log, Stands, group_of, new_log, next_number}
use Rattle.log_recovery.specs.Settling.{ReadsAs}
use Rattle.log_tables.specs.declared.openings.OpenFault.{OpenFault}
use Rattle.log_tables.specs.declared.openings.OpenFault.TheVariants.{Recovering, NoNumbers, Readying, Settling, OutOfMemory}

-- the rack has the log and the members of its anchor, which is good on each image; its durable
-- groups stand there with nothing pending behind them, and the next anchor on its volume finds its
-- slot ready
pub record IsAtRest (disk : Disk) (log : Log) : Type 0 where
  pub usable : IsUsable disk.sizes log.anchor
  pub forced : log.pending ≡ []
  pub stands : Tells disk → (groups : List Group) × Stands disk log groups
  pub good : Tells disk → IsGoodNow disk log.anchor
  pub ready : Tells disk → (next : Anchor) → IsNext (Some log.anchor) next
      → next.log_vol ≡ log.anchor.log_vol → IsReadyFor disk (Some log.anchor) next

-- Opening.

-- the log has no group, and the anchor that settling writes for what is recovered of the start
abbrev pub GoesOnBehind : Disk → Log → Type 0
GoesOnBehind old log =
    Tells old → (groups : List Group) × (found : Redone)
    × HasRecovered old.sizes old.now.contents groups found × (log ≡ new_log (settled_anchor found))

-- a log was not opened: which call has failed, or what is there in its place
abbrev pub HasOpenCause : Disk → Disk → OpenFault → Type 0
HasOpenCause old new (Recovering fault) =
    HasCause old new fault
    × IfNotADomain fault (λ vol at. Tells old → IsFirstFault old.sizes old.now.contents vol at)
HasOpenCause old new NoNumbers =
    Tells old → (groups : List Group) × (found : Redone)
    × HasRecovered old.sizes old.now.contents groups found × (¬ HasNumbersLeft found)
HasOpenCause old new (Readying fault) = HasSlotCause old new fault
HasOpenCause old new (Settling vol) = new.write_faults ≡ raised_at old.write_faults vol
HasOpenCause old new OutOfMemory = Unit {0}

-- Changes.

-- groups, and one more behind them: a change
abbrev pub with_change : Log → List PageImage → List Group → List Group
with_change log change groups = groups ++ group_of (next_number log) change ∷ []

-- each image since has the good anchor, and the durable groups without a change or with it
abbrev pub AddsOrNot : Disk → Disk → Log → List PageImage → Type 0
AddsOrNot old new log change =
    Tells old → (groups : List Group) → Stands old log groups
    → LeavesOnly old new
    (λ image. HasGoodAnchor old.sizes image log.anchor
    × HasEither old.sizes log.anchor groups (with_change log change groups) image)

-- and in the end with it
abbrev pub Adds : Disk → Disk → Log → Log → List PageImage → Type 0
Adds old new log after change =
    Tells old → (groups : List Group) → Stands old log groups
    → Stands new after (with_change log change groups)

-- Closing.

-- each image since is read as one of the start
abbrev pub ReadsAsBefore : Disk → Disk → Log → Type 0
ReadsAsBefore old new log =
    Tells old → (groups : List Group) → Stands old log groups
    → LeavesOnly old new
    (λ image. (before : Image) × MayLeave old.now before
    × ReadsAs old.sizes log.anchor (redone groups before) image)

-- and in the end its pages stand at their homes
abbrev pub ComesHome : Disk → Disk → Log → Type 0
ComesHome old new log =
    Tells old → (groups : List Group) → Stands old log groups
    → (image : Image) → MayLeave new.now image
    → (before : Image) × MayLeave old.now before × IsRedoneAs groups before [] image

-- Refusals.

-- a log was full for a change of n images, and nothing was done
abbrev pub WasFull : Disk → Disk → Log → Log → ℕ → Type 0
WasFull old new log after n = IsFullFor log n × (after ≡ log) × (new ≡ old)

-- a write or a sync of some volume has failed
abbrev pub HasFailed : Disk → Disk → Type 0
HasFailed old new = (vol : ℕ) × (new.write_faults ≡ raised_at old.write_faults vol)
