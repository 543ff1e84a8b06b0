-- What a log leaves that is settled.
use Rattle.std.specs.Prelude.{◌≡◌, ◌≢◌, ℕ, List, [], Some}
use Rattle.log_ring.specs.domain_base.declared.place.Home.{Home}
use Rattle.log_ring.specs.page_store.Pages.{Pages}
use Rattle.log_ring.specs.volume_disk.Disk.{Disk, MayLeave, Tells, raised_at}
use Rattle.log_ring.specs.volume_disk.Image.{Image, Places}
use Rattle.log_ring.specs.volume_disk.Run.{LeavesOnly}
use Rattle.log_ring.specs.disk_label.Anchor.{IsNext}
use Rattle.log_ring.specs.disk_label.Fault.{HasSlotCause}
use Rattle.log_ring.specs.disk_label.FirstPages.{anchors_page}
use Rattle.log_ring.specs.disk_label.Slot.{IsReadyFor}
use Rattle.log_ring.specs.disk_label.declared.anchor.Anchor.{Anchor}
use Rattle.log_ring.specs.Groups.{Group, HasLog, LogStands, pages_in, redone}
use Rattle.log_recovery.specs.Outcome.{HasGoodAnchor}
use Rattle.log_recovery.specs.Readable.{IsGoodNow, IsRestartOf}
use Rattle.log_recovery.specs.Settled.{HasNumbersLeft}
use Rattle.log_recovery.specs.declared.redone.Redone.{Redone}
use Rattle.log_recovery.specs.declared.settling_fault.SettleFault.{SettleFault}
use Rattle.log_recovery.specs.declared.settling_fault.SettleFault.TheVariants.{NoNumbers, Slot, Write}

-- any place
abbrev pub Anywhere : Places
Anywhere v k = Unit {0}

-- recovery takes an image: its anchor is this one, but for what a checkpoint writes anew, and its
-- pages once redone, those of anchors aside, are these
pub record ReadsAs (sizes : List ℕ) (first : Anchor) (pages : Pages) (image : Image) : Type 0
  where
    pub anchor : Anchor
    pub groups : List Group
    pub good : HasGoodAnchor sizes image anchor
    pub restarts : IsRestartOf first anchor
    pub log : HasLog sizes anchor groups image
    pub same : (home : Home) → home.page ≢ anchors_page → redone groups image home ≡ pages home

-- what the contents of the start are read as, anchor and pages, each image is that is left since
abbrev pub StaysRead : Disk → Disk → Type 0
StaysRead old new =
    Tells old → (first : Anchor) (pages : Pages)
    → ReadsAs old.sizes first pages old.now.contents
    → LeavesOnly old new (ReadsAs old.sizes first pages)

-- and in the end these pages stand at their homes on each
abbrev pub StandsAtHome : Disk → Disk → Type 0
StandsAtHome old new =
    Tells old → (first : Anchor) (pages : Pages)
    → ReadsAs old.sizes first pages old.now.contents
    → (image : Image) → MayLeave new.now image
    → (home : Home) → home.page ≢ anchors_page → pages_in image home ≡ pages home

-- each image that a stop might leave has this anchor, which is good, and no group after it
pub record HasNoGroup (disk : Disk) (anchor : Anchor) : Type 0 where
  pub stands : LogStands disk anchor []
  pub good : IsGoodNow disk anchor

-- no group stands after the anchor on any image that a stop may leave
abbrev pub IsBehindAll : Disk → Anchor → Type 0
IsBehindAll disk anchor = Tells disk → HasNoGroup disk anchor

-- the anchor after this one finds its slot ready, on the same volume
abbrev pub IsNextReady : Disk → Anchor → Type 0
IsNextReady disk anchor =
    (later : Anchor) → IsNext (Some anchor) later → later.log_vol ≡ anchor.log_vol
    → IsReadyFor disk (Some anchor) later

-- a log was not settled: it has no numbers left, or which call has failed
abbrev pub HasCause : Disk → Disk → Redone → SettleFault → Type 0
HasCause old new found NoNumbers = (¬ HasNumbersLeft found) × (new ≡ old)
HasCause old new found (Slot fault) = HasSlotCause old new fault
HasCause old new found (Write vol) = new.write_faults ≡ raised_at old.write_faults vol
