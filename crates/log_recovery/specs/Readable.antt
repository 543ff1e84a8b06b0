-- Images whose log recovery takes, and laws that calls leave no others.
use Rattle.std.specs.Prelude.{◌≡◌, ℕ, ◌+◌, ◌*◌, ◌^◌, ◌<◌, ◌≤◌, List, Some}
use Rattle.log_ring.specs.domain_base.Limits.{block_bytes, log_pages, page_bytes}
use Rattle.log_ring.specs.volume_disk.Disk.{Disk, MayLeave, Tells}
use Rattle.log_ring.specs.volume_disk.Image.{Image, Places}
use Rattle.log_ring.specs.volume_disk.Run.{LeavesOnly, OnlyWrites, Touches}
use Rattle.log_ring.specs.disk_label.Anchor.{IsAnchor}
use Rattle.log_ring.specs.disk_label.FirstPages.{anchors_page}
use Rattle.log_ring.specs.disk_label.declared.anchor.Anchor.{Anchor}
use Rattle.log_ring.specs.declared.image.PageImage.{PageImage}
use Rattle.log_ring.specs.Groups.{Group, HasLog}
use Rattle.log_ring.specs.Homes.{HaveHomes, IsMember}
use Rattle.log_ring.specs.Settling.{IsAtHomesOrSlot, MeansTheSame}
use Rattle.log_recovery.specs.Members.{AreLabelled, label_version}
use Rattle.log_recovery.specs.Outcome.{HasGoodAnchor}
use Rattle.log_recovery.specs.Range.{IsInRange}
use Rattle.log_recovery.specs.Settled.{MaySettle}
use Rattle.log_recovery.specs.declared.redone.Redone.{Redone}

-- recovery takes the log of an image: its anchor is good, and the groups after that are in order
pub record IsReadable (sizes : List ℕ) (image : Image) : Type 0 where
  pub anchor : Anchor
  pub groups : List Group
  pub good : HasGoodAnchor sizes image anchor
  pub log : HasLog sizes anchor groups image

-- an anchor would be good on an image: its members have their labels, with which it is in range
pub record WouldBeGood (sizes : List ℕ) (image : Image) (anchor : Anchor) : Type 0 where
  pub labelled : AreLabelled sizes image anchor
  pub in_range : IsInRange (label_version image) anchor

-- an anchor would be good on each image that a stop might leave now
abbrev pub WouldBeGoodNow : Disk → Anchor → Type 0
WouldBeGoodNow disk anchor =
    (image : Image) → MayLeave disk.now image → WouldBeGood disk.sizes image anchor

-- each image that a stop might leave now has this good anchor
abbrev pub IsGoodNow : Disk → Anchor → Type 0
IsGoodNow disk anchor =
    (image : Image) → MayLeave disk.now image → HasGoodAnchor disk.sizes image anchor

-- an anchor with another number, slot, start and first group
abbrev pub restarted : Anchor → ℕ → ℕ → ℕ → ℕ → Anchor
restarted anchor number slot start group = record anchor {
  number = number;
  slot = slot;
  start = start;
  group = group;
}

-- these alone differ from another anchor
abbrev pub IsRestartOf : Anchor → Anchor → Type 0
IsRestartOf first anchor =
    anchor ≡ restarted first anchor.number anchor.slot anchor.start anchor.group

-- it would be good too, if these are in their ranges
abbrev pub RestartsGood : Disk → Anchor → ℕ → ℕ → ℕ → ℕ → Type 0
RestartsGood disk anchor number slot start group =
    IsGoodNow disk anchor → 1 ≤ number → number < 2 ^ 63 → slot ≤ 1 → start < log_pages
    → group < 2 ^ 63 → WouldBeGoodNow disk (restarted anchor number slot start group)

-- the bytes of no label of a member
abbrev pub IsBesideLabels : Anchor → Places
IsBesideLabels anchor v k = ¬ (IsMember anchor v × (k < block_bytes))

-- calls that touch none of these labels, and leave the anchor that each image had, leave it good
abbrev pub KeepsGoodBeside : Disk → Disk → Anchor → Type 0
KeepsGoodBeside old new anchor =
    Tells old → IsGoodNow old anchor → Touches old new (IsBesideLabels anchor)
    → LeavesOnly old new (λ image. IsAnchor old.sizes image (Some anchor))
    → LeavesOnly old new (λ image. HasGoodAnchor old.sizes image anchor)

-- the pages after those of labels and anchors
abbrev pub IsBehindAnchors : Places
IsBehindAnchors v k = page_bytes * (anchors_page + 1) ≤ k

-- calls that touch no other pages leave a good anchor good, now and at each moment since
abbrev pub KeepsGoodAnchor : Disk → Disk → Anchor → Type 0
KeepsGoodAnchor old new anchor =
    Tells old → IsGoodNow old anchor → Touches old new IsBehindAnchors
    → LeavesOnly old new (λ image. HasGoodAnchor old.sizes image anchor)

-- if images were brought home and an anchor was written, or that was cut short, recovery takes each
-- image since, if both anchors would be good before
abbrev pub LeavesReadable : Disk → Disk → List PageImage → Anchor → List Group → Anchor → Type 0
LeavesReadable old new images anchor groups next =
    Tells old → HaveHomes old.sizes images → OnlyWrites old new (IsAtHomesOrSlot images next)
    → LeavesOnly old new (MeansTheSame old anchor groups next)
    → WouldBeGoodNow old anchor → WouldBeGoodNow old next
    → LeavesOnly old new (IsReadable old.sizes)

-- recovery takes each image while a log that was recovered is settled, and once it is
abbrev pub SettlesReadably : Disk → Disk → Redone → Type 0
SettlesReadably old new redone =
    Tells old → (groups : List Group) → MaySettle old groups redone → IsGoodNow old redone.anchor
    → LeavesOnly old new (IsReadable old.sizes)
