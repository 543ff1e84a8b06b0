-- What stands of a log stays while calls touch neither the pages of anchors nor the ring.
use Rattle.std.proofs.Common.{◌≡◌, ℕ, List, Some, subst, sym}
use Rattle.disk_label.specs.volume_disk.Disk.{Disk}
use Rattle.disk_label.specs.volume_disk.Image.{Image, SameIn}
use Rattle.disk_label.specs.volume_disk.Run.{LeavesOnly, MayLeaveTorn, end_of}
use Rattle.disk_label.proofs.OfVolumeDisk.Laws.{both, leaves-now, touches-joined, touches-stays, weaker}
use Rattle.disk_label.specs.Anchor.{IsAnchor}
use Rattle.disk_label.specs.Slot.{IsOnAnchors}
use Rattle.disk_label.specs.declared.anchor.Anchor.{Anchor}
use Rattle.disk_label.proofs.Elsewhere.{IsAnchor-elsewhere}
use Rattle.log_ring.specs.Groups.{Group, HasLog}
use Rattle.log_ring.specs.LogLaws.{IsElsewhere, KeepsLog, KeepsLogAlong, KeepsLogBeside, LogStays}
use Rattle.log_ring.specs.Ring.{IsOnLog}
use Rattle.log_ring.proofs.OnImages.{groups-same, read_on_log}

-- images that agree on the pages of anchors and on the ring have the same log
pub log-same : (sizes : List ℕ) (anchor : Anchor) (groups : List Group) (old new : Image) → SameIn IsOnAnchors old new → SameIn (IsOnLog anchor) old new → HasLog sizes anchor groups old → HasLog sizes anchor groups new
log-same sizes anchor groups old new anchors ring has = record {
  anchor_is = IsAnchor-elsewhere old new anchors sizes (Some anchor) has.anchor_is;
  groups_are = groups-same anchor anchor.start anchor.group groups old new (λ v k is. ring v k (read_on_log anchor anchor.start groups v k is)) has.groups_are;
  fits = has.fits;
}

-- what each image since has, each image of now has
stays_now : (old new : Disk) (anchor : Anchor) (groups : List Group) → new.sizes ≡ old.sizes → LeavesOnly old new (HasLog old.sizes anchor groups) → LogStays old new anchor groups
stays_now old new anchor groups same any = record {
  now = λ image left. subst (λ (sizes : List ℕ). HasLog sizes anchor groups image) (sym same) (leaves-now old new (HasLog old.sizes anchor groups) any image left);
  any_moment = any;
}

pub log_stays : (old new : Disk) (anchor : Anchor) (groups : List Group) → KeepsLog old new anchor groups
log_stays old new anchor groups told stands touches =
    stays_now old new anchor groups touches.sizes
    (touches-stays old new (IsElsewhere anchor) (HasLog old.sizes anchor groups) told touches
    (λ before image same. log-same old.sizes anchor groups before image (λ v k is. same v k (λ out. out.0 is)) (λ v k is. same v k (λ out. out.1 is))) stands)

pub log_along : (old : Disk) (disks : List Disk) (anchor : Anchor) (groups : List Group) → KeepsLogAlong old disks anchor groups
log_along old disks anchor groups told stands each = log_stays old (end_of old disks) anchor groups told stands (touches-joined (IsElsewhere anchor) old disks each)

-- where the anchor stays, the groups of the ring stay
pub log_beside : (old new : Disk) (anchor : Anchor) (groups : List Group) → KeepsLogBeside old new anchor groups
log_beside old new anchor groups told stands touches anchors =
    stays_now old new anchor groups touches.sizes
    (weaker old new (λ image. Torn image × Has image) (HasLog old.sizes anchor groups)
    (λ image is.
    let torn = is.0 in
    let was = stands torn.0 torn.1 in
    record {
      anchor_is = is.1;
      groups_are = groups-same anchor anchor.start anchor.group groups torn.0 image (λ v k read. torn.2 v k (λ off. off (read_on_log anchor anchor.start groups v k read))) was.groups_are;
      fits = was.fits;
    })
    (both old new Torn Has (touches.tears told) anchors))
  where
    Torn : Image → Type 0
    Torn = MayLeaveTorn (λ v k. ¬ IsOnLog anchor v k) old.now

    Has : Image → Type 0
    Has image = IsAnchor old.sizes image (Some anchor)
