-- What recovery finds on an image: a log and its images, or the first place at which there is no
-- domain.
use Rattle.std.specs.Prelude.{◌≡◌, ◌⊎◌, ◌+◌, ◌%◌, ◌<◌, ℕ, List, Some, None, length}
use Rattle.log_ring.specs.domain_base.Limits.{log_pages}
use Rattle.log_ring.specs.volume_disk.Image.{Image}
use Rattle.log_ring.specs.disk_label.Anchor.{IsAnchor, IsWhole}
use Rattle.log_ring.specs.disk_label.FirstPages.{anchors_page}
use Rattle.log_ring.specs.disk_label.declared.anchor.Anchor.{Anchor}
use Rattle.log_ring.specs.Groups.{Group, HasLog, images_of, span}
use Rattle.log_ring.specs.Homes.{AreLoggable, HasMembers}
use Rattle.log_ring.specs.Ring.{IsRing}
use Rattle.log_recovery.specs.Groups.{IsFirstNoGroup}
use Rattle.log_recovery.specs.Members.{AreLabelled, IsFirstUnlabelled, label_version}
use Rattle.log_recovery.specs.Range.{HasNumbers, IsInRange}
use Rattle.log_recovery.specs.declared.redone.Redone.{Redone}

-- an anchor counts, its members have their labels, and it is in range
pub record HasGoodAnchor (sizes : List ℕ) (image : Image) (anchor : Anchor) : Type 0 where
  pub anchor_is : IsAnchor sizes image (Some anchor)
  pub labelled : AreLabelled sizes image anchor
  pub in_range : IsInRange (label_version image) anchor

-- The first place at which there is no domain.

-- the first member that has no label, at its page
pub record IsLabelFault (sizes : List ℕ) (image : Image) (vol at : ℕ) : Type 0 where
  pub anchor : Anchor
  pub anchor_is : IsAnchor sizes image (Some anchor)
  pub first : IsFirstUnlabelled sizes image anchor vol at

-- all members have one, and the anchor is out of range
pub record IsOutOfRange (sizes : List ℕ) (image : Image) : Type 0 where
  pub anchor : Anchor
  pub anchor_is : IsAnchor sizes image (Some anchor)
  pub labelled : AreLabelled sizes image anchor
  pub wrong : ¬ IsInRange (label_version image) anchor

-- no anchor counts, or it is out of range: that stands at the page of anchors of volume 1
pub record IsAnchorFault (sizes : List ℕ) (image : Image) (vol at : ℕ) : Type 0 where
  pub volume : vol ≡ 1
  pub page : at ≡ anchors_page
  pub wrong : IsAnchor sizes image None ⊎ IsOutOfRange sizes image

-- the anchor is good, and after some groups of its log, this page has an open gate, but no group
-- that may be next
pub record IsGroupFault (sizes : List ℕ) (image : Image) (vol at : ℕ) : Type 0 where
  pub anchor : Anchor
  pub good : HasGoodAnchor sizes image anchor
  pub first : IsFirstNoGroup image anchor vol at

-- the first place at which an image has no domain: a label, an anchor or a group
abbrev pub IsFirstFault : List ℕ → Image → ℕ → ℕ → Type 0
IsFirstFault sizes image vol at =
    IsLabelFault sizes image vol at ⊎ IsAnchorFault sizes image vol at
    ⊎ IsGroupFault sizes image vol at

-- What is recovered.

-- an image has a good anchor and a log of groups; their images, the number that the next group
-- has, and its place
pub record HasRecovered (sizes : List ℕ) (image : Image) (groups : List Group) (redone : Redone)
    : Type 0 where
  pub good : HasGoodAnchor sizes image redone.anchor
  pub log : HasLog sizes redone.anchor groups image
  pub images : images_of groups ≡ redone.images
  pub next_group : redone.next_group ≡ redone.anchor.group + length groups
  pub next_place : redone.next_place ≡ (redone.anchor.start + span groups) % log_pages

-- an anchor whose log and members the rack has, whatever stands there
pub record IsUsable (sizes : List ℕ) (anchor : Anchor) : Type 0 where
  pub whole : IsWhole anchor
  pub numbers : HasNumbers anchor
  pub ring : IsRing sizes anchor
  pub members : HasMembers sizes anchor

-- the images may be brought home, and a next anchor written
pub record IsSound (sizes : List ℕ) (redone : Redone) : Type 0 where
  pub usable : IsUsable sizes redone.anchor
  pub loggable : AreLoggable redone.anchor redone.images
  pub place : redone.next_place < log_pages
