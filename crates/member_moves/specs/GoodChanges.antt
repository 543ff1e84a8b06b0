-- Changes of an anchor that keep it good: what each asks.
use Rattle.std.specs.Prelude.{◌≡◌, ◌≢◌, ℕ, ◌^◌, ◌<◌, ◌≤◌, List, Some, length}
use Rattle.log_recovery.specs.domain_base.Limits.{log_pages, max_volumes, min_volume_pages}
use Rattle.log_recovery.specs.domain_base.Version.{most_pages}
use Rattle.log_recovery.specs.domain_base.declared.place.Home.{Home}
use Rattle.log_recovery.specs.volume_disk.Image.{Image}
use Rattle.log_recovery.specs.disk_label.declared.anchor.Anchor.{Anchor}
use Rattle.log_recovery.specs.disk_label.declared.anchor.Member.{Member}
use Rattle.log_recovery.specs.log_ring.Homes.{IsMember, member_of}
use Rattle.log_recovery.specs.Members.{IsLabelled, label_version}
use Rattle.log_recovery.specs.Range.{IsLogInside}
use Rattle.log_recovery.specs.Readable.{WouldBeGood, restarted}
use Rattle.member_moves.specs.Changes.{IsTableOn, with_entry}

-- it stays one that would be good if its number, its slot, its start and its first group change,
-- each within its range
abbrev pub StaysGoodRestarted : List ℕ → Image → Anchor → ℕ → ℕ → ℕ → ℕ → Type 0
StaysGoodRestarted sizes image anchor number slot start group =
    WouldBeGood sizes image anchor → 1 ≤ number → number < 2 ^ 63 → slot ≤ 1 → start < log_pages
    → group < 2 ^ 63 → WouldBeGood sizes image (restarted anchor number slot start group)

-- a volume may become a member: it has its label with these pages, no fewer than a volume must have
-- and no more than its version allows
pub record MayJoin (sizes : List ℕ) (image : Image) (anchor : Anchor) (vol : ℕ) (member : Member)
    : Type 0 where
  pub first : 1 ≤ vol
  pub last : vol ≤ max_volumes
  pub entries : length anchor.members ≡ max_volumes
  pub labelled : IsLabelled sizes image (with_entry vol member anchor) vol
  pub least : min_volume_pages ≤ member.pages
  pub most : member.pages ≤ most_pages (label_version image vol)
  pub state : (1 ≤ member.state) × (member.state ≤ 2)

-- it stays good once a volume that is no member becomes one
abbrev pub StaysGoodJoined : List ℕ → Image → Anchor → ℕ → Member → Type 0
StaysGoodJoined sizes image anchor vol member =
    WouldBeGood sizes image anchor → ¬ IsMember anchor vol
    → MayJoin sizes image anchor vol member
    → WouldBeGood sizes image (with_entry vol member anchor)

-- the anchor with this state of a volume
abbrev pub in_state : ℕ → ℕ → Anchor → Anchor
in_state vol state anchor = with_entry vol (record (member_of anchor vol) { state = state }) anchor

-- it stays good once a member is opened or closed
abbrev pub StaysGoodInState : List ℕ → Image → Anchor → ℕ → ℕ → Type 0
StaysGoodInState sizes image anchor vol state =
    WouldBeGood sizes image anchor → IsMember anchor vol → 1 ≤ state → state ≤ 2
    → WouldBeGood sizes image (in_state vol state anchor)

-- it stays good once a member is taken off that has neither the log nor the fileset table
abbrev pub StaysGoodWithout : List ℕ → Image → Anchor → ℕ → Type 0
StaysGoodWithout sizes image anchor vol =
    WouldBeGood sizes image anchor → IsMember anchor vol → anchor.log_vol ≢ vol
    → ¬ IsTableOn anchor vol → WouldBeGood sizes image (in_state vol 0 anchor)

-- it stays good if the log goes to a member, inside it and after its label, anchors and bitmap
abbrev pub StaysGoodWithLog : List ℕ → Image → Anchor → ℕ → ℕ → Type 0
StaysGoodWithLog sizes image anchor vol first =
    WouldBeGood sizes image anchor → IsMember anchor vol
    → IsLogInside (label_version image vol) (record anchor { log_vol = vol; log_page = first })
    → WouldBeGood sizes image (record anchor { log_vol = vol; log_page = first })

-- it stays good if the fileset table goes to a page of a member
abbrev pub StaysGoodWithTable : List ℕ → Image → Anchor → Home → Type 0
StaysGoodWithTable sizes image anchor home =
    WouldBeGood sizes image anchor → IsMember anchor home.vol
    → home.page < (member_of anchor home.vol).pages
    → WouldBeGood sizes image (record anchor { table = Some home })

-- it stays good in version 4, whose members may have labels of either version
abbrev pub StaysGoodUpgraded : List ℕ → Image → Anchor → Type 0
StaysGoodUpgraded sizes image anchor =
    WouldBeGood sizes image anchor → WouldBeGood sizes image (record anchor { version = 4 })
