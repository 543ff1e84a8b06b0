-- The labels of the members of an anchor.
use Rattle.std.specs.Prelude.{◌≡◌, ◌==◌, ◌-◌, ◌<◌, ◌≤◌, ℕ, List, Option, Some, None, if◌then◌else◌, length, slice_index_or}
use Rattle.log_ring.specs.domain_base.declared.version.Version.{Version}
use Rattle.log_ring.specs.domain_base.declared.version.Version.TheVariants.{Three, Four}
use Rattle.log_ring.specs.volume_disk.Disk.{volume_pages}
use Rattle.log_ring.specs.volume_disk.Image.{Image}
use Rattle.log_ring.specs.disk_label.Body.{word_at}
use Rattle.log_ring.specs.disk_label.FirstPages.{label_page}
use Rattle.log_ring.specs.disk_label.Label.{IsLabel, label_block}
use Rattle.log_ring.specs.disk_label.declared.anchor.Anchor.{Anchor}
use Rattle.log_ring.specs.disk_label.declared.label.Label.{Label}
use Rattle.log_ring.specs.Homes.{IsMember, member_of}

-- the version that the label of a volume names, if it is a label
abbrev pub label_version : Image → ℕ → Version
label_version image vol = if word_at (label_block image vol) 2 == 3 then Three else Four

-- the label that a member has to have: it says the pages that the anchor says
abbrev pub label_wanted : Image → Anchor → ℕ → Label
label_wanted image anchor vol =
    record { pages = (member_of anchor vol).pages; version = label_version image vol }

-- a volume is in the rack, and has the label of a member. Under an anchor of version 3 every label
-- has version 3.
pub record IsLabelled (sizes : List ℕ) (image : Image) (anchor : Anchor) (vol : ℕ) : Type 0 where
  pub there : 1 ≤ volume_pages sizes vol
  pub label : IsLabel (volume_pages sizes vol) vol (label_wanted image anchor vol)
      (label_block image vol)
  pub version : anchor.version ≡ 3 → label_version image vol ≡ Three

-- the members below this volume have their labels
abbrev pub AreLabelledBelow : ℕ → List ℕ → Image → Anchor → Type 0
AreLabelledBelow n sizes image anchor =
    (vol : ℕ) → vol < n → IsMember anchor vol → IsLabelled sizes image anchor vol

-- all members have their labels
abbrev pub AreLabelled : List ℕ → Image → Anchor → Type 0
AreLabelled sizes image anchor =
    (vol : ℕ) → IsMember anchor vol → IsLabelled sizes image anchor vol

-- this is the first member that has no label, at its page
pub record IsFirstUnlabelled (sizes : List ℕ) (image : Image) (anchor : Anchor) (vol at : ℕ)
    : Type 0 where
  pub before : AreLabelledBelow vol sizes image anchor
  pub member : IsMember anchor vol
  pub wrong : ¬ IsLabelled sizes image anchor vol
  pub page : at ≡ label_page

-- a volume of the rack has the pages that an anchor says
pub record IsThere (sizes : List ℕ) (anchor : Anchor) (vol : ℕ) : Type 0 where
  pub volume : vol ≤ length sizes
  pub pages : (member_of anchor vol).pages ≤ volume_pages sizes vol

-- the members below this volume have the pages that the anchor says
abbrev pub AreThereBelow : ℕ → List ℕ → Anchor → Type 0
AreThereBelow n sizes anchor =
    (vol : ℕ) → vol < n → IsMember anchor vol → IsThere sizes anchor vol

-- all members have them
abbrev pub AreThere : List ℕ → Anchor → Type 0
AreThere sizes anchor = (vol : ℕ) → IsMember anchor vol → IsThere sizes anchor vol

-- What is kept of the labels that were read.

-- the version of a label, if it says `pages` pages and an anchor of this version allows it
abbrev pub HasLabel : ℕ → ℕ → Label → Option Version → Type 0
HasLabel version pages label None =
    ¬ ((label.pages ≡ pages) × (version ≡ 3 → label.version ≡ Three))
HasLabel version pages label (Some found) =
    (label.pages ≡ pages) × (version ≡ 3 → label.version ≡ Three) × (label.version ≡ found)

-- the version of a volume in a table with an entry for each
abbrev pub version_in : List Version → ℕ → Version
version_in versions vol = slice_index_or versions (vol - 1) Three

-- a table has the versions of the labels of the members below this volume
abbrev pub AreVersionsBelow : ℕ → Image → Anchor → List Version → Type 0
AreVersionsBelow n image anchor versions =
    (vol : ℕ) → vol < n → IsMember anchor vol → version_in versions vol ≡ label_version image vol
