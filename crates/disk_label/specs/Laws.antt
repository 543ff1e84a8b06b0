-- What holds of anchors, whatever calls are made.
use Rattle.std.specs.Prelude.{◌≡◌, ℕ, false, List, Option}
use Rattle.volume_disk.specs.Disk.{Disk, MayLeave, Tells}
use Rattle.volume_disk.specs.Image.{Image, SameIn}
use Rattle.volume_disk.specs.Run.{LeavesOnly, Touches}
use Rattle.disk_label.specs.Anchor.{IsAnchor}
use Rattle.disk_label.specs.Slot.{HasAnchor, IsGateOf, IsOnAnchors, IsReady}
use Rattle.disk_label.specs.declared.anchor.Anchor.{Anchor}

-- images that agree on the pages of anchors have the same one
abbrev pub AnchorStays : Image → Image → Type 0
AnchorStays old new =
    SameIn IsOnAnchors old new → (sizes : List ℕ) (anchor : Option Anchor)
    → IsAnchor sizes old anchor → IsAnchor sizes new anchor

-- nothing is pending on the pages of anchors
abbrev pub AreAnchorsSynced : Disk → Type 0
AreAnchorsSynced disk = (v k : ℕ) → IsOnAnchors v k → disk.now.unsynced v k ≡ false

-- each image has the anchor of the contents
abbrev pub ShowsAnchor : Disk → Option Anchor → Type 0
ShowsAnchor disk anchor =
    AreAnchorsSynced disk → IsAnchor disk.sizes disk.now.contents anchor → HasAnchor disk anchor

-- each image of now agrees on the pages of anchors with one that might have been left before
abbrev pub KeepsAnchors : Disk → Disk → Type 0
KeepsAnchors old new =
    (image : Image) → MayLeave new.now image
    → (before : Image) × MayLeave old.now before × SameIn IsOnAnchors before image

-- each image agrees so after calls that touch none of these pages
abbrev pub LeavesAnchors : Disk → Disk → Type 0
LeavesAnchors old new =
    Tells old → Touches old new (λ v k. ¬ IsOnAnchors v k) → KeepsAnchors old new

-- a slot that was ready is so still
abbrev pub StaysReady : Disk → Disk → Option Anchor → ℕ → ℕ → Type 0
StaysReady old new anchor vol slot =
    new.sizes ≡ old.sizes → KeepsAnchors old new
    → IsReady old anchor vol slot → IsReady new anchor vol slot

-- calls that touch none of these pages leave the anchor that each image had, at each moment
abbrev pub KeepsAnchor : Disk → Disk → Option Anchor → Type 0
KeepsAnchor old new anchor =
    Tells old → HasAnchor old anchor → Touches old new (λ v k. ¬ IsOnAnchors v k)
    → LeavesOnly old new (λ image. IsAnchor old.sizes image anchor)

-- calls that touch no more than the gates of a volume whose two slots are ready do so too
abbrev pub KeepsAnchorByGates : Disk → Disk → Option Anchor → ℕ → Type 0
KeepsAnchorByGates old new anchor vol =
    Tells old → IsReady old anchor vol 0 → IsReady old anchor vol 1 → Touches old new (IsGateOf vol)
    → LeavesOnly old new (λ image. IsAnchor old.sizes image anchor)
