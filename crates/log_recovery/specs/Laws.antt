-- What holds of recovery, whatever calls are made.
use Rattle.std.specs.Prelude.{◌≡◌, ℕ, List, Some}
use Rattle.log_ring.specs.volume_disk.Disk.{Disk, IsSettled, Tells}
use Rattle.log_ring.specs.volume_disk.Image.{Image, SameOutside}
use Rattle.log_ring.specs.volume_disk.Run.{LeavesOnly, OnlyReads}
use Rattle.log_ring.specs.disk_label.Slot.{HasReadied, IsBody, IsReadyFor, ReadiesSlot, StaysSynced}
use Rattle.log_ring.specs.disk_label.declared.anchor.Anchor.{Anchor}
use Rattle.log_ring.specs.Groups.{Group, HasLog}
use Rattle.log_ring.specs.Settling.{IsRedoneAs}
use Rattle.log_recovery.specs.Outcome.{HasGoodAnchor, HasRecovered, IsFirstFault}
use Rattle.log_recovery.specs.Readable.{IsGoodNow}
use Rattle.log_recovery.specs.Settled.{MaySettle, settled_anchor}
use Rattle.log_recovery.specs.declared.redone.Redone.{Redone}

-- an image that has a good anchor and a log after it has no place at which there is no domain
abbrev pub HasNoFault : List ℕ → Image → Anchor → List Group → ℕ → ℕ → Type 0
HasNoFault sizes image anchor groups vol at =
    HasGoodAnchor sizes image anchor → HasLog sizes anchor groups image
    → ¬ IsFirstFault sizes image vol at

-- and any other image has one first place of that
abbrev pub HasOneFault : List ℕ → Image → ℕ → ℕ → ℕ → ℕ → Type 0
HasOneFault sizes image vol at other_vol other_at =
    IsFirstFault sizes image vol at → IsFirstFault sizes image other_vol other_at
    → (vol ≡ other_vol) × (at ≡ other_at)

-- the log that an image has is the one that is recovered of it
abbrev pub HasOneLog : List ℕ → Image → Anchor → List Group → List Group → Redone → Type 0
HasOneLog sizes image anchor groups others redone =
    HasLog sizes anchor groups image → HasRecovered sizes image others redone
    → (anchor ≡ redone.anchor) × (groups ≡ others)

-- what is recovered of the contents may be settled, if nothing is pending and the slot of the next
-- anchor is ready
abbrev pub MaySettleSynced : Disk → List Group → Redone → Type 0
MaySettleSynced disk groups redone =
    IsSettled disk.now → HasRecovered disk.sizes disk.now.contents groups redone
    → IsReadyFor disk (Some redone.anchor) (settled_anchor redone)
    → MaySettle disk groups redone

-- an image has the anchor and the log that were recovered of contents, and all that stood there but
-- in the body of the next anchor's slot; so it has the same pages once redone
pub record IsAsRecovered (start : Disk) (groups : List Group) (redone : Redone) (image : Image)
    : Type 0 where
  pub good : HasGoodAnchor start.sizes image redone.anchor
  pub log : HasLog start.sizes redone.anchor groups image
  pub outside : let slot = (settled_anchor redone).slot in
      SameOutside (IsBody redone.anchor.log_vol slot) start.now.contents image
  pub same : IsRedoneAs groups start.now.contents groups image

-- if nothing was pending when recovery began, each image that is left since then is such an image,
-- until the slot was made ready or that was cut short
abbrev pub StaysRecovered : Disk → Disk → Disk → List Group → Redone → Type 0
StaysRecovered start found ready groups redone =
    let vol = redone.anchor.log_vol in
    let slot = (settled_anchor redone).slot in
    Tells start → IsSettled start.now
    → HasRecovered start.sizes start.now.contents groups redone → OnlyReads start found
    → ReadiesSlot found ready vol slot
    → LeavesOnly start ready (IsAsRecovered start groups redone)

-- a log may be settled as it was recovered, its anchor is good, and nothing is pending
pub record IsReadyToSettle (disk : Disk) (groups : List Group) (redone : Redone) : Type 0 where
  pub may_settle : MaySettle disk groups redone
  pub good : IsGoodNow disk redone.anchor
  pub settled : IsSettled disk.now

-- a log is ready to be settled once it was recovered from contents with nothing pending, and the
-- slot of the next anchor was made ready
abbrev pub ReadiesToSettle : Disk → Disk → Disk → List Group → Redone → Type 0
ReadiesToSettle start found ready groups redone =
    let vol = redone.anchor.log_vol in
    let slot = (settled_anchor redone).slot in
    Tells start → IsSettled start.now
    → HasRecovered start.sizes start.now.contents groups redone → OnlyReads start found
    → ReadiesSlot found ready vol slot → HasReadied found ready vol slot
    → StaysSynced found ready → IsReadyToSettle ready groups redone
