-- What a stop may leave of the domain's anchor, and what the calls on slots leave.
use Rattle.std.specs.Prelude.{◌≡◌, ◌⊎◌, ◌+◌, ◌-◌, ◌*◌, ◌<◌, ◌≤◌, ℕ, false, List, Option, Some, None}
use Rattle.volume_disk.specs.domain_base.Limits.{block_bytes, page_bytes}
use Rattle.volume_disk.specs.Disk.{Disk, MayLeave, Tells}
use Rattle.volume_disk.specs.Image.{Image, IsIn, Places}
use Rattle.volume_disk.specs.Run.{LeavesOnly, MayLeaveTorn, OnlyWrites, Settles, Touches}
use Rattle.disk_label.specs.Anchor.{Counts, IsAnchor, IsNext}
use Rattle.disk_label.specs.FirstPages.{anchors_page, gate_byte}
use Rattle.disk_label.specs.Words.{slot_bytes}
use Rattle.disk_label.specs.declared.anchor.Anchor.{Anchor}

-- Places.

-- the page of anchors of each volume
abbrev pub IsOnAnchors : Places
IsOnAnchors v k = (page_bytes * anchors_page ≤ k) × (k < page_bytes * (anchors_page + 1))

-- a slot of a volume, and in it the gate and the body after it
abbrev pub IsSlot : ℕ → ℕ → Places
IsSlot vol slot = IsIn vol (gate_byte slot) 4096

-- the bytes of a slot's gate, one block
abbrev pub IsGate : ℕ → ℕ → Places
IsGate vol slot = IsIn vol (gate_byte slot) block_bytes

-- the bytes of a slot's body, seven blocks
abbrev pub IsBody : ℕ → ℕ → Places
IsBody vol slot = IsIn vol (gate_byte slot + block_bytes) 3584

-- both gates of a volume
abbrev pub IsGateOf : ℕ → Places
IsGateOf vol v k = IsGate vol 0 v k ⊎ IsGate vol 1 v k

-- What each image has.

-- each image that a stop might leave has this anchor, or none if there is none
abbrev pub HasAnchor : Disk → Option Anchor → Type 0
HasAnchor disk anchor = (image : Image) → MayLeave disk.now image → IsAnchor disk.sizes image anchor

-- a slot of a volume is ready for the next anchor: each image that a stop might leave has the old
-- anchor, or none if there is none, whatever it has for the slot's gate
abbrev pub IsReady : Disk → Option Anchor → ℕ → ℕ → Type 0
IsReady disk old vol slot =
    (image : Image) → MayLeaveTorn (IsGate vol slot) disk.now image → IsAnchor disk.sizes image old

-- the slot that the new anchor names is ready
abbrev pub IsReadyFor : Disk → Option Anchor → Anchor → Type 0
IsReadyFor disk old new = IsReady disk old new.log_vol new.slot

-- it stands in this slot of a volume
abbrev pub StandsIn : Option Anchor → ℕ → ℕ → Type 0
StandsIn None vol slot = ⊥
StandsIn (Some anchor) vol slot = (anchor.log_vol ≡ vol) × (anchor.slot ≡ slot)

-- an image has the old anchor, or none if there was none, or the new one
abbrev pub IsOldOrNew : List ℕ → Option Anchor → Anchor → Image → Type 0
IsOldOrNew sizes old new image = IsAnchor sizes image old ⊎ IsAnchor sizes image (Some new)

-- the first byte of a slot's gate is synced
abbrev pub IsGateSynced : Disk → ℕ → ℕ → Type 0
IsGateSynced disk vol slot = disk.now.unsynced vol (gate_byte slot) ≡ false

-- Calls.

-- an anchor was written, or its write was cut short: in its slot alone, and each image since has
-- the old anchor or the new one, if the slot was ready
pub record WritesAnchor (old new : Disk) (anchor : Anchor) : Type 0 where
  pub writes : OnlyWrites old new (IsSlot anchor.log_vol anchor.slot)
  pub any_moment : Tells old → (before : Option Anchor) → IsReadyFor old before anchor
      → LeavesOnly old new (IsOldOrNew old.sizes before anchor)

-- an anchor is written
pub record HasWritten (old new : Disk) (anchor : Anchor) : Type 0 where
  -- each image has it, if the slot was ready
  pub has_new : Tells old → (before : Option Anchor) → IsReadyFor old before anchor
      → HasAnchor new (Some anchor)
  -- the next anchor on the same volume finds its slot ready
  pub next : Tells old → (before next : Anchor) → IsReadyFor old (Some before) anchor
      → before.log_vol ≡ anchor.log_vol → IsNext (Some anchor) next → next.log_vol ≡ anchor.log_vol
      → IsReadyFor new (Some anchor) next
  -- each other slot that was ready stays so
  pub others : Tells old → (before : Option Anchor) (vol slot : ℕ) → IsReadyFor old before anchor
      → IsReady old before vol slot → ¬ StandsIn (Some anchor) vol slot
      → IsReady new (Some anchor) vol slot
  -- these are its slot's bytes
  pub settled : Tells old
      → Settles anchor.log_vol (gate_byte anchor.slot) (slot_bytes anchor) old.now new.now

-- A slot was made ready, or that was cut short. Nothing is changed but its body. If its gate was
-- synced, each image since has the anchor that all of them had, and each other slot that was ready
-- stays ready.
pub record ReadiesSlot (old new : Disk) (vol slot : ℕ) : Type 0 where
  pub touches : Touches old new (IsBody vol slot)
  pub any_moment : Tells old → (before : Option Anchor) → HasAnchor old before
      → IsGateSynced old vol slot → LeavesOnly old new (λ image. IsAnchor old.sizes image before)
  pub others : Tells old → (before : Option Anchor) (v s : ℕ) → IsGateSynced old vol slot
      → ¬ ((v ≡ vol) × (s ≡ slot)) → IsReady old before v s → IsReady new before v s

-- a slot is made ready: it is ready for the anchor that all images had, if that does not stand
-- there and the gate was synced
abbrev pub HasReadied : Disk → Disk → ℕ → ℕ → Type 0
HasReadied old new vol slot =
    Tells old → (before : Option Anchor) → HasAnchor old before → IsGateSynced old vol slot
    → ¬ StandsIn before vol slot → IsReady new before vol slot

-- what was synced still is
abbrev pub StaysSynced : Disk → Disk → Type 0
StaysSynced old new =
    Tells old → (v k : ℕ) → old.now.unsynced v k ≡ false → new.now.unsynced v k ≡ false

-- no image that a stop might leave has an anchor that counts in a slot of this volume
abbrev pub HasNoAnchorOn : Disk → ℕ → Type 0
HasNoAnchorOn disk vol =
    (image : Image) → MayLeave disk.now image
    → (slot : ℕ) → slot ≤ 1 → ¬ Counts disk.sizes image (2 * (vol - 1) + slot)
