-- Which anchor is the domain's. The slots of all volumes are numbered from 0, in the order of
-- volume and slot.
use Rattle.std.specs.Prelude.{◌≡◌, ◌⊎◌, ◌==◌, ◌+◌, ◌-◌, ◌*◌, ◌/◌, ◌%◌, ◌<◌, ◌≤◌, ℕ, nat_le, if◌then◌else◌, List, Option, Some, None, IsSome}
use Rattle.volume_disk.specs.Disk.{volume_pages}
use Rattle.volume_disk.specs.Gate.{IsOpenAt}
use Rattle.volume_disk.specs.Image.{Image, bytes_at}
use Rattle.disk_label.specs.Body.{anchor_from, HasLogMember}
use Rattle.disk_label.specs.FirstPages.{gate_byte}
use Rattle.disk_label.specs.declared.anchor.Anchor.{Anchor}

-- the volume of a slot
abbrev pub volume_of : ℕ → ℕ
volume_of place = place / 2 + 1

-- the byte of its gate, the block that its body follows
abbrev pub gate_of : ℕ → ℕ
gate_of place = gate_byte (place % 2)

-- what stands in it, whether it counts or not
abbrev pub anchor_at : Image → ℕ → Anchor
anchor_at image place =
    anchor_from (bytes_at image (volume_of place) (gate_of place + 512) 512) (place % 2)

-- the slot holds an anchor that counts: the rack has the slot, its gate is open, and the body gives
-- its own volume both as the log's and as a member
pub record Counts (sizes : List ℕ) (image : Image) (place : ℕ) : Type 0 where
  pub there : 2 ≤ volume_pages sizes (volume_of place)
  pub is_open : IsOpenAt image (volume_of place) (gate_of place)
  pub names : (anchor_at image place).log_vol ≡ volume_of place
  pub member : HasLogMember (anchor_at image place)

-- what is found in a slot: an anchor that counts, or none
abbrev pub StandsAt : List ℕ → Image → ℕ → Option Anchor → Type 0
StandsAt sizes image place None = ¬ Counts sizes image place
StandsAt sizes image place (Some anchor) =
    Counts sizes image place × (anchor_at image place ≡ anchor)

-- the anchor is met at some slot below n: no slot there has a higher number, and no earlier one the
-- same
pub record IsGreatest (n : ℕ) (sizes : List ℕ) (image : Image) (anchor : Anchor) : Type 0 where
  pub place : ℕ
  pub below : place < n
  pub counts : Counts sizes image place
  pub is : anchor_at image place ≡ anchor
  pub greatest : (p : ℕ) → p < n → Counts sizes image p → (anchor_at image p).number ≤ anchor.number
  pub first : (p : ℕ) → p < place → Counts sizes image p
      → (anchor_at image p).number < anchor.number

-- the anchor of the slots below n, or none if none counts
abbrev pub IsAnchorBelow : ℕ → List ℕ → Image → Option Anchor → Type 0
IsAnchorBelow n sizes image None = (p : ℕ) → p < n → ¬ Counts sizes image p
IsAnchorBelow n sizes image (Some anchor) = IsGreatest n sizes image anchor

-- of two that were found one after the other, the second only if its number is higher
abbrev pub greater_of : Option Anchor → Option Anchor → Option Anchor
greater_of best None = best
greater_of None (Some found) = Some found
greater_of (Some best) (Some found) = Some (if nat_le found.number best.number then best else found)

-- the domain's anchor in an image of a rack with volumes of these sizes
abbrev pub IsAnchor : List ℕ → Image → Option Anchor → Type 0
IsAnchor sizes image anchor = IsAnchorBelow 16 sizes image anchor

-- an anchor that may be written: its version is 3 or 4, its log stands on a member, and it has a
-- table
pub record IsWhole (anchor : Anchor) : Type 0 where
  pub version : (anchor.version ≡ 3) ⊎ (anchor.version ≡ 4)
  pub volume : (1 ≤ anchor.log_vol) × (anchor.log_vol ≤ 8)
  pub slot : anchor.slot ≤ 1
  pub member : HasLogMember anchor
  pub table : IsSome anchor.table

-- the slot that an anchor names
abbrev pub place_of : Anchor → ℕ
place_of anchor = 2 * (anchor.log_vol - 1) + anchor.slot

-- its number is one higher, and its slot the other one while the log stays on its volume, else slot
-- 0
abbrev pub IsNext : Option Anchor → Anchor → Type 0
IsNext None new = (new.number ≡ 1) × (new.slot ≡ 0)
IsNext (Some old) new =
    (new.number ≡ old.number + 1)
    × (new.slot ≡ (if new.log_vol == old.log_vol then 1 - old.slot else 0))
