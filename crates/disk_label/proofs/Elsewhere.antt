-- What stands on other pages than those of anchors has no say in which anchor is the domain's.
use Rattle.std.proofs.Common.{◌≡◌, ℕ, ◌+◌, ◌*◌, ◌%◌, List, Option, sym, ◌∙◌, ap, subst, inl, inr, arith}
use Rattle.volume_disk.specs.Disk.{Disk, Tells}
use Rattle.volume_disk.specs.Image.{Image, Places, SameIn}
use Rattle.volume_disk.specs.Run.{LeavesOnly, MayLeaveTorn, Touches}
use Rattle.volume_disk.proofs.Bytes.{bytes_from-same}
use Rattle.volume_disk.proofs.Laws.{leaves-now, mixed-bytes, touches-stays}
use Rattle.volume_disk.proofs.Places.{in_or_out, mixed, mixed-in, mixed-out}
use Rattle.disk_label.specs.Anchor.{volume_of, gate_of, anchor_at, Counts, IsAnchor}
use Rattle.disk_label.specs.Body.{anchor_from}
use Rattle.disk_label.specs.Laws.{KeepsAnchors, ShowsAnchor, StaysReady}
use Rattle.disk_label.specs.Slot.{HasAnchor, IsOnAnchors, IsReady}
use Rattle.disk_label.proofs.Slots.{Counts-same, IsAnchorBelow-kept}
use Rattle.disk_label.specs.declared.anchor.Anchor.{Anchor}

module _ (b image : Image) (same : SameIn IsOnAnchors b image) (sizes : List ℕ) where
  anchor_same : (q : ℕ) → anchor_at image q ≡ anchor_at b q
  anchor_same q =
      ap (λ (l : List ℕ). anchor_from l (q % 2)) (bytes_from-same (image (volume_of q)) (b (volume_of q)) (gate_of q + 512) 512 (λ k le lt. same (volume_of q) k (omega arith, omega arith)))

  gate_same : (q : ℕ) → image (volume_of q) (gate_of q) ≡ b (volume_of q) (gate_of q)
  gate_same q = same (volume_of q) (gate_of q) (omega arith, omega arith)

  counts_before : (q : ℕ) → Counts sizes image q → Counts sizes b q × (anchor_at image q ≡ anchor_at b q)
  counts_before q counts = (Counts-same sizes image b q (sym (gate_same q)) (sym (anchor_same q)) counts, anchor_same q)

  counts_after : (q : ℕ) → Counts sizes b q → Counts sizes image q × (anchor_at image q ≡ anchor_at b q)
  counts_after q counts = (Counts-same sizes b image q (gate_same q) (anchor_same q) counts, anchor_same q)

  pub IsAnchor-elsewhere : (anchor : Option Anchor) → IsAnchor sizes b anchor → IsAnchor sizes image anchor
  IsAnchor-elsewhere anchor = IsAnchorBelow-kept 16 sizes b image anchor counts_before (λ q counts is. counts_after q counts)

-- where nothing is pending there, each image has the anchor of the contents
pub shows_anchor : (disk : Disk) (anchor : Option Anchor) → ShowsAnchor disk anchor
shows_anchor disk anchor synced has image left =
    IsAnchor-elsewhere disk.now.contents image (λ v k there. left.synced v k (synced v k there)) disk.sizes anchor has

-- a slot stays ready where no image differs from one of before on these pages
pub IsReady-elsewhere : (old new : Disk) (anchor : Option Anchor) (vol slot : ℕ) → StaysReady old new anchor vol slot
IsReady-elsewhere old new anchor vol slot sizes keeps ready image torn =
    let gate = 8192 + 4096 * slot in
    let was = keeps torn.0 torn.1 in
    -- the image of before, with the gate of this one
    let before = mixed vol gate 512 image was.0 in
    let same : SameIn IsOnAnchors before image = λ v k there.
    elim (in_or_out vol gate 512 v k) [
      | inl is_in ↦ sym (mixed-in vol gate 512 image was.0 v k is_in)
      | inr out ↦ torn.2 v k out ∙ was.2 v k there ∙ sym (mixed-out vol gate 512 image was.0 v k out)
    ] in
    subst (λ (l : List ℕ). IsAnchor l image anchor) (sym sizes)
    (IsAnchor-elsewhere before image same old.sizes anchor (ready before (was.0, was.1, mixed-out vol gate 512 image was.0, mixed-bytes vol gate 512 image was.0 torn.3 was.1.bytes)))

-- A run of calls that touches none of these pages.
module _ (old new : Disk) (places : Places) (told : Tells old) (touches : Touches old new places) (beside : (v k : ℕ) → places v k → ¬ IsOnAnchors v k) where
  pub keeps_anchors : KeepsAnchors old new
  keeps_anchors image left =
      let torn = leaves-now old new (MayLeaveTorn places old.now) (touches.tears told) image left in
      (torn.0, torn.1, λ v k there. torn.2 v k (λ is_in. beside v k is_in there))

  -- each image since its start has the anchor that each had
  pub anchor_since : (anchor : Option Anchor) → HasAnchor old anchor → LeavesOnly old new (λ image. IsAnchor old.sizes image anchor)
  anchor_since anchor has =
      touches-stays old new places (λ image. IsAnchor old.sizes image anchor) told touches
      (λ before image same. IsAnchor-elsewhere before image (λ v k there. same v k (λ is_in. beside v k is_in there)) old.sizes anchor) has

  -- and a slot that was ready is so still
  pub ready_still : (anchor : Option Anchor) (vol slot : ℕ) → IsReady old anchor vol slot → IsReady new anchor vol slot
  ready_still anchor vol slot = IsReady-elsewhere old new anchor vol slot touches.sizes keeps_anchors
