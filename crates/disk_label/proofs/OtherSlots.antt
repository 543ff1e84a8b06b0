-- The slots that an anchor is not written into.
use Rattle.std.proofs.Common.{◌≡◌, ℕ, ◌+◌, ◌-◌, ◌*◌, ◌%◌, ◌<◌, ◌≤◌, List, Option, Some, refl, sym, ◌∙◌, ◌==◌, true, ap, subst, arith}
use Rattle.std.proofs.lemmas.Bool.{eq-eqb}
use Rattle.volume_disk.specs.Disk.{Disk, MayLeave, Tells, volume_pages}
use Rattle.volume_disk.specs.Run.{MayLeaveTorn, OnlyWrites}
use Rattle.volume_disk.specs.Image.{AreBytes, Image, IsIn, SameOutside, bytes_at}
use Rattle.volume_disk.proofs.Bytes.{bytes_from-same}
use Rattle.volume_disk.proofs.Laws.{now_counts, torn_before, untorn}
use Rattle.disk_label.specs.Anchor.{volume_of, gate_of, anchor_at, place_of, IsAnchor, IsNext, IsWhole}
use Rattle.disk_label.specs.Slot.{IsReady, IsReadyFor, StandsIn}
use Rattle.disk_label.specs.Body.{anchor_from}
use Rattle.disk_label.proofs.Bodies.{slot_is-anchor_from}
use Rattle.disk_label.proofs.Written.{stands_at, anchor_open, opens, ready_open}
use Rattle.disk_label.specs.declared.anchor.Anchor.{Anchor}

module _ (new : Anchor) (whole : IsWhole new) (vol slot : ℕ) (other : StandsIn (Some new) vol slot → ⊥) where
  abbrev own_gate : ℕ
  own_gate = 8192 + 4096 * new.slot

  abbrev gate : ℕ
  gate = 8192 + 4096 * slot

  -- another slot's gate is no byte of the new anchor's own
  apart : (v k : ℕ) → v ≡ new.log_vol → own_gate ≤ k → k < own_gate + 4096 → ¬ IsIn vol gate 512 v k
  apart v k is low high is_in = let a = is_in.1 in let b = is_in.2 in other (sym is ∙ is_in.0, omega arith)

  -- so where that gate is torn, the new anchor still stands in its slot
  module _ (b image : Image) (torn : SameOutside (IsIn vol gate 512) b image) (sizes : List ℕ) (has : IsAnchor sizes b (Some new)) where
    still_open : image new.log_vol own_gate ≡ 165
    still_open = torn new.log_vol own_gate (apart new.log_vol own_gate refl (omega arith) (omega arith)) ∙ anchor_open new.log_vol new.slot whole.volume.0 whole.slot sizes b new has refl refl

    still_stands : anchor_at image (place_of new) ≡ new
    still_stands =
        let low = whole.volume.0 in
        let high = whole.slot in
        let place = place_of new in
        ap (λ (l : List ℕ). anchor_from l (place % 2)) (bytes_from-same (image (volume_of place)) (b (volume_of place)) (gate_of place + 512) 512 (λ k le lt. torn (volume_of place) k (apart (volume_of place) k (omega arith) (omega arith) (omega arith))))
        ∙ ap (anchor_at b) (sym (stands_at new.log_vol new.slot low high sizes b new has refl refl))
        ∙ has.is

  -- what was ready for the anchor of before is ready for the new one
  pub others_ready : (old : Option Anchor) (d0 d3 : Disk) → Tells d0 → IsNext old new → 2 ≤ volume_pages d0.sizes new.log_vol → IsReady d0 old vol slot → OnlyWrites d0 d3 (IsIn new.log_vol own_gate 4096)
      → ((image : Image) → MayLeave d3.now image → IsAnchor d0.sizes image (Some new)) → IsReady d3 (Some new) vol slot
  others_ready old d0 d3 told next pages ready writes done = λ image torn.
      let before = torn_before d0 d3 (IsIn new.log_vol own_gate 4096) vol gate 512 image told writes.touches torn in
      let has = done torn.0 torn.1 in
      subst (λ (l : List ℕ). IsAnchor l image (Some new)) (sym writes.touches.sizes)
      (opens new.log_vol new.slot whole.volume.0 whole.slot own_gate 4096 (omega arith) (omega arith) before.0 image before.2 d0.sizes old new (ready before.0 before.1) next whole.volume.1 refl whole.member pages
      (still_open torn.0 image torn.2 d0.sizes has) (still_stands torn.0 image torn.2 d0.sizes has))

-- The anchor of before, which stands in the other slot, is older now: that slot is ready.
pub next_ready : (vol slot other : ℕ) → 1 ≤ vol → slot + other ≡ 1 → (old new : Anchor) (d0 d3 : Disk) → Tells d0 → IsReady d0 (Some old) vol slot → old.log_vol ≡ vol → old.slot ≡ other → new.slot ≡ slot
    → OnlyWrites d0 d3 (IsIn vol (8192 + 4096 * slot) 4096) → ((image : Image) → MayLeave d3.now image → IsAnchor d0.sizes image (Some new)) → IsReady d3 (Some new) vol other
next_ready vol slot other low both old new d0 d3 told ready names stands is writes done = λ image torn.
    let only = writes.touches.tears told in
    let was = only.each torn.0 (now_counts d3 d0.calls torn.0 only.later torn.1) in
    let before : was.0 vol (8192 + 4096 * other) ≡ 165 = anchor_open vol other low (omega arith) d0.sizes was.0 old (ready was.0 (untorn (IsIn vol (8192 + 4096 * slot) 512) d0.now was.0 was.1)) names stands in
    let is_open : torn.0 vol (8192 + 4096 * other) ≡ 165 = was.2 vol (8192 + 4096 * other) (λ is_in. let a = is_in.1 in let b = is_in.2 in omega arith) ∙ before in
    subst (λ (l : List ℕ). IsAnchor l image (Some new)) (sym writes.touches.sizes)
    (ready_open vol other low (omega arith) torn.0 image torn.2 d0.sizes (Some new) (λ here. let a = here.1 in omega arith) is_open (done torn.0 torn.1))

slot_bound : (sizes : List ℕ) (image : Image) (anchor : Anchor) → IsAnchor sizes image (Some anchor) → anchor.slot ≤ 1
slot_bound sizes image anchor was =
    let is : was.place % 2 ≡ anchor.slot = sym (slot_is-anchor_from (bytes_at image (volume_of was.place) (gate_of was.place + 512) 512) (was.place % 2)) ∙ (λ i. (was.is i).slot) in
    omega (arith, is)

other_slot : (old new : Anchor) → IsNext (Some old) new → new.log_vol ≡ old.log_vol → new.slot ≡ 1 - old.slot
other_slot old new next same = let test : (new.log_vol == old.log_vol) ≡ true = eq-eqb new.log_vol old.log_vol same in next.1 ∙ (rw test refl)

-- what a rack holds is one of its images
pub here : (disk : Disk) → AreBytes disk.now.contents → {places : ℕ → ℕ → Type 0} → MayLeaveTorn places disk.now disk.now.contents
here disk bytes {places} = untorn places disk.now disk.now.contents (record { synced = λ v k synced. refl; bytes = bytes })

-- so the anchors of one volume go on
pub chain_ready : (old new next : Anchor) (d0 d3 : Disk) → AreBytes d0.now.contents → Tells d0 → IsReadyFor d0 (Some old) new → old.log_vol ≡ new.log_vol → IsNext (Some old) new → 1 ≤ new.log_vol → IsNext (Some new) next → next.log_vol ≡ new.log_vol
    → OnlyWrites d0 d3 (IsIn new.log_vol (8192 + 4096 * new.slot) 4096) → ((image : Image) → MayLeave d3.now image → IsAnchor d0.sizes image (Some new)) → IsReadyFor d3 (Some new) next
chain_ready old new next d0 d3 bytes told before names is low is_next same writes done =
    let bound = slot_bound d0.sizes d0.now.contents old (before d0.now.contents (here d0 bytes)) in
    let own = other_slot old new is (sym names) in
    let slot : old.slot ≡ next.slot = let theirs = other_slot new next is_next same in omega (arith, own, theirs, bound) in
    subst (λ (v : ℕ). IsReady d3 (Some new) v next.slot) (sym same)
    (subst (λ (s : ℕ). IsReady d3 (Some new) new.log_vol s) slot
    (next_ready new.log_vol new.slot old.slot low (omega (arith, own, bound)) old new d0 d3 told before names refl refl writes done))
