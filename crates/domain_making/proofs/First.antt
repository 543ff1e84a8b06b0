-- The first volume while its slots are closed and its label is written.
use Rattle.std.proofs.Common.{◌≡◌, ◌∙◌, ◌⊎◌, inl, inr, ℕ, ◌+◌, ◌-◌, ◌*◌, ◌%◌, ◌≤◌, List, None, sym, ap, subst, arith}
use Rattle.std.proofs.lemmas.Bool.{cases_eq}
use Rattle.domain_layout.specs.domain_base.declared.version.Version.{Version}
use Rattle.domain_layout.specs.volume_disk.Disk.{Disk, MayLeave, Tells}
use Rattle.domain_layout.specs.volume_disk.Image.{Image, IsIn, SameOutside}
use Rattle.domain_layout.specs.volume_disk.Run.{LeavesOnly, MayLeaveTorn, OnlyWrites, Touches}
use Rattle.domain_layout.proofs.OfVolumeDisk.Bytes.{bytes_from-same}
use Rattle.domain_layout.proofs.OfVolumeDisk.Laws.{leaves-now, only_writes-then, only_writes-wider, started, then_on, untorn, weaker}
use Rattle.domain_layout.specs.disk_label.Anchor.{Counts, IsAnchor, gate_of, volume_of}
use Rattle.domain_layout.specs.disk_label.Body.{anchor_from}
use Rattle.domain_layout.specs.disk_label.Slot.{HasAnchor, HasNoAnchorOn, IsGateOf, IsOnAnchors}
use Rattle.domain_layout.proofs.OfDiskLabel.Elsewhere.{anchor_since}
use Rattle.domain_layout.proofs.OfDiskLabel.Gates.{keeps_anchor_by_gates}
use Rattle.domain_layout.proofs.OfDiskLabel.Slots.{Counts-same}
use Rattle.domain_making.specs.Making.{AreSlotsReady, HasNoOtherAnchor, IsBeforeNoneOrEmpty, IsNoneOrEmpty}
use Rattle.domain_making.specs.Written.{IsInFront}

gates_in_front : (v k : ℕ) → IsGateOf 1 v k → IsInFront v k
gates_in_front v k (inl is_in) = (is_in.0, omega arith, omega (arith, is_in.2))
gates_in_front v k (inr is_in) = (is_in.0, omega arith, omega (arith, is_in.2))

label_in_front : (v k : ℕ) → IsIn 1 0 8192 v k → IsInFront v k
label_in_front v k is_in = (is_in.0, omega arith, omega (arith, is_in.2))

label_beside : (v k : ℕ) → IsIn 1 0 8192 v k → ¬ IsOnAnchors v k
label_beside v k is_in there = omega (arith, is_in.2, there.0)

-- gates of the first volume have no say in what counts on another
module _ (before image : Image) (torn : SameOutside (IsGateOf 1) before image) (place : ℕ) (other : ¬ volume_of place ≡ 1) where
  outside : (k : ℕ) → ¬ IsGateOf 1 (volume_of place) k
  outside k (inl is_in) = other is_in.0
  outside k (inr is_in) = other is_in.0

  counted_before : (sizes : List ℕ) → Counts sizes image place → Counts sizes before place
  counted_before sizes counts =
      Counts-same sizes image before place (sym (torn (volume_of place) (gate_of place) (outside (gate_of place))))
      (ap (λ (l : List ℕ). anchor_from l (place % 2)) (sym (bytes_from-same (image (volume_of place)) (before (volume_of place)) (gate_of place + 512) 512 (λ k low high. torn (volume_of place) k (outside k)))))
      counts

-- once both gates are closed, no anchor counts
module _ (d0 d1 : Disk) (told : Tells d0) (touches : Touches d0 d1 (IsGateOf 1)) (others : HasNoOtherAnchor d0) (none : HasNoAnchorOn d1 1) where
  none_at : (image : Image) → MayLeave d1.now image → (place : ℕ) → (volume_of place ≡ 1) ⊎ (¬ volume_of place ≡ 1) → ¬ Counts d1.sizes image place
  none_at image left place (inl first) counts =
      let low : place ≤ 1 = omega (arith, first) in
      let is : 2 * (1 - 1) + place ≡ place = omega arith in
      none image left place low (subst (Counts d1.sizes image) (sym is) counts)
  none_at image left place (inr other) counts =
      let was = leaves-now d0 d1 (MayLeaveTorn (IsGateOf 1) d0.now) (touches.tears told) image left in
      others was.0 was.1 place other (counted_before was.0 image was.2 place other d0.sizes (subst (λ sizes. Counts sizes image place) touches.sizes counts))

  pub no_anchor_now : HasAnchor d1 None
  no_anchor_now image left place below counts = none_at image left place (cases_eq (volume_of place) 1) counts

-- the gates are closed, and the label is written then
module _ (d0 d1 : Disk) (first : OnlyWrites d0 d1 (IsGateOf 1)) where
  pub first_in_front : OnlyWrites d0 d1 IsInFront
  first_in_front = only_writes-wider d0 d1 (IsGateOf 1) IsInFront gates_in_front first

  pub gates_since : Tells d0 → AreSlotsReady d0 → LeavesOnly d0 d1 (λ image. IsAnchor d0.sizes image None)
  gates_since told ready = keeps_anchor_by_gates d0 d1 None 1 told ready.0 ready.1 first.touches

module _ (d0 d1 d2 : Disk) (first : OnlyWrites d0 d1 (IsGateOf 1)) (second : OnlyWrites d1 d2 (IsIn 1 0 8192)) where
  pub both_in_front : OnlyWrites d0 d2 IsInFront
  both_in_front = only_writes-then d0 d1 d2 IsInFront (first_in_front d0 d1 first) (only_writes-wider d1 d2 (IsIn 1 0 8192) IsInFront label_in_front second)

  module _ (told : Tells d0) where
    told_1 : Tells d1
    told_1 = first.touches.told ∙ told

    label_since : HasAnchor d1 None → LeavesOnly d1 d2 (λ image. IsAnchor d1.sizes image None)
    label_since has = anchor_since d1 d2 (IsIn 1 0 8192) told_1 second.touches label_beside None has

    pub none_then : HasNoOtherAnchor d0 → HasNoAnchorOn d1 1 → HasAnchor d2 None
    none_then others none image left =
        let now = no_anchor_now d0 d1 told first.touches others none in
        subst (λ sizes. IsAnchor sizes image None) (sym second.touches.sizes)
        (leaves-now d1 d2 (λ image. IsAnchor d1.sizes image None) (label_since now) image left)

    pub both_since : AreSlotsReady d0 → LeavesOnly d0 d2 (λ image. IsAnchor d0.sizes image None)
    both_since ready =
        let so_far = gates_since d0 d1 first told ready in
        let has : HasAnchor d1 None = λ image left. subst (λ sizes. IsAnchor sizes image None) (sym first.touches.sizes) (leaves-now d0 d1 (λ image. IsAnchor d0.sizes image None) so_far image left) in
        then_on d0 d1 d2 (λ image. IsAnchor d0.sizes image None) so_far
        (subst (λ sizes. LeavesOnly d1 d2 (λ image. IsAnchor sizes image None)) first.touches.sizes (label_since has))

-- ---- over a domain of before

pub gates_over : (version : Version) (pages : ℕ) (d0 d1 : Disk) → OnlyWrites d0 d1 (IsGateOf 1) → Tells d0 → LeavesOnly d0 d1 (IsBeforeNoneOrEmpty d0 version pages)
gates_over version pages d0 d1 first told = weaker d0 d1 (MayLeaveTorn (IsGateOf 1) d0.now) (IsBeforeNoneOrEmpty d0 version pages) (λ image torn. inl torn) (first.touches.tears told)

-- calls after that leave no anchor that counts, or the empty domain
pub over_then : (version : Version) (pages : ℕ) (d0 d1 d2 : Disk) → d1.sizes ≡ d0.sizes → LeavesOnly d0 d1 (IsBeforeNoneOrEmpty d0 version pages) → LeavesOnly d1 d2 (IsNoneOrEmpty d1.sizes version pages)
    → LeavesOnly d0 d2 (IsBeforeNoneOrEmpty d0 version pages)
over_then version pages d0 d1 d2 same so_far more =
    then_on d0 d1 d2 (IsBeforeNoneOrEmpty d0 version pages) so_far
    (weaker d1 d2 (IsNoneOrEmpty d0.sizes version pages) (IsBeforeNoneOrEmpty d0 version pages) (λ image is. inr is) (subst (λ (s : List ℕ). LeavesOnly d1 d2 (IsNoneOrEmpty s version pages)) same more))

pub over_none : (version : Version) (pages : ℕ) (d0 d1 d2 : Disk) → d1.sizes ≡ d0.sizes → LeavesOnly d0 d1 (IsBeforeNoneOrEmpty d0 version pages) → LeavesOnly d1 d2 (λ image. IsAnchor d1.sizes image None)
    → LeavesOnly d0 d2 (IsBeforeNoneOrEmpty d0 version pages)
over_none version pages d0 d1 d2 same so_far more =
    over_then version pages d0 d1 d2 same so_far (weaker d1 d2 (λ image. IsAnchor d1.sizes image None) (IsNoneOrEmpty d1.sizes version pages) (λ image none. inl none) more)

pub first_over : (version : Version) (pages : ℕ) (d0 d1 d2 : Disk) → OnlyWrites d0 d1 (IsGateOf 1) → OnlyWrites d1 d2 (IsIn 1 0 8192) → Tells d0 → HasNoOtherAnchor d0 → HasNoAnchorOn d1 1 → LeavesOnly d0 d2 (IsBeforeNoneOrEmpty d0 version pages)
first_over version pages d0 d1 d2 first second told others none =
    over_none version pages d0 d1 d2 first.touches.sizes (gates_over version pages d0 d1 first told)
    (label_since d0 d1 d2 first second told (no_anchor_now d0 d1 told first.touches others none))

-- nothing was written
pub not_begun : (version : Version) (pages : ℕ) (disk : Disk) → LeavesOnly disk disk (IsBeforeNoneOrEmpty disk version pages)
not_begun version pages disk = started disk (IsBeforeNoneOrEmpty disk version pages) (λ image may. inl (untorn (IsGateOf 1) disk.now image may))
