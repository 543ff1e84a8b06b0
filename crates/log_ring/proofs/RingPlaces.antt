-- Places of a ring: where they stand, and that those of one turn are apart.
use Rattle.std.proofs.Common.{◌≡◌, ℕ, ◌+◌, ◌%◌, ◌<◌, ◌≤◌, refl, subst, arith}
use Rattle.disk_label.specs.volume_disk.Image.{Image, IsIn, SameIn}
use Rattle.disk_label.proofs.OfVolumeDisk.Bytes.{bytes_from-same}
use Rattle.disk_label.specs.Slot.{IsOnAnchors}
use Rattle.disk_label.specs.declared.anchor.Anchor.{Anchor}
use Rattle.log_ring.specs.Ring.{IsOnLog, IsOnPlaces, place_at, ring_byte}

-- two places of one turn have another rest
pub apart_rest : (p q : ℕ) → p < q → q < p + 128 → p % 128 ≡ q % 128 → ⊥
apart_rest p q lt near same = omega arith

-- so their pages have no byte in common
pub apart : (anchor : Anchor) (p q v k : ℕ) → p < q → q < p + 128 → IsIn anchor.log_vol (ring_byte anchor p) 8192 v k → IsIn anchor.log_vol (ring_byte anchor q) 8192 v k → ⊥
apart anchor p q v k lt near one other =
    let a = one.1 in
    let b = one.2 in
    let c = other.1 in
    let d = other.2 in
    let same : p % 128 ≡ q % 128 = omega arith in
    apart_rest p q lt near same

-- the pages of places lie on the ring
pub on_log : (anchor : Anchor) (p v k : ℕ) → IsIn anchor.log_vol (ring_byte anchor p) 8192 v k → IsOnLog anchor v k
on_log anchor p v k is = let a = is.1 in let b = is.2 in (is.0, omega arith, omega arith)

-- places further on, as places of the whole run
pub further_on : (anchor : Anchor) (place more n v k : ℕ) → IsOnPlaces anchor (place + more) n v k → IsOnPlaces anchor place (more + n) v k
further_on anchor place more n v k is = (
  more + is.0,
  omega (arith, is.1),
  subst (λ (p : ℕ). IsIn anchor.log_vol (ring_byte anchor p) 8192 v k) (omega arith) is.2,
)

-- fewer places
pub fewer_places : (anchor : Anchor) (place n m v k : ℕ) → n ≤ m → IsOnPlaces anchor place n v k → IsOnPlaces anchor place m v k
fewer_places anchor place n m v k le is = (is.0, omega (arith, is.1, le), is.2)

-- one place of them
pub one_place : (anchor : Anchor) (place i n v k : ℕ) → i < n → IsIn anchor.log_vol (ring_byte anchor (place + i)) 8192 v k → IsOnPlaces anchor place n v k
one_place anchor place i n v k lt is = (i, lt, is)

-- the first byte of the first place
pub first_place : (anchor : Anchor) (place n : ℕ) → 0 < n → IsOnPlaces anchor place n anchor.log_vol (ring_byte anchor place)
first_place anchor place n some =
    let start : place ≡ place + 0 = omega arith in
    (0, some, subst (λ (p : ℕ). IsIn anchor.log_vol (ring_byte anchor p) 8192 anchor.log_vol (ring_byte anchor place)) start (refl, omega arith, omega arith))

-- images that agree on a place's page have the same page there
pub place-same : (anchor : Anchor) (place : ℕ) (old new : Image) → SameIn (IsIn anchor.log_vol (ring_byte anchor place) 8192) old new → place_at new anchor place ≡ place_at old anchor place
place-same anchor place old new same =
    bytes_from-same (new anchor.log_vol) (old anchor.log_vol) (ring_byte anchor place) 8192 (λ k le lt. same anchor.log_vol k (refl, le, lt))

-- the ring lies after the pages of anchors
pub log_beside_anchors : (anchor : Anchor) → 1 < anchor.log_page → (v k : ℕ) → IsOnLog anchor v k → ¬ IsOnAnchors v k
log_beside_anchors anchor behind v k is on = let low = is.1 in let high = on.1 in omega arith
