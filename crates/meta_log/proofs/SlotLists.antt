-- Parts of a list of slots.
use Rattle.std.proofs.Common.{◌≡◌, ℕ, zero, suc, ◌+◌, ◌-◌, ◌<◌, ◌≤◌, List, [], ◌∷◌, ◌++◌, length, set, take, drop, refl, ◌∙◌, ap, arith}
use Rattle.std.proofs.Math.Seq.{take-set-lt}
use Rattle.std.proofs.lemmas.List.{drop-set-add, length-take-le, take_more_set}

-- a slot among them is set
pub set_within : {X : Type 0} (xs : List X) (first at end : ℕ) (x : X) → first ≤ at → at < end → drop first (take end (set xs at x)) ≡ set (drop first (take end xs)) (at - first) x
set_within xs first at end x le lt =
    let is : at ≡ first + (at - first) = omega arith in
    ap (drop first) (take-set-lt end xs at x lt)
    ∙ ap (λ (i : ℕ). drop first (set (take end xs) i x)) is
    ∙ drop-set-add first (take end xs) (at - first) x

drop_before : {X : Type 0} (n : ℕ) (xs ys : List X) → n ≤ length xs → drop n (xs ++ ys) ≡ drop n xs ++ ys
drop_before zero xs ys le = refl
drop_before (suc n) [] ys le = absurd (omega (arith, le))
drop_before (suc n) (x ∷ xs) ys le = drop_before n xs ys (omega (arith, le))

-- the slot after them is set
pub set_behind : {X : Type 0} (xs : List X) (first end : ℕ) (x : X) → first ≤ end → end < length xs → drop first (take (end + 1) (set xs end x)) ≡ drop first (take end xs) ++ x ∷ []
set_behind xs first end x le lt =
    let size = length-take-le end xs (omega arith) in
    ap (drop first) (take_more_set xs end x lt) ∙ drop_before first (take end xs) (x ∷ []) (omega (arith, size))

-- the two parts of the front are the front
pub parts_joined : {X : Type 0} (xs : List X) (first end : ℕ) → first ≤ end → take first xs ++ drop first (take end xs) ≡ take end xs
parts_joined xs zero end le = refl
parts_joined [] (suc first) zero le = absurd (omega (arith, le))
parts_joined [] (suc first) (suc end) le = refl
parts_joined (x ∷ xs) (suc first) zero le = absurd (omega (arith, le))
parts_joined (x ∷ xs) (suc first) (suc end) le = λ i. x ∷ parts_joined xs first end (omega (arith, le)) i

-- and after the front nothing of it is left
pub none_left : {X : Type 0} (xs : List X) (end : ℕ) → end ≤ length xs → drop end (take end xs) ≡ []
none_left xs zero le = refl
none_left [] (suc end) le = absurd (omega (arith, le))
none_left (x ∷ xs) (suc end) le = none_left xs end (omega (arith, le))
