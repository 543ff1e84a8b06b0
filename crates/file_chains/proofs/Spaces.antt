-- Pages taken of a domain's free space, and given back.
use Rattle.std.proofs.Common.{◌≡◌, ◌∙◌, ℕ, ◌-◌, ◌&&◌, ◌||◌, not, Bool, true, false, nat_eq, Option, Some, None, IsSomeAnd, List, [], ◌∷◌, get_or, set, refl, sym, ap, subst, zero, suc}
use Rattle.std.proofs.lemmas.Bool.{both_ways, eqb-true, eq-eqb, or_right}
use Rattle.std.specs.Cmp.{nat_cmp_total}
use Rattle.std.specs.Option.{option_map}
use Rattle.std.specs.Ordering.{nat_cmp}
use Rattle.std.specs.FinSet.{FinSet, contains, insert, nat_cmp-IsAntisymmetric, remove, same_set}
use Rattle.free_cells.proofs.OfFreeSpace.Used.{contains-inserted, contains-removed}
use Rattle.free_cells.specs.free_space.VolumeSpace.{IsFreePage, VolumeSpace, is_waiting, with_page, without_page}
use Rattle.free_cells.specs.free_space.Spaces.{CanTake, IsHeld, Spaces, change_volume, volume_of}
use Rattle.free_cells.proofs.OfFreeSpace.Places.{volume_of-change_other, volume_of-change_same}

-- a page that can be taken is not held
pub not_held : (s : Spaces) (vol p : ℕ) → CanTake s vol p → IsHeld s vol p → ⊥
not_held s vol p can held = at (volume_of s vol) can held
  where
    at : (o : Option VolumeSpace) → IsSomeAnd o (λ v. (v.is_open ≡ true) × IsFreePage v p) → IsSomeAnd o (λ v. (contains v.used p ≡ true) × (is_waiting v p ≡ false)) → ⊥
    at None can held = can
    at (Some v) can held = both_ways (contains v.used p) can.1.unused held.0

module _ (s : Spaces) (vol p : ℕ) where
  abbrev taken : Spaces
  taken = change_volume (with_page p) s vol

  -- what is held stays so where a page is taken
  pub held_still : (other q : ℕ) → IsHeld s other q → IsHeld taken other q
  held_still other q held = by_volume (nat_eq (other - 1) (vol - 1)) refl
    where
      more : (o : Option VolumeSpace) → IsSomeAnd o (λ v. (contains v.used q ≡ true) × (is_waiting v q ≡ false)) → IsSomeAnd (option_map (with_page p) o) (λ v. (contains v.used q ≡ true) × (is_waiting v q ≡ false))
      more None held = held
      more (Some v) held = (contains-inserted v.used p q ∙ or_right (nat_eq q p) (contains v.used q) held.0, held.1)

      same_volume : other - 1 ≡ vol - 1 → volume_of taken other ≡ option_map (with_page p) (volume_of s other)
      same_volume same = ap (λ i. get_or taken.volumes i None) same ∙ volume_of-change_same (with_page p) s vol ∙ ap (λ i. option_map (with_page p) (get_or s.volumes i None)) (sym same)

      by_volume : (b : Bool) → nat_eq (other - 1) (vol - 1) ≡ b → IsHeld taken other q
      by_volume true same = subst (λ o. IsSomeAnd o (λ v. (contains v.used q ≡ true) × (is_waiting v q ≡ false))) (sym (same_volume (eqb-true (other - 1) (vol - 1) same))) (more (volume_of s other) held)
      by_volume false apart =
          subst (λ o. IsSomeAnd o (λ v. (contains v.used q ≡ true) × (is_waiting v q ≡ false)))
          (sym (volume_of-change_other (with_page p) s vol other (λ same. both_ways (nat_eq (other - 1) (vol - 1)) apart (eq-eqb (other - 1) (vol - 1) same)))) held

  -- what can be taken then could be taken before
  pub can_before : (other q : ℕ) → CanTake taken other q → CanTake s other q
  can_before other q can = by_volume (nat_eq (other - 1) (vol - 1)) refl
    where
      fewer : (o : Option VolumeSpace) → IsSomeAnd (option_map (with_page p) o) (λ v. (v.is_open ≡ true) × IsFreePage v q) → IsSomeAnd o (λ v. (v.is_open ≡ true) × IsFreePage v q)
      fewer None can = can
      fewer (Some v) can = (
        can.0,
        record {
          within = can.1.within;
          unused = by_used (contains v.used q) refl;
          settled = can.1.settled;
        },
      )
        where
          by_used : (b : Bool) → contains v.used q ≡ b → contains v.used q ≡ false
          by_used true is = absurd (both_ways (contains (insert v.used p) q) can.1.unused (contains-inserted v.used p q ∙ or_right (nat_eq q p) (contains v.used q) is))
          by_used false is = is

      same_volume : other - 1 ≡ vol - 1 → volume_of taken other ≡ option_map (with_page p) (volume_of s other)
      same_volume same = ap (λ i. get_or taken.volumes i None) same ∙ volume_of-change_same (with_page p) s vol ∙ ap (λ i. option_map (with_page p) (get_or s.volumes i None)) (sym same)

      by_volume : (b : Bool) → nat_eq (other - 1) (vol - 1) ≡ b → CanTake s other q
      by_volume true same = fewer (volume_of s other) (subst (λ o. IsSomeAnd o (λ v. (v.is_open ≡ true) × IsFreePage v q)) (same_volume (eqb-true (other - 1) (vol - 1) same)) can)
      by_volume false apart =
          subst (λ o. IsSomeAnd o (λ v. (v.is_open ≡ true) × IsFreePage v q))
          (volume_of-change_other (with_page p) s vol other (λ same. both_ways (nat_eq (other - 1) (vol - 1)) apart (eq-eqb (other - 1) (vol - 1) same))) can

-- ---- a page taken and given back

set_set : {X : Type 0} (xs : List X) (i : ℕ) (a b : X) → set (set xs i a) i b ≡ set xs i b
set_set [] i a b = refl
set_set (x ∷ xs) zero a b = refl
set_set (x ∷ xs) (suc i) a b = λ j. x ∷ set_set xs i a b j

set_same : {X : Type 0} (xs : List X) (i : ℕ) (d : X) → set xs i (get_or xs i d) ≡ xs
set_same [] i d = refl
set_same (x ∷ xs) zero d = refl
set_same (x ∷ xs) (suc i) d = λ j. x ∷ set_same xs i d j

removed : (used : FinSet nat_cmp) (p : ℕ) → contains used p ≡ false → remove (insert used p) p ≡ used
removed used p none = same_set nat_cmp_total nat_cmp-IsAntisymmetric (remove (insert used p) p) used
    (λ q. contains-removed (insert used p) p q ∙ ap (λ b. not (nat_eq q p) && b) (contains-inserted used p q) ∙ by_page q (nat_eq q p) refl)
  where
    by_page : (q : ℕ) (b : Bool) → nat_eq q p ≡ b → (not (nat_eq q p) && (nat_eq q p || contains used q)) ≡ contains used q
    by_page q true same = ap (λ b. not b && (b || contains used q)) same ∙ sym none ∙ ap (contains used) (sym (eqb-true q p same))
    by_page q false other = ap (λ b. not b && (b || contains used q)) other

pub given_back : (s : Spaces) (vol p : ℕ) → CanTake s vol p → change_volume (without_page p) (change_volume (with_page p) s vol) vol ≡ s
given_back s vol p can =
    let i = vol - 1 in
    ap (λ vs. record s { volumes = vs })
    (ap (λ o. set (set s.volumes i (option_map (with_page p) (volume_of s vol))) i (option_map (without_page p) o)) (volume_of-change_same (with_page p) s vol)
    ∙ set_set s.volumes i (option_map (with_page p) (volume_of s vol)) (option_map (without_page p) (option_map (with_page p) (volume_of s vol)))
    ∙ ap (set s.volumes i) (back (volume_of s vol) can) ∙ set_same s.volumes i None)
  where
    back : (o : Option VolumeSpace) → IsSomeAnd o (λ v. (v.is_open ≡ true) × IsFreePage v p) → option_map (without_page p) (option_map (with_page p) o) ≡ o
    back None can = refl
    back (Some v) can = ap (λ used. Some (record v { used = used })) (removed v.used p can.1.unused)
