-- A held page stays so where what is used is kept, and where another page is taken.
use Rattle.std.proofs.Common.{◌≡◌, ℕ, zero, suc, ◌-◌, true, false, Option, None, Some, IsSomeAnd, List, [], ◌∷◌, map, set, get_or, nat_eq, sym, ◌∙◌, subst}
use Rattle.std.proofs.lemmas.Bool.{or_right}
use Rattle.std.specs.FinSet.{contains}
use Rattle.std.specs.Option.{option_map}
use Rattle.free_space.proofs.Used.{contains-inserted}
use Rattle.free_space.specs.VolumeSpace.{VolumeSpace, is_waiting, keeping, with_page}
use Rattle.free_space.specs.Spaces.{Spaces, IsHeld, CanTake, change_volume, change_volumes}
use Rattle.free_space.proofs.Places.{held_taken, free_can}

abbrev HoldsPage : ℕ → Option VolumeSpace → Type 0
HoldsPage p o = IsSomeAnd o (λ v. (contains v.used p ≡ true) × (is_waiting v p ≡ false))

module _ (p : ℕ) where
  kept_at : (vs : List (Option VolumeSpace)) (i : ℕ) → HoldsPage p (get_or vs i None) → HoldsPage p (get_or (map (option_map keeping) vs) i None)
  kept_at [] i held = held
  kept_at (None ∷ vs) zero held = held
  kept_at (Some v ∷ vs) zero held = held
  kept_at (o ∷ vs) (suc i) held = kept_at vs i held

  pub held_keeping : (s : Spaces) (vol : ℕ) → IsHeld s vol p → IsHeld (change_volumes keeping s) vol p
  held_keeping s vol held = kept_at s.volumes (vol - 1) held

  module _ (q : ℕ) where
    one_more : (o : Option VolumeSpace) → HoldsPage p o → HoldsPage p (option_map (with_page q) o)
    one_more None held = held
    one_more (Some v) held = (contains-inserted v.used q p ∙ or_right (nat_eq p q) (contains v.used p) held.0, held.1)

    taken_at : (vs : List (Option VolumeSpace)) (i j : ℕ) → HoldsPage p (get_or vs i None) → HoldsPage p (get_or (set vs j (option_map (with_page q) (get_or vs j None))) i None)
    taken_at [] i j held = held
    taken_at (o ∷ vs) zero zero held = one_more o held
    taken_at (o ∷ vs) zero (suc j) held = held
    taken_at (o ∷ vs) (suc i) zero held = held
    taken_at (o ∷ vs) (suc i) (suc j) held = taken_at vs i j held

    pub held_more : (s : Spaces) (vol other : ℕ) → IsHeld s vol p → IsHeld (change_volume (with_page q) s other) vol p
    held_more s vol other held = taken_at s.volumes (vol - 1) (other - 1) held

-- a page that was allocated on a volume is held there
pub held_allocated : (old new : Spaces) (vol home_vol page : ℕ) → home_vol ≡ vol → CanTake old vol page → new ≡ change_volume (with_page page) old vol → IsHeld new home_vol page
held_allocated old new vol home_vol page same can taken =
    subst (λ (s : Spaces). IsHeld s home_vol page) (sym taken)
    (subst (λ (v : ℕ). IsHeld (change_volume (with_page page) old vol) v page) (sym same) (held_taken old vol page (free_can old vol page can)))
