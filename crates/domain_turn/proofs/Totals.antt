-- Counts added up over a list in which one place changes.
use Rattle.std.proofs.Common.{◌≡◌, ◌≢◌, ℕ, zero, suc, ◌+◌, ◌≤◌, List, [], ◌∷◌, ◌++◌, set, Contains, refl, ap, sym, arith}
use mathlib.Core.Option.{some, some-injective, some-ne-none}
use lib.ListN.{get_elem?}
use Rattle.domain_turn.specs.Views.{total}

module _ {X : Type 0} where
  -- what one place counts
  pub total_one : (f : X → ℕ) (xs : List X) (i : ℕ) (x : X) → get_elem? xs i ≡ some x → f x ≤ total f xs
  total_one f [] i x at = absurd (some-ne-none x (sym at))
  total_one f (y ∷ ys) zero x at = let same : f y ≡ f x = ap f (some-injective y x at) in omega (arith, same)
  total_one f (y ∷ ys) (suc i) x at = let less = total_one f ys i x at in omega (arith, less)

  -- what two places count
  pub total_two : (f : X → ℕ) (xs : List X) (i j : ℕ) (x y : X) → i ≢ j → get_elem? xs i ≡ some x → get_elem? xs j ≡ some y → f x + f y ≤ total f xs
  total_two f [] i j x y other at at' = absurd (some-ne-none x (sym at))
  total_two f (z ∷ zs) zero zero x y other at at' = absurd (other refl)
  total_two f (z ∷ zs) zero (suc j) x y other at at' = let same : f z ≡ f x = ap f (some-injective z x at) in let less = total_one f zs j y at' in omega (arith, same, less)
  total_two f (z ∷ zs) (suc i) zero x y other at at' = let same : f z ≡ f y = ap f (some-injective z y at') in let less = total_one f zs i x at in omega (arith, same, less)
  total_two f (z ∷ zs) (suc i) (suc j) x y other at at' = let less = total_two f zs i j x y (λ e. other (ap suc e)) at at' in omega (arith, less)

  -- one place changes
  pub total_set : (f : X → ℕ) (xs : List X) (i : ℕ) (x w : X) → get_elem? xs i ≡ some x → total f (set xs i w) + f x ≡ total f xs + f w
  total_set f [] i x w at = absurd (some-ne-none x (sym at))
  total_set f (y ∷ ys) zero x w at = let same : f y ≡ f x = ap f (some-injective y x at) in omega (arith, same)
  total_set f (y ∷ ys) (suc i) x w at = let rest = total_set f ys i x w at in omega (arith, rest)

  -- one place more
  pub total_last : (f : X → ℕ) (xs : List X) (w : X) → total f (xs ++ w ∷ []) ≡ total f xs + f w
  total_last f [] w = omega arith
  total_last f (x ∷ xs) w = let rest = total_last f xs w in omega (arith, rest)

  pub total_both : (f : X → ℕ) (xs ys : List X) → total f (xs ++ ys) ≡ total f xs + total f ys
  total_both f [] ys = omega arith
  total_both f (x ∷ xs) ys = let rest = total_both f xs ys in omega (arith, rest)

  -- each counts no more by the one than by the other
  pub total_le : (f g : X → ℕ) (xs : List X) → ((i : ℕ) (x : X) → get_elem? xs i ≡ some x → f x ≤ g x) → total f xs ≤ total g xs
  total_le f g [] less = omega arith
  total_le f g (x ∷ xs) less = let here = less 0 x refl in let rest = total_le f g xs (λ i y at. less (suc i) y at) in omega (arith, here, rest)

  -- each counts nothing
  pub total_none : (f : X → ℕ) (xs : List X) → ((i : ℕ) (x : X) → get_elem? xs i ≡ some x → f x ≡ 0) → total f xs ≡ 0
  total_none f [] none_of = refl
  total_none f (x ∷ xs) none_of = let here = none_of 0 x refl in let rest = total_none f xs (λ i y at. none_of (suc i) y at) in omega (arith, here, rest)

  -- an element that counts counts in all
  pub total_has : (f : X → ℕ) (xs : List X) (x : X) → Contains xs x → f x ≤ total f xs
  total_has f [] x (k, low, is) = absurd (omega (arith, low))
  total_has f (y ∷ ys) x (zero, low, is) = let same : f y ≡ f x = ap f is in omega (arith, same)
  total_has f (y ∷ ys) x (suc k, low, is) = let rest = total_has f ys x (k, omega (arith, low), is) in omega (arith, rest)

  -- the element of a list of one
  pub only_one : (x y : X) → Contains (x ∷ []) y → y ≡ x
  only_one x y (zero, low, is) = sym is
  only_one x y (suc k, low, is) = absurd (omega (arith, low))

  pub has_one : (x : X) → Contains (x ∷ []) x
  has_one x = (0, omega arith, refl)

  -- where no other place counts, all is what one counts
  pub total_alone : (f : X → ℕ) (xs : List X) (i : ℕ) (x : X) → get_elem? xs i ≡ some x → ((j : ℕ) (y : X) → j ≢ i → get_elem? xs j ≡ some y → f y ≡ 0) → total f xs ≡ f x
  total_alone f [] i x at others = absurd (some-ne-none x (sym at))
  total_alone f (y ∷ ys) zero x at others =
      let same : f y ≡ f x = ap f (some-injective y x at) in
      let rest = total_none f ys (λ j z there. others (suc j) z (λ is. omega (arith, is)) there) in omega (arith, same, rest)
  total_alone f (y ∷ ys) (suc i) x at others =
      let here = others 0 y (λ is. omega (arith, is)) refl in
      let rest = total_alone f ys i x at (λ j z other there. others (suc j) z (λ is. other (omega (arith, is))) there) in omega (arith, here, rest)
