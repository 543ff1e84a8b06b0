-- Homes in lists, and at their places.
use Rattle.std.proofs.Common.{◌≡◌, ℕ, zero, suc, List, [], ◌∷◌, Some, None, Contains, slice_get, ap, arith}
use Rattle.domain_standing.specs.domain_base.declared.place.Home.{Home}

pub get_in : (xs : List Home) (k : ℕ) (x : Home) → slice_get xs k ≡ Some x → Contains xs x
get_in [] k x is = absurd (none_some is)
  where
    none_some : None ≡ Some x → ⊥
    none_some e = cc
get_in (y ∷ xs) zero x is = (0, omega arith, some_is is)
  where
    some_is : Some y ≡ Some x → y ≡ x
    some_is e = cc
get_in (y ∷ xs) (suc k) x is = let later = get_in xs k x is in (suc later.0, omega (arith, later.1), later.2)

pub in_get : (xs : List Home) (x : Home) → Contains xs x → (k : ℕ) × (slice_get xs k ≡ Some x)
in_get [] x inside = absurd (omega (arith, inside.1))
in_get (y ∷ xs) x (zero, within, is) = (zero, ap Some is)
in_get (y ∷ xs) x (suc k, within, is) = let later = in_get xs x (k, omega (arith, within), is) in (suc later.0, later.1)
