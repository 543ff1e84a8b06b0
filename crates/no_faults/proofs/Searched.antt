-- Lists are searched for what can be decided of each of their things.
use Rattle.std.proofs.Common.{◌≡◌, ◌⊎◌, inl, inr, ℕ, zero, suc, ◌<◌, List, [], ◌∷◌, length, Contains, slice_index, refl, sym, arith, subst, ⊎_elim}
use Rattle.std.proofs.lemmas.Bool.{cases_lt}
use Rattle.std.specs.Prelude.{slice_index_or}
use Rattle.domain_memory.proofs.OfDomainLayout.Reached.{same_number}

-- it holds or not
abbrev pub Decides : Type 0 → Type 0
Decides P = P ⊎ ¬ P

pub in_front : {X : Type 0} (x y : X) (xs : List X) → Contains xs y → Contains (x ∷ xs) y
in_front x y xs (k, within, is) = (suc k, omega (arith, within), is)

abbrev pub HasSome : {X : Type 0} → (X → Type 0) → List X → Type 0
HasSome {X} P xs = (x : X) × Contains xs x × P x

none_more : {X : Type 0} (P : X → Type 0) (x : X) (xs : List X) → ¬ P x → ¬ HasSome P xs → ¬ HasSome P (x ∷ xs)
none_more P x xs not_here none (y, (zero, within, is), so) = not_here (subst P (sym is) so)
none_more P x xs not_here none (y, (suc k, within, is), so) = none (y, (k, omega (arith, within), is), so)

pub searched : {X : Type 0} (P : X → Type 0) → ((x : X) → Decides (P x)) → (xs : List X) → Decides (HasSome P xs)
searched P test [] = inr (λ found. omega (arith, found.1.1))
searched P test (x ∷ xs) =
    ⊎_elim (λ here. inl (x, (0, omega arith, refl), here))
    (λ other. ⊎_elim (λ found. inl (found.0, in_front x found.0 xs found.1, found.2))
    (λ none. inr (none_more P x xs other none)) (searched P test xs)) (test x)

-- ---- numbers

-- those below one
abbrev pub below : ℕ → List ℕ
below zero = []
below (suc n) = n ∷ below n

pub in_below : (n k : ℕ) → k < n → Contains (below n) k
in_below zero k less = absurd (omega (arith, less))
in_below (suc n) k less =
    ⊎_elim (λ (same : n ≡ k). (0, omega arith, same)) (λ other. in_front n k (below n) (in_below n k (apart n k less other))) (same_number n k)
  where
    apart : (n k : ℕ) → k < suc n → ¬ n ≡ k → k < n
    apart n k less other = ⊎_elim (λ low. low) (λ high. absurd (other (omega (arith, less, high)))) (cases_lt k n)

pub number_in : (xs : List ℕ) (x : ℕ) → Decides (Contains xs x)
number_in xs x =
    ⊎_elim (λ found. inl (subst (Contains xs) found.2 found.1)) (λ none. inr (λ among. none (x, among, refl))) (searched (λ y. y ≡ x) (λ y. same_number y x) xs)

pub index_is : (xs : List ℕ) (k d : ℕ) → k < length xs → slice_index_or xs k d ≡ slice_index xs k
index_is [] k d within = absurd (omega (arith, within))
index_is (x ∷ xs) zero d within = refl
index_is (x ∷ xs) (suc k) d within = index_is xs k d (omega (arith, within))
