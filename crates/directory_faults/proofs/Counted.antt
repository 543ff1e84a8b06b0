-- How many items of a list pass a test, and lists that have the same items, each once.
use Rattle.std.proofs.Common.{◌≡◌, ◌∙◌, ◌⊎◌, ◌↔◌, inl, inr, zero, suc, ℕ, ◌<◌, ◌≤◌, ◌||◌, Bool, true, false, cond, eqb, List, [], ◌∷◌, length, Some, None, Contains, slice_get, refl, sym, ap, arith}
use Rattle.std.specs.List.{AllByRecursion, IsDistinct, count_by, filter, list_any}
use Rattle.std.proofs.lemmas.Bool.{cases_order, eqb-true, ne_eqb}
use Rattle.std.proofs.lemmas.List.Sums.{length-filter}
use Rattle.std.proofs.lemmas.Option.{slice_get_within}
use Rattle.std.proofs.lemmas.Map.Steps.{length-le_from_distinct_below}
use mathlib.Core.Bool.{false≢true}
use Rattle.directory_faults.proofs.Inserted.{among_at, at_among}

none_some : {X : Type 0} (x : X) → None ≡ Some x → ⊥
none_some x e = cc

some_same : {X : Type 0} (a b : X) → Some a ≡ Some b → a ≡ b
some_same a b e = cc

module _ {X : Type 0} (p : X → Bool) where
  -- an item of a list passes, and two do at two places
  abbrev pub SomePasses : List X → Type 0
  SomePasses xs = (k : ℕ) × (x : X) × (slice_get xs k ≡ Some x) × (p x ≡ true)

  pub record TwoPass (xs : List X) : Type 0 where
    pub j : ℕ
    pub k : ℕ
    pub one : X
    pub other : X
    pub before : j < k
    pub is_one : slice_get xs j ≡ Some one
    pub is_other : slice_get xs k ≡ Some other
    pub passes : p one ≡ true
    pub also : p other ≡ true

  -- those that pass, as a list
  abbrev passed : List X → ℕ
  passed xs = length (filter p xs)

  some_of : (xs : List X) → 1 ≤ passed xs → SomePasses xs
  some_of [] some = absurd (omega (arith, some))
  some_of (x ∷ xs) some = by_test (p x) refl some (λ more. some_of xs more)
    where
      by_test : (b : Bool) → p x ≡ b → 1 ≤ length (cond b (x ∷ filter p xs) (filter p xs)) → (1 ≤ passed xs → SomePasses xs) → SomePasses (x ∷ xs)
      by_test true is some rest = (0, x, refl, is)
      by_test false is some rest = let later = rest some in (suc later.0, later.1, later.2, later.3)

  of_some : (xs : List X) (k : ℕ) (x : X) → slice_get xs k ≡ Some x → p x ≡ true → 1 ≤ passed xs
  of_some [] k x at is = absurd (none_some x at)
  of_some (y ∷ xs) zero x at is = by_test (p y) (ap p (some_same y x at) ∙ is)
    where
      by_test : (b : Bool) → b ≡ true → 1 ≤ length (cond b (y ∷ filter p xs) (filter p xs))
      by_test true right = omega arith
      by_test false wrong = absurd (false≢true wrong)
  of_some (y ∷ xs) (suc k) x at is = by_test (p y) (of_some xs k x at is)
    where
      by_test : (b : Bool) → 1 ≤ passed xs → 1 ≤ length (cond b (y ∷ filter p xs) (filter p xs))
      by_test true more = omega arith
      by_test false more = more

  two_of : (xs : List X) → 2 ≤ passed xs → TwoPass xs
  two_of [] two = absurd (omega (arith, two))
  two_of (x ∷ xs) two = by_test (p x) refl two (λ more. two_of xs more)
    where
      by_test : (b : Bool) → p x ≡ b → 2 ≤ length (cond b (x ∷ filter p xs) (filter p xs)) → (2 ≤ passed xs → TwoPass xs) → TwoPass (x ∷ xs)
      by_test true is two rest =
          let later = some_of xs (omega (arith, two)) in
          record { j = 0; k = suc later.0; one = x; other = later.1; before = omega arith; is_one = refl; is_other = later.2; passes = is; also = later.3 }
      by_test false is two rest =
          let later = rest two in
          record { j = suc later.j; k = suc later.k; one = later.one; other = later.other; before = omega (arith, later.before); is_one = later.is_one; is_other = later.is_other; passes = later.passes; also = later.also }

  of_two : (xs : List X) → TwoPass xs → 2 ≤ passed xs
  of_two [] two = absurd (none_some two.one two.is_one)
  of_two (x ∷ xs) two = by_places two.j two.k two.before two.is_one two.is_other (λ more. of_two xs more)
    where
      by_places : (j k : ℕ) → j < k → slice_get (x ∷ xs) j ≡ Some two.one → slice_get (x ∷ xs) k ≡ Some two.other → (TwoPass xs → 2 ≤ passed xs) → 2 ≤ passed (x ∷ xs)
      by_places zero zero before is_one is_other rest = absurd (omega (arith, before))
      by_places (suc j) zero before is_one is_other rest = absurd (omega (arith, before))
      by_places zero (suc k) before is_one is_other rest = by_test (p x) (ap p (some_same x two.one is_one) ∙ two.passes)
        where
          by_test : (b : Bool) → b ≡ true → 2 ≤ length (cond b (x ∷ filter p xs) (filter p xs))
          by_test true right = omega (arith, of_some xs k two.other is_other two.also)
          by_test false wrong = absurd (false≢true wrong)
      by_places (suc j) (suc k) before is_one is_other rest =
          by_test (p x) (rest (record { j = j; k = k; one = two.one; other = two.other; before = omega (arith, before); is_one = is_one; is_other = is_other; passes = two.passes; also = two.also }))
        where
          by_test : (b : Bool) → 2 ≤ passed xs → 2 ≤ length (cond b (x ∷ filter p xs) (filter p xs))
          by_test true more = omega (arith, more)
          by_test false more = more

  pub counted_some : (xs : List X) → 1 ≤ count_by p xs → SomePasses xs
  counted_some xs some = some_of xs (omega (arith, some, length-filter p xs))

  pub some_counted : (xs : List X) (k : ℕ) (x : X) → slice_get xs k ≡ Some x → p x ≡ true → 1 ≤ count_by p xs
  some_counted xs k x at is = omega (arith, of_some xs k x at is, length-filter p xs)

  pub counted_two : (xs : List X) → 2 ≤ count_by p xs → TwoPass xs
  counted_two xs two = two_of xs (omega (arith, two, length-filter p xs))

  pub two_counted : (xs : List X) → TwoPass xs → 2 ≤ count_by p xs
  two_counted xs two = omega (arith, of_two xs two, length-filter p xs)

  -- two places, in whatever order
  pub two_at : (xs : List X) (j k : ℕ) (one other : X) → ¬ j ≡ k → slice_get xs j ≡ Some one → slice_get xs k ≡ Some other → p one ≡ true → p other ≡ true → TwoPass xs
  two_at xs j k one other apart is_one is_other passes also = by_order (cases_order j k)
    where
      by_order : (j ≡ k) ⊎ ((j < k) ⊎ (k < j)) → TwoPass xs
      by_order (inl same) = absurd (apart same)
      by_order (inr (inl less)) = record { j = j; k = k; one = one; other = other; before = less; is_one = is_one; is_other = is_other; passes = passes; also = also }
      by_order (inr (inr more)) = record { j = k; k = j; one = other; other = one; before = more; is_one = is_other; is_other = is_one; passes = also; also = passes }

-- ---- lists that have the same items, each once

abbrev pub AreOnce : {X : Type 0} → List X → Type 0
AreOnce {X} xs = (j k : ℕ) (x : X) → slice_get xs j ≡ Some x → slice_get xs k ≡ Some x → j ≡ k

module _ {X : Type 0} where
  rest_once : (x : X) (xs : List X) → AreOnce (x ∷ xs) → AreOnce xs
  rest_once x xs once j k y at_j at_k = omega (arith, once (suc j) (suc k) y at_j at_k)

  -- each item of one list stands somewhere in another
  abbrev StandIn : List X → List X → Type 0
  StandIn xs ys = (x : X) → Contains xs x → (k : ℕ) × (slice_get ys k ≡ Some x)

  abbrev further : (x : X) (xs : List X) (y : X) → Contains xs y → Contains (x ∷ xs) y
  further x xs y among = let at = among_at xs y among in at_among (x ∷ xs) (suc at.0) y at.1

  abbrev rest_stand : (x : X) (xs ys : List X) → StandIn (x ∷ xs) ys → StandIn xs ys
  rest_stand x xs ys at y among = at y (further x xs y among)

  abbrev first_place : (x : X) (xs ys : List X) → StandIn (x ∷ xs) ys → ℕ
  first_place x xs ys at = (at x (at_among (x ∷ xs) 0 x refl)).0

  -- the places at which they stand
  abbrev places_in : (xs ys : List X) → StandIn xs ys → List ℕ
  places_in [] ys at = []
  places_in (x ∷ xs) ys at = first_place x xs ys at ∷ places_in xs ys (rest_stand x xs ys at)

  place_apart : (place : ℕ) (xs ys : List X) (at : StandIn xs ys) → ((y : X) (among : Contains xs y) → ¬ place ≡ (at y among).0) → AllByRecursion (λ q. eqb place q ≡ false) (places_in xs ys at)
  place_apart place [] ys at apart = tt
  place_apart place (x ∷ xs) ys at apart =
      (ne_eqb place (first_place x xs ys at) (apart x (at_among (x ∷ xs) 0 x refl)), place_apart place xs ys (rest_stand x xs ys at) (λ y among. apart y (further x xs y among)))

  distinct : (xs ys : List X) (at : StandIn xs ys) → AreOnce xs → IsDistinct eqb (places_in xs ys at)
  unfolding IsDistinct
  distinct [] ys at once = tt
  distinct (x ∷ xs) ys at once = (place_apart (first_place x xs ys at) xs ys (rest_stand x xs ys at) apart, distinct xs ys (rest_stand x xs ys at) (rest_once x xs once))
    where
      apart : (y : X) (among : Contains xs y) → ¬ first_place x xs ys at ≡ (rest_stand x xs ys at y among).0
      apart y among same =
          let alike : x ≡ y = some_same x y (sym (at x (at_among (x ∷ xs) 0 x refl)).1 ∙ ap (slice_get ys) same ∙ (rest_stand x xs ys at y among).1) in
          let there = among_at xs y among in
          let places : 0 ≡ suc there.0 = once 0 (suc there.0) y (ap (λ z. Some z) alike) there.1 in
          omega (arith, places)

  below : (xs ys : List X) (at : StandIn xs ys) (q : ℕ) → list_any (eqb q) (places_in xs ys at) ≡ true → q < length ys
  below [] ys at q any = absurd (false≢true any)
  below (x ∷ xs) ys at q any = by_test (eqb q (first_place x xs ys at)) refl any (λ more. below xs ys (rest_stand x xs ys at) q more)
    where
      by_test : (b : Bool) → eqb q (first_place x xs ys at) ≡ b → (b || list_any (eqb q) (places_in xs ys (rest_stand x xs ys at))) ≡ true
          → (list_any (eqb q) (places_in xs ys (rest_stand x xs ys at)) ≡ true → q < length ys) → q < length ys
      by_test true is any rest =
          let place = at x (at_among (x ∷ xs) 0 x refl) in
          omega (arith, eqb-true q (first_place x xs ys at) is, slice_get_within ys place.0 x place.1)
      by_test false is any rest = rest any

  as_many : (xs ys : List X) (at : StandIn xs ys) → length (places_in xs ys at) ≡ length xs
  as_many [] ys at = refl
  as_many (x ∷ xs) ys at = omega (arith, as_many xs ys (rest_stand x xs ys at))

  not_longer : (xs ys : List X) → AreOnce xs → StandIn xs ys → length xs ≤ length ys
  not_longer xs ys once at = omega (arith, as_many xs ys at, length-le_from_distinct_below (places_in xs ys at) (length ys) (distinct xs ys at once) (below xs ys at))

  pub as_long : (xs ys : List X) → AreOnce xs → AreOnce ys → ((x : X) → Contains xs x ↔ Contains ys x) → length xs ≡ length ys
  as_long xs ys once also same =
      let one : length xs ≤ length ys = not_longer xs ys once (λ x among. among_at ys x ((same x).0 among)) in
      let other : length ys ≤ length xs = not_longer ys xs also (λ x among. among_at xs x ((same x).1 among)) in
      omega (arith, one, other)
