-- Marks of the pages of a volume.
use Rattle.std.proofs.Common.{◌≡◌, ◌∙◌, ◌⊎◌, ℕ, ◌+◌, ◌<◌, ◌≤◌, Bool, true, false, List, [], ◌∷◌, ◌++◌, length, get_or, set, take, map, IsSomeAnd, refl, sym, ap, subst, inl, inr, arith, ⊎_elim, get_or-set_other, get_or-set_same}
use Rattle.std.specs.Prelude.{Contains, slice_get}
use Rattle.std.proofs.lemmas.Bool.{cases_eq, cases_lt}
use Rattle.std.proofs.lemmas.List.{get_or-map, get_or_append_left, get_or_push, length-map, length-set, length_push, take_all, take_more}
use Rattle.std.proofs.lemmas.Option.{slice_get-get_or}
use Rattle.std.proofs.lemmas.List.Elements.{Contains-append_left, Contains-push, Contains-push_cases}
use Rattle.attached_domain.specs.domain_base.declared.place.Home.{Home}
use Rattle.domain_attaching.specs.Tables.{Marks}

-- the same pages, told otherwise
pub marks_as : (P Q : ℕ → Type 0) (old new : List Bool) → ((k : ℕ) → P k → Q k) → ((k : ℕ) → Q k → P k) → Marks P old new → Marks Q old new
marks_as P Q old new to from is = record {
  count = is.count;
  each = λ page below. (
    λ now. ⊎_elim (λ was. inl was) (λ p. inr (to page p)) ((is.each page below).0 now),
    λ either. (is.each page below).1 (⊎_elim (λ was. inl was) (λ q. inr (from page q)) either),
  );
}

-- none is marked
pub marks_none : (P : ℕ → Type 0) (marks : List Bool) → ((k : ℕ) → P k → ⊥) → Marks P marks marks
marks_none P marks never = record {
  count = refl;
  each = λ page below. (λ is. inl is, λ either. ⊎_elim (λ was. was) (λ p. absurd (never page p)) either);
}

-- some, and then others
pub marks_then : (P Q : ℕ → Type 0) (old mid new : List Bool) → Marks P old mid → Marks Q mid new → Marks (λ k. P k ⊎ Q k) old new
marks_then P Q old mid new one other = record {
  count = other.count ∙ one.count;
  each = λ page below.
      let there : page < length mid = subst (λ n. page < n) (sym one.count) below in (
        λ now. ⊎_elim (λ was. ⊎_elim (λ first. inl first) (λ p. inr (inl p)) ((one.each page below).0 was)) (λ q. inr (inr q)) ((other.each page there).0 now),
        λ either. (other.each page there).1 (⊎_elim (λ was. inl ((one.each page below).1 (inl was))) (λ more. ⊎_elim (λ p. inl ((one.each page below).1 (inr p))) (λ q. inr q) more) either),
      );
}

-- one
pub marks_one : (marks : List Bool) (at : ℕ) → at < length marks → (P : ℕ → Type 0) → P at → ((k : ℕ) → P k → k ≡ at) → Marks P marks (set marks at true)
marks_one marks at within P here alone = record {
  count = length-set marks at true;
  each = λ page below. ⊎_elim
      (λ same. let set_there : get_or (set marks at true) page false ≡ true = ap (λ k. get_or (set marks at true) k false) same ∙ get_or-set_same marks at true false within in
      (λ now. inr (subst P (sym same) here), λ either. set_there))
      (λ other. let as_was = get_or-set_other marks at page true false other in
      (λ now. inl (sym as_was ∙ now), λ either. ⊎_elim (λ was. as_was ∙ was) (λ p. absurd (other (alone page p))) either))
      (cases_eq page at);
}

-- ---- the first ones of a list

pub contains_more : {X : Type 0} (xs : List X) (i : ℕ) (d x : X) → i < length xs → Contains (take (i + 1) xs) x → Contains (take i xs) x ⊎ (get_or xs i d ≡ x)
contains_more xs i d x below there = Contains-push_cases (take i xs) (get_or xs i d) x (subst (λ l. Contains l x) (take_more xs i d below) there)

pub contains_still : {X : Type 0} (xs : List X) (i : ℕ) (d x : X) → i < length xs → Contains (take i xs) x ⊎ (get_or xs i d ≡ x) → Contains (take (i + 1) xs) x
contains_still xs i d x below either =
    subst (λ l. Contains l x) (sym (take_more xs i d below))
    (⊎_elim (λ was. Contains-append_left (take i xs) (get_or xs i d ∷ []) x was) (λ last. subst (λ y. Contains (take i xs ++ get_or xs i d ∷ []) y) last (Contains-push (take i xs) (get_or xs i d))) either)

pub contains_nothing : {X : Type 0} (x : X) → Contains {X = X} [] x → ⊥
contains_nothing x there = let none = there.1 in omega (arith, none)

-- the marks of what f has of one more
pub marks_more : {X : Type 0} (f : ℕ → X) (xs : List X) (i : ℕ) (d : X) (old mid new : List Bool) → i < length xs → Marks (λ k. Contains (take i xs) (f k)) old mid → Marks (λ k. get_or xs i d ≡ f k) mid new → Marks (λ k. Contains (take (i + 1) xs) (f k)) old new
marks_more f xs i d old mid new below some one =
    marks_as (λ k. Contains (take i xs) (f k) ⊎ (get_or xs i d ≡ f k)) (λ k. Contains (take (i + 1) xs) (f k)) old new (λ k. contains_still xs i d (f k) below) (λ k. contains_more xs i d (f k) below)
    (marks_then (λ k. Contains (take i xs) (f k)) (λ k. get_or xs i d ≡ f k) old mid new some one)

pub marks_all : {X : Type 0} (f : ℕ → X) (xs : List X) (i : ℕ) (old new : List Bool) → length xs ≤ i → Marks (λ k. Contains (take i xs) (f k)) old new → Marks (λ k. Contains xs (f k)) old new
marks_all f xs i old new most = subst (λ l. Marks (λ k. Contains l (f k)) old new) (take_all i xs most)

-- the same if a list has homes in its elements
pub marks_place : {X : Type 0} (xs : List X) (f : X → Home) (vol i : ℕ) (x : X) (old mid new : List Bool) → i < length xs → x ≡ get_or xs i x → Marks (λ k. Contains (take i (map f xs)) (record { vol = vol; page = k })) old mid → Marks (λ k. f x ≡ record { vol = vol; page = k }) mid new
    → Marks (λ k. Contains (take (i + 1) (map f xs)) (record { vol = vol; page = k })) old new
marks_place xs f vol i x old mid new below is some one =
    let same : get_or (map f xs) i (f x) ≡ f x = get_or-map f xs i x (f x) below ∙ ap f (sym is) in
    marks_more (λ k. record { vol = vol; page = k }) (map f xs) i (f x) old mid new (subst (λ n. i < n) (sym (length-map xs f)) below) some (subst (λ (y : Home). Marks (λ k. y ≡ record { vol = vol; page = k }) mid new) (sym same) one)

pub marks_places : {X : Type 0} (xs : List X) (f : X → Home) (vol i : ℕ) (old new : List Bool) → length xs ≤ i → Marks (λ k. Contains (take i (map f xs)) (record { vol = vol; page = k })) old new → Marks (λ k. Contains (map f xs) (record { vol = vol; page = k })) old new
marks_places xs f vol i old new most = marks_all (λ k. record { vol = vol; page = k }) (map f xs) i old new (subst (λ n. n ≤ i) (sym (length-map xs f)) most)

-- ---- what each of a list is, by its place

abbrev pub AreEach : {X : Type 0} → (ℕ → X → Type 0) → List X → Type 0
AreEach {X} P xs = (k : ℕ) (d : X) → k < length xs → P k (get_or xs k d)

pub each_none : {X : Type 0} (P : ℕ → X → Type 0) → AreEach P []
each_none P k d below = absurd (omega (arith, below))

pub each_push : {X : Type 0} (P : ℕ → X → Type 0) (xs : List X) (x : X) → AreEach P xs → P (length xs) x → AreEach P (xs ++ x ∷ [])
each_push P xs x all last k d below =
    ⊎_elim (λ less. subst (P k) (sym (get_or_append_left xs (x ∷ []) d k less)) (all k d less))
    (λ most.
    let size = length_push xs x in
    let at : length xs ≡ k = omega (arith, most, below, size) in
    subst (P k) (sym (get_or_push xs x d k at)) (subst (λ n. P n x) at last))
    (cases_lt k (length xs))

pub each_at : {X : Type 0} (P : ℕ → X → Type 0) (xs : List X) (k : ℕ) → AreEach P xs → k < length xs → IsSomeAnd (slice_get xs k) (P k)
each_at P [] k all below = absurd (omega (arith, below))
each_at P (x ∷ more) k all below = subst (λ o. IsSomeAnd o (P k)) (sym (slice_get-get_or (x ∷ more) k x below)) (all k x below)
