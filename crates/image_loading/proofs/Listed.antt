-- What holds of each item of a list that was passed.
use Rattle.std.proofs.Common.{◌≡◌, ◌∙◌, ℕ, ◌+◌, ◌<◌, ◌≤◌, List, length, get_or, Option, Some, None, slice_get, refl, sym, ap, subst, arith, ⊎_elim}
use Rattle.std.specs.Option.{option_and_then}
use Rattle.std.proofs.lemmas.Bool.{cases_lt}
use Rattle.std.proofs.lemmas.Option.{slice_get_read, slice_get_within}
use Rattle.slot_files.specs.domain_base.declared.place.Home.{Home}
use Rattle.slot_files.proofs.OfDomainLayout.OnePage.{some_same}
use Rattle.slot_files.specs.filesets_reading.Seen.{home_in}
use Rattle.slot_files.specs.sorted_sets.Members.{IsIn, entries}
use Rattle.slot_files.specs.sorted_sets.declared.home_set.HomeSet.{HomeSet}
use Rattle.slot_files.proofs.OfSortedSets.Placed.{placed}
use Rattle.slot_files.specs.sorted_sets.Homes.{number_of}

-- it holds of those in front of a place
abbrev pub HoldBelow : {X : Type 0} → ℕ → List X → (X → Type 0) → Type 0
HoldBelow {X} n xs holds = (k : ℕ) (x : X) → k < n → slice_get xs k ≡ Some x → holds x

pub hold_none : {X : Type 0} (xs : List X) (holds : X → Type 0) → HoldBelow 0 xs holds
hold_none xs holds k x less = absurd (omega (arith, less))

-- and of one more
pub hold_next : {X : Type 0} (xs : List X) (n : ℕ) (item : X) (old new : X → Type 0) → n < length xs → item ≡ get_or xs n item → ((x : X) → old x → new x) → HoldBelow n xs old → new item → HoldBelow (n + 1) xs new
hold_next {X} xs n item old new within is grows below here k x less at =
    ⊎_elim (λ low. grows x (below k x low at))
    (λ high.
    let there : slice_get xs n ≡ Some item = slice_get_read xs (length xs) n item refl within is in
    let place : n ≡ k = omega (arith, less, high) in
    let same : item ≡ x = some_same item x (sym there ∙ subst (λ j. slice_get xs j ≡ Some x) (sym place) at) in
    subst new same here)
    (cases_lt k n)

-- in the end it holds of all
pub hold_all : {X : Type 0} (xs lent : List X) (n : ℕ) (holds : X → Type 0) → lent ≡ xs → length lent ≤ n → HoldBelow n lent holds → (k : ℕ) (x : X) → slice_get xs k ≡ Some x → holds x
hold_all {X} xs lent n holds same most below k x at =
    let there : slice_get lent k ≡ Some x = subst (λ (l : List X). slice_get l k ≡ Some x) (sym same) at in
    below k x (omega (arith, slice_get_within lent k x there, most)) there

-- a page that has a home in a list stands in it
pub place_of : (places : List (Option Home)) (page : ℕ) (home : Home) → home_in places page ≡ Some home → slice_get places page ≡ Some (Some home)
place_of places page home is = by_place (slice_get places page) refl
  where
    by_place : (o : Option (Option Home)) → slice_get places page ≡ o → o ≡ Some (Some home)
    by_place None none = absurd (let e : None ≡ Some home = sym (ap (option_and_then (λ h. h)) none) ∙ is in absurd (cc))
    by_place (Some place) there = ap Some (sym (ap (option_and_then (λ h. h)) there) ∙ is)

-- a home of a set stands in its list
pub entry_of : (set : HomeSet) (home : Home) → IsIn set home → (k : ℕ) × (slice_get (entries set) k ≡ Some (number_of home, home))
entry_of set home there =
    let at = placed (entries set) (number_of home) home there in
    let item : ℕ × Home = (number_of home, home) in
    (at.0, slice_get_read (entries set) (length (entries set)) at.0 item refl at.1 (sym at.2))
