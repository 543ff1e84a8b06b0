-- Whether exactly the first pages have a home, and whether some are lost.
use Rattle.std.proofs.Common.{◌≡◌, ◌∙◌, ◌⊎◌, ◌↔◌, inl, inr, ℕ, ◌+◌, ◌/◌, ◌%◌, ◌<◌, ◌≤◌, Bool, true, false, not, List, Option, Some, None, IsSome, IsTrue, length, refl, sym, ap, subst, arith, ⊎_elim}
use Rattle.std.proofs.lemmas.Bool.{cases_lt}
use Rattle.std.proofs.lemmas.Option.{slice_get_past}
use Rattle.std.specs.Option.{option_and_then}
use Rattle.index_row_faults.specs.domain_base.declared.place.Home.{Home}
use Rattle.index_row_faults.specs.extent_maps.Runs.{home_at}
use Rattle.index_row_faults.specs.metadata_cells.Chain.{PlacedCell}
use Rattle.index_row_faults.specs.file_chains.Files.{places_of}
use Rattle.index_row_faults.specs.domain_layout.DirectoryRules.{HasWrongSize}
use Rattle.index_row_faults.specs.domain_layout.Seen.{SeenFile}
use Rattle.slot_files.specs.Said.{HasFirst, HasGap, IsLostAt, ListsPlaces, LosesPage, home_said, place_in, said_in}
use Rattle.slot_files.specs.declared.said.SaidHome.{SaidHome}
use Rattle.slot_files.specs.declared.said.SaidPlace.{SaidPlace}
use Rattle.slot_files.proofs.SaidPlaces.{past}

no_bool : {P : Type 0} → false ≡ true → P
no_bool is = absurd (cc)

said_past : (homes : List (Option SaidHome)) (page : ℕ) → length homes ≤ page → said_in homes page ≡ None
said_past homes page behind = ap (option_and_then home_said) (slice_get_past homes page behind)

none_past : (homes : List (Option SaidHome)) (page : ℕ) → length homes ≤ page → ¬ IsSome (said_in homes page)
none_past homes page behind some = no_bool (subst IsSome (said_past homes page behind) some)

-- ---- exactly the first have one

-- a page has a home exactly where it is in front of another
abbrev pub IsRightAt : List (Option SaidHome) → ℕ → ℕ → Type 0
IsRightAt homes count page = IsSome (said_in homes page) ↔ (page < count)

pub right_below : (homes : List (Option SaidHome)) (count page : ℕ) → page < count → (r : Bool) → IsTrue r ↔ IsSome (said_in homes page) → IsTrue r ↔ IsRightAt homes count page
right_below homes count page below r is = (
  (λ so. ((λ some. below), (λ low. is.0 so))),
  (λ right. is.1 (right.1 below)),
)

pub right_behind : (homes : List (Option SaidHome)) (count page : ℕ) → count ≤ page → (r : Bool) → IsTrue r ↔ IsSome (said_in homes page) → IsTrue (not r) ↔ IsRightAt homes count page
right_behind homes count page behind true is = (
  (λ so. no_bool so),
  (λ right. let low = right.0 (is.0 refl) in absurd (omega (arith, low, behind))),
)
right_behind homes count page behind false is = (
  (λ so. ((λ some. no_bool (is.1 some)), (λ low. absurd (omega (arith, low, behind))))),
  (λ right. refl),
)

pub first_on : (homes : List (Option SaidHome)) (count page : ℕ) → ((p : ℕ) → p < page → IsRightAt homes count p) → IsRightAt homes count page → (p : ℕ) → p < page + 1 → IsRightAt homes count p
first_on homes count page before is p below =
    ⊎_elim (λ low. before p low)
    (λ high. let same : page ≡ p = omega (arith, below, high) in subst (IsRightAt homes count) same is) (cases_lt p page)

pub first_ends : (homes : List (Option SaidHome)) (count page : ℕ) → length homes ≤ page → ((p : ℕ) → p < page → IsRightAt homes count p) → (r : Bool) → IsTrue r ↔ (count ≤ length homes) → IsTrue r ↔ HasFirst homes count
first_ends homes count page whole each r is = (
  (λ so.
      let few = is.0 so in
      λ p. ⊎_elim (λ low. each p low)
      (λ high. ((λ some. absurd (none_past homes p (omega (arith, high, whole)) some)), (λ low. absurd (omega (arith, low, few, high, whole))))) (cases_lt p page)),
  (λ first.
      is.1 (⊎_elim (λ short. absurd (none_past homes (length homes) (omega arith) ((first (length homes)).1 short))) (λ few. few) (cases_lt (length homes) count))),
)

-- ---- sizes

pub gap_odd : (homes : List (Option SaidHome)) (size : ℕ) → ¬ size % 8192 ≡ 0 → HasGap homes size
gap_odd homes size odd (count, is, first) = odd (omega (arith, is))

pub gap_even : (homes : List (Option SaidHome)) (size : ℕ) → size % 8192 ≡ 0 → (r : Bool) → IsTrue r ↔ HasFirst homes (size / 8192) → IsTrue (not r) ↔ HasGap homes size
gap_even homes size even true is = (
  (λ so. no_bool so),
  (λ gap. absurd (gap (size / 8192, omega (arith, even), is.0 refl))),
)
gap_even homes size even false is = (
  (λ so. λ (count, of, first). let n : count ≡ size / 8192 = omega (arith, of) in no_bool (is.1 (subst (HasFirst homes) n first))),
  (λ gap. refl),
)

-- ---- pages that are lost

none_is : (o : Option Home) → ¬ IsSome o → o ≡ None
none_is None not = refl
none_is (Some home) not = absurd (not refl)

pub lost_none : (places : List SaidPlace) (homes : List (Option SaidHome)) (page : ℕ) → IsSome (said_in homes page) → ¬ IsLostAt places homes page
lost_none places homes page some lost = no_bool (subst IsSome lost.1 some)

pub lost_by : (places : List SaidPlace) (homes : List (Option SaidHome)) (page : ℕ) → ¬ IsSome (said_in homes page) → (r : Bool) → IsTrue r ↔ IsSome (home_at (place_in places page)) → IsTrue r ↔ IsLostAt places homes page
lost_by places homes page none r is = (
  (λ so. (is.0 so, none_is (said_in homes page) none)),
  (λ lost. is.1 lost.0),
)

pub lost_on : (places : List SaidPlace) (homes : List (Option SaidHome)) (page : ℕ) → ((p : ℕ) → p < page → ¬ IsLostAt places homes p) → ¬ IsLostAt places homes page → (p : ℕ) → p < page + 1 → ¬ IsLostAt places homes p
lost_on places homes page before none p below lost =
    ⊎_elim (λ low. before p low lost)
    (λ high. let same : page ≡ p = omega (arith, below, high) in none (subst (IsLostAt places homes) (sym same) lost)) (cases_lt p page)

pub lost_ends : (places : List SaidPlace) (homes : List (Option SaidHome)) (page : ℕ) → length places ≤ page → ((p : ℕ) → p < page → ¬ IsLostAt places homes p) → ¬ LosesPage places homes
lost_ends places homes page whole none (p, lost) =
    ⊎_elim (λ low. none p low lost)
    (λ high. no_bool (subst IsSome (ap home_at (past places p (omega (arith, high, whole)))) lost.0)) (cases_lt p page)

-- ---- a wrong size is that of the rule

pub wrong_size : (cells : List PlacedCell) (seen : SeenFile) (places : List SaidPlace) (homes : List (Option SaidHome)) → ListsPlaces (places_of cells) places → ((page : ℕ) → said_in homes page ≡ seen.homes page)
    → (HasGap homes seen.is.size ⊎ LosesPage places homes) ↔ HasWrongSize cells seen
wrong_size cells seen places homes listed same = (
  ⊎_elim
      (λ gap. inl (λ (count, is, first). gap (count, is, λ page. ((λ some. (first page).0 (subst IsSome (same page) some)), (λ low. subst IsSome (sym (same page)) ((first page).1 low))))))
      (λ (page, lost). inr (page, subst (λ p. IsSome (home_at p)) (listed page) lost.0, sym (same page) ∙ lost.1)),
  ⊎_elim
      (λ wrong. inl (λ (count, is, first). wrong (count, is, λ page. ((λ some. (first page).0 (subst IsSome (sym (same page)) some)), (λ low. subst IsSome (same page) ((first page).1 low))))))
      (λ (page, some, none). inr (page, (subst (λ p. IsSome (home_at p)) (sym (listed page)) some, same page ∙ none))),
)
