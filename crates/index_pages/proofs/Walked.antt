-- An index that is walked: after some pages the one that is come to begins what is left of it.
use Rattle.std.proofs.Common.{◌≡◌, ◌∙◌, ℕ, zero, suc, ◌+◌, ◌≤◌, Option, Some, None, List, [], ◌∷◌, length, drop, min, slice_get, refl, sym, ap, subst, arith, length-drop}
use Rattle.std.proofs.lemmas.List.{drop-drop}
use Rattle.std.proofs.lemmas.Option.{slice_get_past}
use Rattle.file_release.specs.domain_base.declared.place.Home.{Home}
use Rattle.file_release.specs.page_store.Pages.{Pages}
use Rattle.index_pages.specs.Homes.{AreIndexHomes, HasIndexHomes, HasIndexPageAt, next_at}

-- the home that is come to after this number of pages of each list that there is
abbrev pub IsCome : Pages → Option Home → ℕ → Option Home → Type 0
IsCome pages first count home = (homes : List Home) → AreIndexHomes pages first homes → AreIndexHomes pages home (drop count homes)

module _ (pages : Pages) where
  begins_with : (home : Option Home) (homes : List Home) → AreIndexHomes pages home homes → home ≡ slice_get homes 0
  begins_with None [] are = refl
  begins_with None (h ∷ more) are = absurd are
  begins_with (Some first) [] are = absurd are
  begins_with (Some first) (h ∷ more) are = ap Some are.0

  good_first : (here : Home) (homes : List Home) → AreIndexHomes pages (Some here) homes → HasIndexPageAt pages here
  good_first here [] are = absurd are
  good_first here (h ∷ more) are = subst (HasIndexPageAt pages) (sym are.0) are.1

  behind : (here : Home) (homes : List Home) → AreIndexHomes pages (Some here) homes → AreIndexHomes pages (next_at pages here) (drop 1 homes)
  behind here [] are = absurd are
  behind here (h ∷ more) are = subst (λ (x : Home). AreIndexHomes pages (next_at pages x) more) (sym are.0) are.2

  ends : (homes : List Home) → AreIndexHomes pages None homes → length homes ≡ 0
  ends [] are = refl
  ends (h ∷ more) are = absurd are

  some_left : (here : Home) (homes : List Home) → AreIndexHomes pages (Some here) homes → 1 ≤ length homes
  some_left here [] are = absurd are
  some_left here (h ∷ more) are = omega arith

  slice_get_drop : (homes : List Home) (k : ℕ) → slice_get (drop k homes) 0 ≡ slice_get homes k
  slice_get_drop homes zero = refl
  slice_get_drop [] (suc k) = refl
  slice_get_drop (h ∷ more) (suc k) = slice_get_drop more k

  module _ (first : Option Home) (count : ℕ) (home : Option Home) (come : IsCome pages first count home) where
    pub is_home : (homes : List Home) → AreIndexHomes pages first homes → home ≡ slice_get homes count
    is_home homes are = begins_with home (drop count homes) (come homes are) ∙ slice_get_drop homes count

  module _ (first : Option Home) (count : ℕ) (come : IsCome pages first count None) where
    short : (homes : List Home) → AreIndexHomes pages first homes → length homes ≤ count
    short homes are = omega (arith, ends (drop count homes) (come homes are), length-drop count homes)

    pub none_at : (homes : List Home) → AreIndexHomes pages first homes → (number : ℕ) → count ≤ number → None ≡ slice_get homes number
    none_at homes are number past = sym (slice_get_past homes number (omega (arith, short homes are, past)))

  module _ (first : Option Home) (count : ℕ) (here : Home) (come : IsCome pages first count (Some here)) where
    pub good_here : HasIndexHomes pages first → HasIndexPageAt pages here
    good_here has = good_first here (drop count has.0) (come has.0 has.1)

    pub come_next : IsCome pages first (count + 1) (next_at pages here)
    come_next homes are = subst (AreIndexHomes pages (next_at pages here)) (drop-drop 1 count homes) (behind here (drop count homes) (come homes are))

    pub long : (homes : List Home) → AreIndexHomes pages first homes → count + 1 ≤ length homes
    long homes are = omega (arith, some_left here (drop count homes) (come homes are), length-drop count homes)

-- this number of pages was passed
abbrev pub HasPassed : Pages → Option Home → ℕ → Type 0
HasPassed pages first count = (homes : List Home) → AreIndexHomes pages first homes → count ≤ length homes

-- there are as many where none is left, and no fewer where the count stops
pub counted : (pages : Pages) (first : Option Home) (count : ℕ) → IsCome pages first count None → HasPassed pages first count → (most : ℕ) → count ≤ most
    → (homes : List Home) → AreIndexHomes pages first homes → count ≡ min (length homes) most
counted pages first count come passed most below homes are = omega (arith, short pages first count come homes are, passed homes are, below)

pub stopped : (pages : Pages) (first : Option Home) (count : ℕ) → HasPassed pages first count
    → (homes : List Home) → AreIndexHomes pages first homes → count ≡ min (length homes) count
stopped pages first count passed homes are = omega (arith, passed homes are)
