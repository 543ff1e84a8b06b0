-- The homes of an index: there is one list of them, each is in it once, and it stays where its pages
-- do.
use Rattle.std.proofs.Common.{◌≡◌, ◌∙◌, ℕ, zero, suc, ◌<◌, Option, Some, None, IsSomeAnd, List, [], ◌∷◌, length, drop, slice_get, refl, sym, ap, subst, arith, unwrap_or, length-drop}
use Rattle.std.proofs.lemmas.Option.{slice_get-get_or}
use Rattle.std.specs.Prelude.{Contains}
use Rattle.std.specs.Option.{option_and_then}
use Rattle.file_release.specs.domain_base.declared.place.Home.{Home}
use Rattle.file_release.specs.fileset_files.Shown.{AreIndexPages}
use Rattle.file_release.specs.page_store.Bitfiles.{shown_index}
use Rattle.file_release.specs.page_store.Pages.{Pages}
use Rattle.file_release.specs.tag_dirs.TagPage.{next_of}
use Rattle.index_pages.specs.Homes.{AreIndexHomes, HasIndexPageAt, IsIndexPage, next_at, shown_at}

module _ (pages : Pages) where
  -- there is one list
  pub one_list : (first : Option Home) (a b : List Home) → AreIndexHomes pages first a → AreIndexHomes pages first b → a ≡ b
  one_list None [] [] left right = refl
  one_list None [] (h ∷ b) left right = absurd right
  one_list None (h ∷ a) b left right = absurd left
  one_list (Some first) [] b left right = absurd left
  one_list (Some first) (h ∷ a) [] left right = absurd right
  one_list (Some first) (h ∷ a) (k ∷ b) left right =
      let same : h ≡ k = sym left.0 ∙ right.0 in
      λ i. same i ∷ one_list (next_at pages h) a b left.2 (subst (λ (x : Home). AreIndexHomes pages (next_at pages x) b) (sym same) right.2) i

  -- what is after a place of the list is the list from there on
  pub from_place : (first : Option Home) (homes : List Home) (k : ℕ) → AreIndexHomes pages first homes
      → (at : Option Home) → slice_get homes k ≡ at → AreIndexHomes pages at (drop k homes)
  from_place None [] zero are at is = subst (λ (o : Option Home). AreIndexHomes pages o []) is tt
  from_place None [] (suc k) are at is = subst (λ (o : Option Home). AreIndexHomes pages o []) is tt
  from_place None (h ∷ more) k are at is = absurd are
  from_place (Some first) [] k are at is = absurd are
  from_place (Some first) (h ∷ more) zero are at is = subst (λ (o : Option Home). AreIndexHomes pages o (h ∷ more)) is (refl, are.1, are.2)
  from_place (Some first) (h ∷ more) (suc k) are at is = from_place (next_at pages h) more k are.2 at is

  -- the first home does not come again
  pub first_once : (first : Option Home) (h : Home) (more : List Home) → AreIndexHomes pages first (h ∷ more) → ¬ Contains more h
  first_once None h more are there = are
  first_once (Some first) h more are there =
      let at : slice_get more there.0 ≡ Some h = slice_get-get_or more there.0 h there.1 ∙ ap Some there.2 in
      let again : AreIndexHomes pages (Some h) (drop there.0 more) = from_place (next_at pages h) more there.0 are.2 (Some h) at in
      let same : drop there.0 more ≡ h ∷ more = one_list (Some h) (drop there.0 more) (h ∷ more) again (refl, are.1, are.2) in
      omega (arith, ap length same, length-drop there.0 more)

  -- each of them is a good page
  pub good_at : (first : Option Home) (homes : List Home) → AreIndexHomes pages first homes → (home : Home) → Contains homes home → HasIndexPageAt pages home
  good_at None [] are home there = absurd (past there.1)
    where
      past : there.0 < 0 → ⊥
      past less = omega (arith, less)
  good_at None (h ∷ more) are home there = absurd are
  good_at (Some first) [] are home there = absurd are
  good_at (Some first) (h ∷ more) are home (zero, below, is) = subst (HasIndexPageAt pages) is are.1
  good_at (Some first) (h ∷ more) are home (suc k, below, is) = good_at (next_at pages h) more are.2 home (k, omega (arith, below), is)

  -- a set shows the pages where they stand
  pub shown : (first : Option Home) (homes : List Home) → AreIndexHomes pages first homes → AreIndexPages pages first (shown_at pages homes)
  shown None [] are = tt
  shown None (h ∷ more) are = absurd are
  shown (Some first) [] are = absurd are
  shown (Some first) (h ∷ more) are = subst (λ (x : Home). AreIndexPages pages (Some x) (shown_at pages (h ∷ more))) (sym are.0) (by_page (pages h) refl are.1 (shown (next_at pages h) more are.2))
    where
      by_page : (o : Option (List ℕ)) → pages h ≡ o → IsSomeAnd o IsIndexPage → AreIndexPages pages (option_and_then next_of o) (shown_at pages more)
          → IsSomeAnd o (λ stored. (shown_index (unwrap_or (pages h) []) ≡ shown_index stored) × AreIndexPages pages (next_of stored) (shown_at pages more))
      by_page None at good rest = absurd good
      by_page (Some page) at good rest = (ap (λ o. shown_index (unwrap_or o [])) at, rest)

-- what is in a list, and so in a longer one
pub head_there : (h : Home) (more : List Home) → Contains (h ∷ more) h
head_there h more = (0, omega arith, refl)

pub tail_there : (h : Home) (more : List Home) (home : Home) → Contains more home → Contains (h ∷ more) home
tail_there h more home there = (suc there.0, omega (arith, there.1), there.2)

-- a list stays where each page names the next one as before and is good
module _ (old new : Pages) where
  abbrev pub Keeps : Home → Type 0
  Keeps home = HasIndexPageAt new home × (next_at new home ≡ next_at old home)

  pub kept : (first : Option Home) (homes : List Home) → AreIndexHomes old first homes → ((home : Home) → Contains homes home → Keeps home)
      → AreIndexHomes new first homes
  kept None [] are keeps = tt
  kept None (h ∷ more) are keeps = absurd are
  kept (Some first) [] are keeps = absurd are
  kept (Some first) (h ∷ more) are keeps =
      let at = keeps h (head_there h more) in
      (are.0, at.0, subst (λ (o : Option Home). AreIndexHomes new o more) (sym at.1) (kept (next_at old h) more are.2 (λ home there. keeps home (tail_there h more home there))))

  -- so where none of its pages changes
  pub kept_same : (first : Option Home) (homes : List Home) → AreIndexHomes old first homes → ((home : Home) → Contains homes home → new home ≡ old home)
      → AreIndexHomes new first homes
  kept_same first homes are same = kept first homes are (λ home there. (subst (λ (o : Option (List ℕ)). IsSomeAnd o IsIndexPage) (sym (same home there)) (good_at old first homes are home there), ap (option_and_then next_of) (same home there)))

  pub shown_same : (homes : List Home) → ((home : Home) → Contains homes home → new home ≡ old home) → shown_at new homes ≡ shown_at old homes
  shown_same [] same = refl
  shown_same (h ∷ more) same = λ i. shown_index (unwrap_or (same h (head_there h more) i) []) ∷ shown_same more (λ home there. same home (tail_there h more home there)) i
