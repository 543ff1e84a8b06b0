-- How many pages change.
use Rattle.std.proofs.Common.{◌≡◌, ◌∙◌, ◌+◌, ◌≤◌, ℕ, zero, suc, true, false, List, [], ◌∷◌, ◌++◌, length, Contains, refl, sym, ap, subst, arith, length-append, ⊎_elim}
use Rattle.std.proofs.lemmas.Bool.{and_parts, cases_Bool}
use Rattle.std.proofs.lemmas.List.Elements.{Contains-append_left, Contains-append_right}
use Rattle.free_cells.specs.domain_base.declared.place.CellAt.{CellAt}
use Rattle.free_cells.specs.domain_base.declared.place.Home.{Home}
use Rattle.free_cells.specs.page_store.Pages.{Pages, same_home}
use Rattle.free_cells.specs.metadata_cells.CellPage.{home_of}
use Rattle.free_cells.proofs.OfMetadataCells.Changed.{homes_same}
use Rattle.free_cells.specs.Cells.{Cells}
use Rattle.free_cells.specs.Belong.{last_home}
use Rattle.free_cells.specs.free_space.Spaces.{Spaces}
use Rattle.file_chains.specs.Allocated.{Takes}
use Rattle.file_chains.specs.MapChanges.{ChangesAtMost}

-- a home that is none of some is none that is one of them
other_home : (homes : List Home) (h x : Home) → Contains homes x → ¬ Contains homes h → same_home h x ≡ false
other_home homes h x inside out = ⊎_elim
    (λ same. absurd (out (subst (Contains homes) (sym (homes_same h x same)) inside)))
    (λ other. other)
    (cases_Bool (same_home h x))

pub none_changes : (count : ℕ) (old new : Pages) → new ≡ old → ChangesAtMost count old new
none_changes count old new same = record { homes = []; few = omega arith; others = λ h out. ap (λ (p : Pages). p h) same }

pub one_changes : (old new : Pages) (x : Home) → ((h : Home) → same_home h x ≡ false → new h ≡ old h) → ChangesAtMost 1 old new
one_changes old new x elsewhere = record { homes = x ∷ []; few = omega arith; others = λ h out. elsewhere h (other_home (x ∷ []) h x (0, omega arith, refl) out) }

pub two_change : (old new : Pages) (x y : Home) → ((h : Home) → same_home h x ≡ false → same_home h y ≡ false → new h ≡ old h) → ChangesAtMost 2 old new
two_change old new x y elsewhere = record {
  homes = x ∷ y ∷ [];
  few = omega arith;
  others = λ h out. elsewhere h (other_home (x ∷ y ∷ []) h x (0, omega arith, refl) out) (other_home (x ∷ y ∷ []) h y (1, omega arith, refl) out);
}

pub at_most : (few many : ℕ) (old new : Pages) → few ≤ many → ChangesAtMost few old new → ChangesAtMost many old new
at_most few many old new less is = record { homes = is.homes; few = omega (arith, is.few, less); others = is.others }

pub then_changes : (a b : ℕ) (old between new : Pages) → ChangesAtMost a old between → ChangesAtMost b between new → ChangesAtMost (a + b) old new
then_changes a b old between new first second = record {
  homes = first.homes ++ second.homes;
  few = omega (arith, length-append first.homes second.homes, first.few, second.few);
  others = λ h out.
      second.others h (λ inside. out (Contains-append_right first.homes second.homes h inside))
      ∙ first.others h (λ inside. out (Contains-append_left first.homes second.homes h inside));
}

-- if a cell was handed out that is linked after another, with the last page of a table if one was
-- added after it
pub linked_changes : (prefer : ℕ) (at : CellAt) (space space_now : Spaces) (cells cells_now : Cells) (old between new : Pages) → Takes prefer at space space_now cells cells_now old between → (start : CellAt)
    → ((h : Home) → same_home h (home_of at) ≡ false → same_home h (home_of start) ≡ false → new h ≡ between h) → ChangesAtMost 3 old new
linked_changes prefer at space space_now cells cells_now old between new takes start elsewhere = ⊎_elim
    (λ had. at_most 2 3 old new (omega arith) (two_change old new (home_of at) (home_of start) (λ h here there. elsewhere h here there ∙ ap (λ (p : Pages). p h) had.same_pages)))
    (λ none.
    let last = last_home cells none.home.vol in
    let homes : List Home = home_of at ∷ home_of start ∷ last ∷ [] in
    let same : home_of at ≡ none.home = homes_same (home_of at) none.home (and_parts (same_home (home_of at) none.home) _ none.on).0 in
    record {
      homes = homes;
      few = omega arith;
      others = λ h out.
          let here = other_home homes h (home_of at) (0, omega arith, refl) out in
          elsewhere h here (other_home homes h (home_of start) (1, omega arith, refl) out)
          ∙ none.adds.elsewhere h (subst (λ (x : Home). same_home h x ≡ false) same here) (other_home homes h last (2, omega arith, refl) out);
    })
    takes.before
