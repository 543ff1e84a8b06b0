-- A page that was put into pages.
use Rattle.std.proofs.Common.{◌≡◌, ◌∙◌, ℕ, Bool, true, false, cond, ◌&&◌, nat_lt, Option, Some, None, IfSome, List, refl, sym, ap, subst}
use Rattle.std.specs.Option.{option_and_then}
use Rattle.metadata_cells.specs.domain_base.declared.place.Home.{Home}
use Rattle.metadata_cells.specs.page_store.Pages.{Pages, same_home, with_page}
use Rattle.metadata_cells.specs.CellPage.{IsCellPage, KeepsWellFormed, cell_at, cell_of, home_of, is_cell_page}
use Rattle.metadata_cells.specs.Chain.{LeavesOthers}
use Rattle.metadata_cells.proofs.Changed.{homes_same, same_itself}
use Rattle.free_cells.specs.Cells.{is_on}

abbrev cell_in : ℕ → List ℕ → Option (List ℕ)
cell_in c page = cond (is_cell_page page && nat_lt c 28) (Some (cell_of page c)) None

no_such_cell : (c : ℕ) → nat_lt c 28 ≡ false → (o : Option (List ℕ)) → option_and_then (cell_in c) o ≡ None
no_such_cell c past None = refl
no_such_cell c past (Some page) = ap (λ b. cond (is_cell_page page && b) (Some (cell_of page c)) None) past ∙ none (is_cell_page page)
  where
    none : (b : Bool) → cond (b && false) (Some (cell_of page c)) None ≡ None
    none true = refl
    none false = refl

module _ (mid new : Pages) (home : Home) (page : List ℕ) (put : new ≡ with_page home page mid) where
  pub there : new home ≡ Some page
  there = ap (λ (ps : Pages). ps home) put ∙ ap (λ (b : Bool). cond b (Some page) (mid home)) (same_itself home)

  pub other : (h : Home) → same_home h home ≡ false → new h ≡ mid h
  other h apart = ap (λ (ps : Pages). ps h) put ∙ ap (λ (b : Bool). cond b (Some page) (mid h)) apart

  pub others : LeavesOthers (is_on home) mid new
  others at apart = by_home (same_home (home_of at) home) refl
    where
      by_home : (b : Bool) → same_home (home_of at) home ≡ b → cell_at new at ≡ cell_at mid at
      by_home false away = ap (option_and_then (cell_in at.cell)) (other (home_of at) away)
      by_home true same =
          let past : nat_lt at.cell 28 ≡ false = ap (λ b. b && nat_lt at.cell 28) (sym same) ∙ apart in
          no_such_cell at.cell past (new (home_of at)) ∙ sym (no_such_cell at.cell past (mid (home_of at)))

  pub well_formed : IsCellPage page → KeepsWellFormed mid new
  well_formed good h was = by_home (same_home h home) refl
    where
      by_home : (b : Bool) → same_home h home ≡ b → IfSome (new h) IsCellPage
      by_home false away = subst (λ o. IfSome o IsCellPage) (sym (other h away)) was
      by_home true same = subst (λ o. IfSome o IsCellPage) (sym (ap new (homes_same h home same) ∙ there)) good
