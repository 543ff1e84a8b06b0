-- A domain with one page of cells: where its table of cells stands, and which cells are on it.
use Rattle.std.proofs.Common.{◌≡◌, ◌∙◌, ℕ, zero, suc, ◌<◌, Bool, true, false, cond, nat_lt, List, [], ◌∷◌, Option, Some, None, IsSomeAnd, Contains, refl, sym, ap, subst, arith}
use Rattle.std.proofs.lemmas.Bool.{and_parts, ltb-true}
use Rattle.std.specs.Prelude.{◌&&◌}
use Rattle.std.specs.Option.{option_and_then}
use Rattle.file_release.specs.domain_base.declared.place.CellAt.{CellAt}
use Rattle.file_release.specs.page_store.Pages.{Pages}
use Rattle.file_release.specs.metadata_cells.Cell.{Cell}
use Rattle.file_release.specs.metadata_cells.CellPage.{IsCellPage, cell_of, home_of, index_of, is_cell_page, next_of}
use Rattle.domain_layout.specs.CellRules.{IsCellsPage, IsUsed}
use Rattle.domain_layout.specs.Layout.{IsCellTable, IsPageAt, Layout}
use Rattle.domain_layout.specs.Owners.{IsOnTable, frame_of}
use Rattle.domain_layout.specs.NewDomain.{IsNewAnchor, firsts, on_first}
use Rattle.domain_layout.proofs.OnePage.{first_read, some_same}

pub one_in : {X : Type 0} (x a : X) → Contains (x ∷ []) a → a ≡ x
one_in x a (zero, within, is) = sym is
one_in x a (suc k, within, is) = absurd (omega (arith, within))

-- a cell whose bytes are there is one of its page's
pub within_page : (o : Option (List ℕ)) (n : ℕ) (bytes : List ℕ)
    → option_and_then (λ p. cond (is_cell_page p && nat_lt n 28) (Some (cell_of p n)) None) o ≡ Some bytes → n < 28
within_page None n bytes said = let e : None ≡ Some bytes = said in absurd (cc)
within_page (Some p) n bytes said = by_test (is_cell_page p && nat_lt n 28) refl
  where
    by_test : (b : Bool) → (is_cell_page p && nat_lt n 28) ≡ b → n < 28
    by_test true both = ltb-true n 28 (and_parts (is_cell_page p) (nat_lt n 28) both).1
    by_test false none =
        let e : None ≡ Some bytes = sym (ap (λ b. cond b (Some (cell_of p n)) None) none) ∙ said in
        absurd (cc)

module _ (pages : Pages) (layout : Layout) (anchor : IsNewAnchor (frame_of layout)) (page : List ℕ) (there : pages (on_first (firsts (frame_of layout)).cells) ≡ Some page) (good : IsCellPage page) (indexed : index_of page ≡ 0) (last : next_of page ≡ 0) (laid : IsCellTable pages 1 (firsts (frame_of layout)).cells (layout.cells 1)) where
  -- ---- where the pages of tables stand

  one_page : (table : List ℕ) → IsCellTable pages 1 (firsts (frame_of layout)).cells table → table ≡ (firsts (frame_of layout)).cells ∷ []
  one_page [] stands = let e : None ≡ Some (firsts (frame_of layout)).cells = stands.begins in absurd (cc)
  one_page (x ∷ []) stands = ap (λ p. p ∷ []) (some_same x (firsts (frame_of layout)).cells stands.begins)
  one_page (x ∷ y ∷ rest) stands =
      let at : pages (on_first x) ≡ Some page = ap (λ p. pages (on_first p)) (some_same x (firsts (frame_of layout)).cells stands.begins) ∙ there in
      let first : IsPageAt (x ∷ y ∷ rest) 0 page = subst (λ o. IsSomeAnd o (IsPageAt (x ∷ y ∷ rest) 0)) at (stands.each 0 (omega arith)) in
      absurd (stands.some 1 (omega arith) (sym first.linked ∙ last))

  pub cells_are : layout.cells 1 ≡ (firsts (frame_of layout)).cells ∷ []
  cells_are = one_page (layout.cells 1) laid

  pub used_there : (at : CellAt) (cell : Cell) → IsOnTable pages layout at cell → IsUsed pages (frame_of layout) at cell
  used_there at cell on =
      let vol : at.vol ≡ 1 = anchor.alone at.vol on.member in
      let among : Contains ((firsts (frame_of layout)).cells ∷ []) at.page = subst (λ table. Contains table at.page) (ap layout.cells vol ∙ cells_are) on.table in
      let number : at.page ≡ (firsts (frame_of layout)).cells = one_in (firsts (frame_of layout)).cells at.page among in
      let home : on_first (firsts (frame_of layout)).cells ≡ home_of at = (λ i. record { vol = sym vol i; page = sym number i }) in
      record {
        place = record {
          place = 0;
          page = page;
          is = subst (λ h. IsCellsPage pages (frame_of layout) 0 h page) home (first_read pages (frame_of layout) anchor page there good indexed last);
          within = within_page (pages (home_of at)) at.cell on.stands.bytes on.stands.there;
        };
        stands = on.stands;
      }
