-- A domain with one page of cells: that page is read, and no other is come to.
use Rattle.std.proofs.Common.{◌≡◌, ◌∙◌, ℕ, true, cond, nat_eq, nat_lt, List, [], length, Option, Some, None, IsSomeAnd, Contains, refl, sym, ap, subst, arith, ⊎_elim}
use Rattle.std.proofs.lemmas.Bool.{eq-eqb, lt-ltb}
use Rattle.std.specs.Prelude.{◌&&◌}
use Rattle.std.specs.Option.{option_and_then}
use Rattle.file_release.specs.domain_base.declared.place.CellAt.{CellAt}
use Rattle.file_release.specs.domain_base.declared.place.Home.{Home}
use Rattle.file_release.specs.page_store.Pages.{Pages}
use Rattle.file_release.specs.cell_records.Fields.{number_at}
use Rattle.file_release.specs.metadata_cells.CellPage.{IsCellPage, cell_at, cell_of, free_cells, home_of, index_of, is_cell_page, next_of}
use Rattle.domain_layout.specs.CellRules.{HasWrongHeader, IsCellsPage, IsNoCellsPage, IsPlace}
use Rattle.domain_layout.specs.Reached.{Frame, IsRead, IsUnread, MayBe, Reaches, begins, cells_way, goes_on}
use Rattle.domain_layout.specs.NewDomain.{IsNewAnchor, firsts, on_first}

pub some_same : {X : Type 0} (a b : X) → Some a ≡ Some b → a ≡ b
some_same a b e = cc

-- what an option has
pub record HasOne {X : Type 0} (o : Option X) (P : X → Type 0) : Type 0 where
  pub value : X
  pub there : o ≡ Some value
  pub is : P value

pub one_of : {X : Type 0} (o : Option X) (P : X → Type 0) → IsSomeAnd o P → HasOne o P
one_of None P is = absurd is
one_of (Some x) P is = record { value = x; there = refl; is = is }

-- nothing is in an empty list
pub in_none : {X : Type 0} (x : X) → ¬ Contains [] x
in_none x there = omega (arith, there.1)

-- the first page of cells is come to, and none was passed
pub record IsFirst (first : Home) (passed : List Home) (home : Home) : Type 0 where
  pub none : passed ≡ []
  pub at : home ≡ first

-- a page of cells is the first one
pub record IsThatPage (first : Home) (page : List ℕ) (place : ℕ) (home : Home) (other : List ℕ) : Type 0 where
  pub none : place ≡ 0
  pub at : home ≡ first
  pub same : other ≡ page

module _ (pages : Pages) (frame : Frame) (anchor : IsNewAnchor frame) (page : List ℕ) (there : pages (on_first (firsts frame).cells) ≡ Some page) (good : IsCellPage page) (indexed : index_of page ≡ 0) (last : next_of page ≡ 0) where
  -- ---- pages of cells

  -- a page of the first volume that is none of label, anchors, bitmap and log may be of tables
  pub may_be_cells : MayBe frame (on_first (firsts frame).cells)
  may_be_cells = ((anchor.member, omega (arith, anchor.room)), (λ wrong. ⊎_elim (λ low. omega (arith, low)) (λ log. omega (arith, anchor.log, log.1)) wrong))

  other_is : (home : Home) (other : List ℕ) → home ≡ on_first (firsts frame).cells → pages home ≡ Some other → other ≡ page
  other_is home other at said = some_same other page (sym said ∙ ap pages at ∙ there)

  leads_nowhere : (home onto : Home) (other : List ℕ) → home ≡ on_first (firsts frame).cells → pages home ≡ Some other
      → cond (nat_eq (next_of other) 0) None (Some (record { vol = home.vol; page = next_of other })) ≡ Some onto → ⊥
  leads_nowhere home onto other at said leads =
      let ends : nat_eq (next_of other) 0 ≡ true = eq-eqb (next_of other) 0 (ap next_of (other_is home other at said) ∙ last) in
      let none : None ≡ Some onto = sym (ap (λ b. cond b None (Some (record { vol = home.vol; page = next_of other }))) ends) ∙ leads in
      absurd (cc)

  reached : (passed : List Home) (home : Home) → Reaches pages frame (cells_way frame 1) passed home → IsFirst (on_first (firsts frame).cells) passed home
  reached passed home way = elim way as (λ passed home way. IsFirst (on_first (firsts frame).cells) passed home) [
    | begins ↦ record { none = refl; at = refl }
    | goes_on passed home onto other (before → earlier) may fresh said begun leads ↦ absurd (leads_nowhere home onto other earlier.at said leads)
  ]

  no_unread : (home : Home) → ¬ IsUnread pages frame (cells_way frame 1) home
  no_unread home unread = by_wrong (reached unread.passed home unread.reached)
    where
      begun : (other : Option (List ℕ)) → other ≡ Some page → IsSomeAnd other (λ bytes. is_cell_page bytes ≡ true)
      begun None is_some = let e : None ≡ Some page = is_some in absurd (cc)
      begun (Some bytes) is_some = ap is_cell_page (some_same bytes page is_some) ∙ good.magic

      by_wrong : IsFirst (on_first (firsts frame).cells) unread.passed home → ⊥
      by_wrong first =
          ⊎_elim (λ wrong. wrong (subst (MayBe frame) (sym first.at) may_be_cells))
          (λ more. ⊎_elim
          (λ twice. in_none home (subst (λ passed. Contains passed home) first.none twice))
          (λ wrong. wrong (begun (pages home) (ap pages first.at ∙ there))) more)
          unread.wrong

  pub no_cells_page : (home : Home) → ¬ IsNoCellsPage pages frame home
  no_cells_page home w = no_unread home (subst (λ vol. IsUnread pages frame (cells_way frame vol) home) (anchor.alone w.vol w.member) w.unread)

  pub that_page : (place : ℕ) (home : Home) (other : List ℕ) → IsCellsPage pages frame place home other → IsThatPage (on_first (firsts frame).cells) page place home other
  that_page place home other cells =
      let read : IsRead pages frame (cells_way frame 1) place home other =
      subst (λ vol. IsRead pages frame (cells_way frame vol) place home other) (anchor.alone home.vol cells.member) cells.read in
      let first = reached read.passed home read.reached in
      record {
        none = sym read.at ∙ ap length first.none;
        at = first.at;
        same = other_is home other first.at read.there;
      }

  pub first_read : IsCellsPage pages frame 0 (on_first (firsts frame).cells) page
  first_read = record {
    member = anchor.member;
    read = record {
      passed = [];
      reached = begins;
      may = may_be_cells;
      fresh = in_none (on_first (firsts frame).cells);
      there = there;
      begins = good.magic;
      at = refl;
    };
  }

  pub no_wrong_header : (home : Home) → ¬ HasWrongHeader pages frame home
  no_wrong_header home wrong =
      let that = that_page wrong.place home wrong.page wrong.is in
      ⊎_elim (λ w. w (ap index_of that.same ∙ indexed ∙ sym that.none))
      (λ more. ⊎_elim
      (λ w. w (subst (λ p. number_at 2 12 p ≡ free_cells p) (sym that.same) good.free))
      (λ w. w (ap (number_at 2 14) that.same ∙ good.end)) more)
      wrong.wrong

  pub at_first : (at : CellAt) → IsPlace pages frame at → home_of at ≡ on_first (firsts frame).cells
  at_first at place = (that_page place.place (home_of at) place.page place.is).at

  pub cell_said : (at : CellAt) → IsPlace pages frame at → cell_at pages at ≡ Some (cell_of page at.cell)
  cell_said at place =
      let at_home : pages (home_of at) ≡ Some page = ap pages (at_first at place) ∙ there in
      let both : (is_cell_page page && nat_lt at.cell 28) ≡ true = ap (λ b. b && nat_lt at.cell 28) good.magic ∙ lt-ltb at.cell 28 place.within in
      ap (option_and_then (λ p. cond (is_cell_page p && nat_lt at.cell 28) (Some (cell_of p at.cell)) None)) at_home
      ∙ ap (λ b. cond b (Some (cell_of page at.cell)) None) both

  pub bytes_are : (at : CellAt) (bytes : List ℕ) → IsPlace pages frame at → cell_at pages at ≡ Some bytes → bytes ≡ cell_of page at.cell
  bytes_are at bytes place said = some_same bytes (cell_of page at.cell) (sym said ∙ cell_said at place)
