-- Free cells that are the same in two layouts of the same tables.
use Rattle.std.proofs.Common.{◌≡◌, ◌∙◌, ℕ, Contains, sym, subst}
use Rattle.standing_laws.specs.domain_base.declared.place.CellAt.{CellAt}
use Rattle.standing_laws.specs.page_store.Pages.{Pages}
use Rattle.standing_laws.specs.free_cells.Cells.{Cells, is_closed, is_free, table_of}
use Rattle.standing_laws.specs.log_ring.Homes.{IsMember}
use Rattle.standing_laws.specs.domain_standing.Space.{AreCellsOf, IsFreeAt, IsOpen}
use Rattle.standing_laws.specs.domain_layout.Layout.{Layout}

module _ (pages : Pages) (one other : Layout) (same_anchor : other.anchor ≡ one.anchor) (tables : (vol : ℕ) → IsMember one.anchor vol → other.cells vol ≡ one.cells vol) where
  member : (vol : ℕ) → IsMember other.anchor vol → IsMember one.anchor vol
  member vol is = subst (λ a. IsMember a vol) same_anchor is

  free_there : (at : CellAt) → IsFreeAt pages one at → IsFreeAt pages other at
  free_there at is = record {
    member = subst (λ a. IsMember a at.vol) (sym same_anchor) is.member;
    table = subst (λ t. Contains t at.page) (sym (tables at.vol is.member)) is.table;
    within = is.within;
    free = is.free;
  }

  free_back : (at : CellAt) → IsFreeAt pages other at → IsFreeAt pages one at
  free_back at is = record {
    member = member at.vol is.member;
    table = subst (λ t. Contains t at.page) (tables at.vol (member at.vol is.member)) is.table;
    within = is.within;
    free = is.free;
  }

  pub cells_of_other : (cells now : Cells) → AreCellsOf pages one cells → ((vol : ℕ) → table_of now vol ≡ table_of cells vol) → ((vol : ℕ) → is_closed now vol ≡ is_closed cells vol)
      → ((at : CellAt) → is_free now at ≡ is_free cells at) → AreCellsOf pages other now
  cells_of_other cells now are same_tables same_marks same_free = record {
    tables = λ vol is. same_tables vol ∙ are.tables vol (member vol is) ∙ sym (tables vol (member vol is));
    others = λ vol no. same_tables vol ∙ are.others vol (λ is. no (subst (λ a. IsMember a vol) (sym same_anchor) is));
    closed = λ vol is. let right = are.closed vol (member vol is) in (
      (λ closed opened. right.0 (sym (same_marks vol) ∙ closed) (subst (λ a. IsOpen a vol) same_anchor opened)),
      (λ none. same_marks vol ∙ right.1 (λ opened. none (subst (λ a. IsOpen a vol) (sym same_anchor) opened))),
    );
    free = λ at. (
      (λ is. free_there at ((are.free at).0 (sym (same_free at) ∙ is))),
      (λ is. same_free at ∙ (are.free at).1 (free_back at is)),
    );
  }
