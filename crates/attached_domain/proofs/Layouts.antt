-- Layouts of the same tables.
use Rattle.std.proofs.Common.{◌≡◌, ℕ, List, Contains, sym, subst}
use Rattle.no_faults.specs.domain_base.declared.place.CellAt.{CellAt}
use Rattle.no_faults.specs.page_store.Pages.{Pages}
use Rattle.no_faults.specs.metadata_cells.Cell.{Cell}
use Rattle.no_faults.specs.log_ring.Homes.{IsMember}
use Rattle.no_faults.specs.release_list.Listing.{Listing}
use Rattle.no_faults.specs.domain_layout.Layout.{IsCellTable, IsLayout, Layout}
use Rattle.no_faults.specs.domain_layout.Owners.{IsOnTable, frame_of}
use Rattle.no_faults.specs.domain_layout.Reached.{first_cells}
use Rattle.no_faults.specs.fileset_shapes.Files.{IsWhole}
use Rattle.no_faults.specs.domain_standing.Sources.{HaveNoSource}
use Rattle.no_faults.specs.ToDo.{ListsToDo}

-- a layout with other lists of pages of cells
abbrev pub with_cells : (ℕ → List ℕ) → Layout → Layout
with_cells cells layout = record layout { cells = cells }

-- which are the same for each member
module _ (pages : Pages) (layout : Layout) (cells : ℕ → List ℕ) (same : (vol : ℕ) → IsMember layout.anchor vol → cells vol ≡ layout.cells vol) where
  pub laid_with : IsLayout pages layout → IsLayout pages (with_cells cells layout)
  laid_with laid = record {
    version = laid.version;
    table = laid.table;
    cells = λ vol member. subst (IsCellTable pages vol (first_cells (frame_of layout) vol)) (sym (same vol member)) (laid.cells vol member);
    tags = laid.tags;
  }

  on_back : (at : CellAt) (cell : Cell) → IsOnTable pages (with_cells cells layout) at cell → IsOnTable pages layout at cell
  on_back at cell on = record { member = on.member; table = subst (λ t. Contains t at.page) (same at.vol on.member) on.table; stands = on.stands }

  on_there : (at : CellAt) (cell : Cell) → IsOnTable pages layout at cell → IsOnTable pages (with_cells cells layout) at cell
  on_there at cell on = record { member = on.member; table = subst (λ t. Contains t at.page) (sym (same at.vol on.member)) on.table; stands = on.stands }

  pub sources_with : HaveNoSource pages layout → HaveNoSource pages (with_cells cells layout)
  sources_with none at has = none at (record { cell = has.cell; on = on_back at has.cell has.on; kind = has.kind; says = has.says })

  pub list_with : (list : Listing) → ListsToDo pages layout list → ListsToDo pages (with_cells cells layout) list
  list_with list lists = record {
    all = λ at left. lists.all at (record { cell = left.cell; on = on_back at left.cell left.on; kind = left.kind; says = left.says });
    only = λ entry among.
        let is = lists.only entry among in
        (record { cell = is.0.cell; on = on_there entry.at is.0.cell is.0.on; kind = is.0.kind; says = is.0.says }, is.1);
    once = lists.once;
    no_tags = lists.no_tags;
  }

  pub whole_with : IsWhole pages layout → IsWhole pages (with_cells cells layout)
  whole_with whole = record { laid = laid_with whole.laid; no_fault = whole.no_fault; small = whole.small; all = whole.all }
