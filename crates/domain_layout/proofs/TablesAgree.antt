-- Pages that agree where the rules of tables look: the same of these rules are broken.
use Rattle.std.proofs.Common.{◌≡◌, inl, inr, Some, IsSomeAnd, sym, subst, ⊎_elim}
use Rattle.file_release.specs.domain_base.declared.place.Home.{Home}
use Rattle.file_release.specs.page_store.Pages.{Pages}
use Rattle.fileset_table.specs.Page.{IsTablePage}
use Rattle.fileset_table.specs.Table.{Table}
use Rattle.domain_layout.specs.Faults.{FaultRow, HasNoTablesFault, IsTableFault, IsTablesFault, SaysTable}
use Rattle.domain_layout.specs.Reached.{Frame, tags_way}
use Rattle.domain_layout.specs.Alike.{AgreeOnCells, AgreeOnTags}
use Rattle.domain_layout.proofs.CellsAlike.{same_cells_faults, turned, turned_cells}
use Rattle.domain_layout.proofs.TagsAlike.{same_tags_faults}

-- the same stands at the page of the fileset table, at those of cells, and at those of the tags of a
-- table that is said
pub record AgreeOnTables (one other : Pages) (frame : Frame) : Type 0 where
  pub table : (home : Home) → frame.anchor.table ≡ Some home → one home ≡ other home
  pub cells : AgreeOnCells one other frame
  pub tags : (table : Table) → SaysTable one frame table → AgreeOnTags one other frame table

-- ---- the page of the fileset table

module _ (one other : Pages) (frame : Frame) (same : (home : Home) → frame.anchor.table ≡ Some home → one home ≡ other home) where
  pub says_alike : (table : Table) → SaysTable one frame table → SaysTable other frame table
  says_alike table says = record {
    home = says.home;
    at = says.at;
    there = subst (λ o. IsSomeAnd o (λ page. IsTablePage page table)) (same says.home says.at) says.there;
  }

  pub table_fault_alike : (home : Home) → IsTableFault one frame home → IsTableFault other frame home
  table_fault_alike home fault = record {
    at = fault.at;
    wrong = ⊎_elim (λ reserved. inl reserved)
        (λ none. inr (λ table is. none table (subst (λ o. IsSomeAnd o (λ page. IsTablePage page table)) (sym (same home fault.at)) is))) fault.wrong;
  }

-- ---- pages of tables

-- the other looks at the same pages
pub turned_tables : (one other : Pages) (frame : Frame) → AgreeOnTables one other frame → AgreeOnTables other one frame
turned_tables one other frame agree =
    let table : (home : Home) → frame.anchor.table ≡ Some home → other home ≡ one home = λ home at. sym (agree.table home at) in
    record {
      table = table;
      cells = turned_cells one other frame agree.cells;
      tags = λ said says number first has. turned one other frame (tags_way first) (agree.tags said (says_alike other one frame table said says) number first has);
    }

pub tables_fault_alike : (one other : Pages) (frame : Frame) → AgreeOnTables one other frame → (row : FaultRow) → IsTablesFault one frame row → IsTablesFault other frame row
tables_fault_alike one other frame agree row (table, says, which) = (
  table,
  says_alike one other frame agree.table table says,
  ⊎_elim (λ w. inl (w.0, (same_cells_faults one other frame table row.home agree.cells).0 w.1))
      (λ w. inr (w.0, (same_tags_faults one other frame table row.home agree.cells (agree.tags table says)).0 w.1)) which,
)

pub no_tables_alike : (one other : Pages) (frame : Frame) → AgreeOnTables one other frame → HasNoTablesFault one frame → HasNoTablesFault other frame
no_tables_alike one other frame agree none =
    let back = turned_tables one other frame agree in
    record {
      table = λ home fault. none.table home (table_fault_alike other one frame back.table home fault);
      tables = λ row fault. none.tables row (tables_fault_alike other one frame back row fault);
    }
