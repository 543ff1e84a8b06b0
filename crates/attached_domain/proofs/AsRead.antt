-- Memory is that of the pages if each part of it was read from them.
use Rattle.std.proofs.Common.{◌≡◌, ◌∙◌, ℕ, [], None, refl, sym, ap, subst}
use Rattle.no_faults.specs.page_store.Pages.{Pages}
use Rattle.no_faults.specs.free_cells.VolumeTable.{KeptTable}
use Rattle.no_faults.specs.free_cells.Cells.{Cells, Holds, is_closed, is_free, table_of, taken_back}
use Rattle.no_faults.specs.free_space.Spaces.{Spaces, change_volumes, kept_spaces}
use Rattle.no_faults.specs.free_space.VolumeSpace.{keeping}
use Rattle.no_faults.specs.staged_pages.Store.{before_of, pages_of}
use Rattle.no_faults.specs.page_ways.Frame.{frame_in}
use Rattle.no_faults.specs.fileset_table.Table.{IsTable}
use Rattle.no_faults.specs.cell_chains.declared.links.CellLinks.{CellLinks}
use Rattle.no_faults.specs.cell_faults.Links.{AreLinks}
use Rattle.no_faults.specs.domain_standing.Marks.{IsMarked}
use Rattle.no_faults.specs.domain_standing.Space.{AreCellsOf}
use Rattle.no_faults.specs.domain_layout.Faults.{HasNoTablesFault}
use Rattle.no_faults.specs.domain_layout.Layout.{IsLayout, Layout}
use Rattle.no_faults.specs.domain_layout.Owners.{frame_of}
use Rattle.no_faults.specs.domain_memory.declared.memory.DomainMemory.{DomainMemory}
use Rattle.no_faults.proofs.OfDomainMemory.KeptCells.{cells_of_other}
use Rattle.no_faults.proofs.OfDomainMemory.KeptSpace.{kept_is, marked_kept}
use Rattle.no_faults.specs.ToDo.{ListsToDo}
use Rattle.attached_domain.specs.Read.{IsReadAs, IsReadMemory}

module _ (m : DomainMemory) (links : CellLinks) (pages : pages_of m.pages ≡ before_of m.pages) (good : IsTable m.table)
    (space : Spaces) (marked : IsMarked (pages_of m.pages) (frame_in m.frame) space) (space_is : m.space ≡ change_volumes keeping space)
    (cells : Cells) (are : (layout : Layout) → IsLayout (pages_of m.pages) layout → frame_of layout ≡ frame_in m.frame → AreCellsOf (pages_of m.pages) layout cells)
    (kept : ℕ → KeptTable) (same : Holds (table_of cells) (is_closed cells) (is_free cells) kept m.cells) (settled : taken_back m.cells ≡ m.cells)
    (listed : (layout : Layout) → IsLayout (pages_of m.pages) layout → HasNoTablesFault (pages_of m.pages) (frame_of layout) → AreLinks (pages_of m.pages) (frame_of layout) links
    → ListsToDo (pages_of m.pages) layout m.list.list)
    (was : m.was ≡ None) (none_listed : m.listed.items ≡ []) where
  module _ (layout : Layout) (read : IsReadAs (pages_of m.pages) (frame_in m.frame) m.table links m.slots.items layout) where
    marked_now : IsMarked (pages_of m.pages) (frame_of layout) m.space
    marked_now =
        subst (λ f. IsMarked (pages_of m.pages) f m.space) (sym read.framed)
        (subst (IsMarked (pages_of m.pages) (frame_in m.frame)) (sym space_is) (marked_kept (pages_of m.pages) (frame_in m.frame) space marked))

    cells_now : AreCellsOf (pages_of m.pages) layout m.cells
    cells_now = cells_of_other (pages_of m.pages) layout layout refl (λ vol member. refl) cells m.cells (are layout read.laid read.framed) same.tables same.marks same.cells

    pub as_read : IsReadMemory m layout
    as_read = record {
      frame = read.framed;
      table = read.tabled;
      good = good;
      pages = pages;
      space = subst (λ (p : Pages). IsMarked p (frame_of layout) m.space) pages marked_now;
      kept_space = ap kept_spaces space_is ∙ kept_is space ∙ sym space_is;
      cells = subst (λ (p : Pages). AreCellsOf p layout m.cells) pages cells_now;
      kept_cells = settled;
      tags = read.tags;
      none = read.none;
      settled = read.settled;
      count = read.count;
      numbered = read.numbered;
      list = subst (λ (p : Pages). ListsToDo p layout m.list.list) pages (listed layout read.laid read.no_fault read.linked);
      was = was;
      listed = none_listed;
    }
