-- The memory of a domain as it is read of its pages.
use Rattle.std.specs.Prelude.{◌≡◌, ℕ, false, List, [], Option, None, Some, IfSome, length, slice_get}
use Rattle.no_faults.specs.domain_base.declared.place.Home.{Home}
use Rattle.no_faults.specs.page_store.Pages.{Pages}
use Rattle.no_faults.specs.log_recovery.Range.{IsLogInside}
use Rattle.no_faults.specs.free_cells.Cells.{taken_back}
use Rattle.no_faults.specs.free_space.Spaces.{kept_spaces}
use Rattle.no_faults.specs.staged_pages.Store.{before_of, pages_of}
use Rattle.no_faults.specs.page_ways.Frame.{frame_in}
use Rattle.no_faults.specs.fileset_table.Table.{IsTable, Table}
use Rattle.no_faults.specs.domain_standing.Keeping.{KeepDirectories}
use Rattle.no_faults.specs.domain_standing.Marks.{HasBitmaps, IsMarked}
use Rattle.no_faults.specs.domain_standing.Space.{AreCellsOf, AreFew}
use Rattle.no_faults.specs.domain_layout.CellRules.{of_clone}
use Rattle.no_faults.specs.domain_layout.Layout.{IsLayout, Layout}
use Rattle.no_faults.specs.domain_layout.Owners.{frame_of}
use Rattle.no_faults.specs.domain_layout.Faults.{HasNoTablesFault}
use Rattle.no_faults.specs.domain_layout.Reached.{Frame, IsWithin}
use Rattle.no_faults.specs.fileset_shapes.Files.{IsWhole}
use Rattle.no_faults.specs.cell_chains.declared.links.CellLinks.{CellLinks}
use Rattle.no_faults.specs.cell_faults.Links.{AreLinks}
use Rattle.no_faults.specs.domain_memory.Slots.{HasNumber, places_in, slot_in}
use Rattle.no_faults.specs.domain_memory.declared.slots.SlotFiles.{SlotFiles}
use Rattle.no_faults.specs.domain_memory.declared.memory.DomainMemory.{DomainMemory}
use Rattle.no_faults.specs.domain_standing.Sources.{HaveNoSource}
use Rattle.no_faults.specs.Attached.{HaveQuotasToGo, TagsStay}
use Rattle.no_faults.specs.ToDo.{ListsToDo}

-- pages of a layout without a fault, and what no rule asks of them
pub record MayBeAttached (pages : Pages) (layout : Layout) : Type 0 where
  pub whole : IsWhole pages layout
  pub log : IsLogInside layout.version layout.anchor
  pub few : AreFew layout
  pub within : (home : Home) → layout.anchor.table ≡ Some home → IsWithin (frame_of layout) home
  pub bitmaps : HasBitmaps pages (frame_of layout)
  pub sources : HaveNoSource pages layout
  pub stay : TagsStay pages layout.tags
  pub quotas : HaveQuotasToGo pages (frame_of layout) layout.table
  pub keep : (number : ℕ) → KeepDirectories pages layout.table number
  pub no_clone : (number : ℕ) → of_clone (slice_get layout.table.slots number) ≡ false

-- what is in a slot has just the pages that its tag directory had when it was last kept, and the
-- book that it had then
pub record IsSettledSlot (slot : SlotFiles) : Type 0 where
  pub pages : slot.tag_pages ≡ length slot.files.tags
  pub book : slot.book.kept ≡ slot.book.book

-- memory has what the pages say in this layout, and no change is laid over it
pub record IsReadMemory (memory : DomainMemory) (layout : Layout) : Type 0 where
  pub frame : frame_of layout ≡ frame_in memory.frame
  pub table : layout.table ≡ memory.table
  pub good : IsTable memory.table
  pub pages : pages_of memory.pages ≡ before_of memory.pages
  pub space : IsMarked (before_of memory.pages) (frame_of layout) memory.space
  pub kept_space : kept_spaces memory.space ≡ memory.space
  pub cells : AreCellsOf (before_of memory.pages) layout memory.cells
  pub kept_cells : taken_back memory.cells ≡ memory.cells
  pub tags : (number : ℕ) → places_in (slot_in memory.slots.items number) ≡ layout.tags number
  pub none : (number : ℕ) → slice_get layout.table.slots number ≡ None → layout.tags number ≡ []
  pub settled : (number : ℕ) → IfSome (slot_in memory.slots.items number) IsSettledSlot
  pub count : length memory.slots.items ≡ 32
  pub numbered : (number : ℕ) → IfSome (slot_in memory.slots.items number) (HasNumber number)
  pub list : ListsToDo (before_of memory.pages) layout memory.list.list
  pub was : memory.was ≡ None
  pub listed : memory.listed.items ≡ []

-- what is read of pages has this layout: the fileset table, what each cell in use leads to, and what
-- is in the slots
pub record IsReadAs (pages : Pages) (frame : Frame) (table : Table) (links : CellLinks)
    (slots : List (Option SlotFiles)) (layout : Layout) : Type 0 where
  pub framed : frame_of layout ≡ frame
  pub tabled : layout.table ≡ table
  pub laid : IsLayout pages layout
  pub no_fault : HasNoTablesFault pages (frame_of layout)
  pub linked : AreLinks pages (frame_of layout) links
  pub tags : (number : ℕ) → places_in (slot_in slots number) ≡ layout.tags number
  pub none : (number : ℕ) → slice_get layout.table.slots number ≡ None → layout.tags number ≡ []
  pub settled : (number : ℕ) → IfSome (slot_in slots number) IsSettledSlot
  pub count : length slots ≡ 32
  pub numbered : (number : ℕ) → IfSome (slot_in slots number) (HasNumber number)
