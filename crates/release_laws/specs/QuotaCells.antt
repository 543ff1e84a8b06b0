-- Quota cells of what is being removed that go one after the other, as changes of the domain.
use Rattle.std.specs.Prelude.{◌≡◌, ◌||◌, ◌∷◌, ℕ, List, [], None, Option, Some, IsSomeAnd}
use Rattle.standing_laws.specs.domain_base.declared.place.CellAt.{CellAt}
use Rattle.standing_laws.specs.domain_base.declared.place.Home.{Home}
use Rattle.standing_laws.specs.page_store.Pages.{Pages}
use Rattle.standing_laws.specs.metadata_cells.Chain.{LeavesOthers, PlacedCell, is_at}
use Rattle.standing_laws.specs.free_cells.Cells.{Cells, FreesCell}
use Rattle.standing_laws.specs.fileset_table.Page.{IsTablePage}
use Rattle.standing_laws.specs.fileset_table.Table.{with_slot}
use Rattle.standing_laws.specs.fileset_table.declared.slot.SlotItem.TheVariants as slot
use Rattle.standing_laws.specs.domain_layout.Filled.{Contents}
use Rattle.standing_laws.specs.file_chains.Allocated.{AreAllocated}
use Rattle.standing_laws.specs.file_chains.MapChanges.{ChangesAtMost, LeavesOffTables}
use Rattle.standing_laws.specs.release_list.Standing.{Files, IsQuotas, with_file}
use Rattle.standing_laws.specs.release_list.Steps.{leads_to}
use Rattle.standing_laws.specs.release_steps.Kept.{HasNoEntry}
use Rattle.standing_laws.specs.domain_standing.Chains.{IsQuotaOf, IsRemoved}
use Rattle.standing_laws.specs.domain_standing.Domain.{DomainNow, item_in}

-- of the quota cells that the slot of what is being removed names, and that are not on the list,
-- the second goes: it is free, and the first leads past it. Nothing else changes
pub record LosesQuotaOf (number : ℕ) (d now : DomainNow) (files files_now : Files) : Type 0 where
  pub at : CellAt
  pub quota : IsQuotaOf d number at
  pub removed : IsRemoved (item_in d number)
  pub unlisted : HasNoEntry d.list at
  pub first : PlacedCell
  pub second : PlacedCell
  pub rest : List PlacedCell
  pub is : files at ≡ Some (first ∷ second ∷ rest)
  pub after : List PlacedCell
  pub after_is : after ≡ leads_to second.cell.head.next first ∷ rest
  pub stands : IsQuotas now.pages at after
  pub files_are : files_now ≡ with_file at (Some after) files
  pub frees : FreesCell second.at d.cells now.cells
  pub allocated : AreAllocated now.space now.cells now.pages
  pub others : LeavesOthers (λ a. is_at first.at a || is_at second.at a) d.pages now.pages
  pub elsewhere : LeavesOffTables now.cells d.pages now.pages
  pub few : ChangesAtMost 2 d.pages now.pages
  pub bytes : (home : Home) → now.pages home ≡ d.pages home
      → now.contents home ≡ d.contents home
  pub same : now ≡ record d { pages = now.pages; contents = now.contents; cells = now.cells }

-- of quota cells that are not on the list the last one is free: with these free cells, pages and
-- bytes nothing begins there any more
pub record FreesLastQuota (at : CellAt) (d : DomainNow) (cells : Cells) (pages : Pages)
    (contents : Contents) (files files_now : Files) : Type 0 where
  pub unlisted : HasNoEntry d.list at
  pub last : PlacedCell
  pub is : files at ≡ Some (last ∷ [])
  pub files_are : files_now ≡ with_file at None files
  pub frees : FreesCell at d.cells cells
  pub allocated : AreAllocated d.space cells pages
  pub others : LeavesOthers (is_at at) d.pages pages
  pub elsewhere : LeavesOffTables cells d.pages pages
  pub few : ChangesAtMost 1 d.pages pages
  pub bytes : (home : Home) → pages home ≡ d.pages home → contents home ≡ d.contents home

-- the last of the quota cells goes that the slot of what is being removed names, and the slot names
-- none then, which the table's page says
pub record EndsQuotaOf (number : ℕ) (d now : DomainNow) (files files_now : Files) : Type 0 where
  pub first_tag : Option Home
  pub at : CellAt
  pub was : item_in d number ≡ Some (slot.Removed first_tag (Some at))
  pub pages : Pages
  pub contents : Contents
  pub frees : FreesLastQuota at d now.cells pages contents files files_now
  pub table : now.table ≡ with_slot number (slot.Removed first_tag None) d.table
  pub says : (home : Home) → d.frame.anchor.table ≡ Some home
      → IsSomeAnd (now.pages home) (λ page. IsTablePage page now.table)
  pub others : (home : Home) → ¬ d.frame.anchor.table ≡ Some home
      → now.pages home ≡ pages home
  pub bytes : (home : Home) → now.pages home ≡ pages home
      → now.contents home ≡ contents home
  pub same : now ≡ record d {
    table = now.table;
    pages = now.pages;
    contents = now.contents;
    cells = now.cells;
  }
