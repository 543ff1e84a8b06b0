-- Free cells and pages that belong together.
use Rattle.std.specs.Prelude.{◌≡◌, ℕ, ◌+◌, ◌-◌, ◌<◌, true, List, length, slice_index, Contains, Some, IsSomeAnd}
use Rattle.metadata_cells.specs.domain_base.Page.{zero_bytes}
use Rattle.metadata_cells.specs.domain_base.declared.place.CellAt.{CellAt}
use Rattle.metadata_cells.specs.domain_base.declared.place.Home.{Home}
use Rattle.metadata_cells.specs.page_store.Pages.{Pages}
use Rattle.metadata_cells.specs.CellPage.{IsCellPage, cell_at, index_of, next_of}
use Rattle.free_cells.specs.Cells.{Cells, table_of, is_free}

-- a well-formed page at a place of the table: the place is its index, and its next page is the one
-- after it there
pub record IsPageOf (table : List ℕ) (place : ℕ) (page : List ℕ) : Type 0 where
  pub good : IsCellPage page
  pub indexed : index_of page ≡ place
  pub linked : place + 1 < length table → next_of page ≡ slice_index table (place + 1)

-- the home of the page at a place of the volume's table
abbrev pub home_at : Cells → ℕ → ℕ → Home
home_at cells vol place = record { vol = vol; page = slice_index (table_of cells vol) place }

-- each volume's table is a run of pages that are there, and each free cell stands on one of them
-- and is zeros
pub record Belong (cells : Cells) (pages : Pages) : Type 0 where
  pub run : (vol place : ℕ) → place < length (table_of cells vol)
      → IsSomeAnd (pages (home_at cells vol place)) (IsPageOf (table_of cells vol) place)
  pub on_table : (at : CellAt) → is_free cells at ≡ true → Contains (table_of cells at.vol) at.page
  pub zeros : (at : CellAt) → is_free cells at ≡ true → cell_at pages at ≡ Some (zero_bytes 292)

-- a well-formed page with this index
pub record IsNextPage (place : ℕ) (page : List ℕ) : Type 0 where
  pub good : IsCellPage page
  pub indexed : index_of page ≡ place

-- the home of the last page of the volume's table
abbrev pub last_home : Cells → ℕ → Home
last_home cells vol = home_at cells vol (length (table_of cells vol) - 1)

-- the last page of the volume's table, if it has one, has this next page
abbrev pub LeadsTo : Cells → ℕ → Pages → ℕ → Type 0
LeadsTo cells vol pages next =
    (place : ℕ) → place + 1 ≡ length (table_of cells vol)
    → IsSomeAnd (pages (home_at cells vol place)) (λ page. next_of page ≡ next)
