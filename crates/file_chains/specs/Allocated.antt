-- Cells that are handed out, and pages of cells that are added if none is free.
use Rattle.std.specs.Prelude.{◌≡◌, ◌⊎◌, ℕ, ◌<◌, ◌≤◌, true, false, length, slice_index, IsSomeAnd}
use Rattle.free_cells.specs.domain_base.declared.place.CellAt.{CellAt}
use Rattle.free_cells.specs.domain_base.declared.place.Home.{Home}
use Rattle.free_cells.specs.page_store.Pages.{Pages, same_home}
use Rattle.free_cells.specs.page_store.declared.fault.StoreFault.{StoreFault}
use Rattle.free_cells.specs.page_store.declared.fault.StoreFault.TheVariants.{NoPage, OutOfMemory}
use Rattle.free_cells.specs.metadata_cells.CellPage.{IsEmptyPage, KeepsWellFormed}
use Rattle.free_cells.specs.metadata_cells.Chain.{LeavesOthers}
use Rattle.free_cells.specs.Cells.{Cells, JoinsEmptyPage, TakesCell, can_take, is_closed, is_on, table_of}
use Rattle.free_cells.specs.Belong.{Belong, LeadsTo, last_home}
use Rattle.free_cells.specs.free_space.VolumeSpace.{with_page}
use Rattle.free_cells.specs.free_space.Spaces.{CanTake, IsHeld, Spaces, change_volume, missed}

-- free cells, free space and pages that belong together: each page of a table is used, and if a
-- page of a volume may be taken, the volume has a table whose last page leads to none, and is not
-- closed
pub record AreAllocated (space : Spaces) (cells : Cells) (pages : Pages) : Type 0 where
  pub belong : Belong cells pages
  pub held : (vol place : ℕ) → 1 ≤ vol → place < length (table_of cells vol)
      → IsHeld space vol (slice_index (table_of cells vol) place)
  pub table : (vol p : ℕ) → 1 ≤ vol → CanTake space vol p → 0 < length (table_of cells vol)
  pub opened : (vol p : ℕ) → 1 ≤ vol → CanTake space vol p → is_closed cells vol ≡ false
  pub first : (vol p : ℕ) → 1 ≤ vol → CanTake space vol p → ¬ p ≡ 0
  pub ends : (vol : ℕ) → LeadsTo cells vol pages 0

-- a page of free cells stands after its volume's table, on a page that was free
pub record AddsTablePage (home : Home) (space space_now : Spaces) (cells cells_now : Cells)
    (old new : Pages) : Type 0 where
  pub free : CanTake space home.vol home.page
  pub used : space_now ≡ change_volume (with_page home.page) space home.vol
  pub joins : JoinsEmptyPage home cells cells_now
  pub page : IsSomeAnd (new home) (IsEmptyPage (length (table_of cells home.vol)))
  pub others : LeavesOthers (is_on home) old new
  pub well_formed : KeepsWellFormed old new
  pub elsewhere : (h : Home) → same_home h home ≡ false
      → same_home h (last_home cells home.vol) ≡ false → new h ≡ old h

-- nothing has changed, for a free cell was there, of the preferred volume if that had one
pub record HadCell (prefer : ℕ) (at : CellAt) (space space_now : Spaces) (cells cells_now : Cells)
    (old new : Pages) : Type 0 where
  pub same_space : space_now ≡ space
  pub same_cells : cells_now ≡ cells
  pub same_pages : new ≡ old
  pub preferred : (q : CellAt) → q.vol ≡ prefer → can_take cells q ≡ true → at.vol ≡ prefer

-- no free cell was there, and a page of cells was added, on the preferred volume if that had a free
-- page
pub record HadNone (prefer : ℕ) (at : CellAt) (space space_now : Spaces) (cells cells_now : Cells)
    (old new : Pages) : Type 0 where
  pub none : (q : CellAt) → can_take cells q ≡ false
  pub home : Home
  pub adds : AddsTablePage home space space_now cells cells_now old new
  pub on : is_on home at ≡ true
  pub preferred : (p : ℕ) → CanTake space prefer p → home.vol ≡ prefer

-- a cell is handed out, and if none was free a page of cells is added first
pub record Takes (prefer : ℕ) (at : CellAt) (space space_now : Spaces) (cells cells_now : Cells)
    (old new : Pages) : Type 0 where
  pub between : Cells
  pub before : HadCell prefer at space space_now cells between old new
      ⊎ HadNone prefer at space space_now cells between old new
  pub free : can_take between at ≡ true
  pub taken : TakesCell at between cells_now

-- no open volume has a free cell or a free page, which is a miss; or memory was short
abbrev pub FindsNone : Spaces → Spaces → Cells → StoreFault → Type 0
FindsNone space space_now cells NoPage =
    ((q : CellAt) → can_take cells q ≡ false) × ((vol p : ℕ) → ¬ CanTake space vol p)
    × (space_now ≡ missed space)
FindsNone space space_now cells OutOfMemory = space_now ≡ space
