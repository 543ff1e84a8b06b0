-- The change of the one record of a cell that says where pages stand.
use Rattle.std.specs.Prelude.{◌≡◌, ◌⊎◌, ◌<◌, ◌≤◌, ℕ, false, List, [], ◌∷◌, Some, Contains, length}
use Rattle.std.specs.List.{AllByRecursion}
use Rattle.free_cells.specs.domain_base.declared.place.CellAt.{CellAt}
use Rattle.free_cells.specs.domain_base.declared.place.Home.{Home}
use Rattle.free_cells.specs.domain_base.declared.version.Version.{Version}
use Rattle.free_cells.specs.page_store.Pages.{Pages, same_home}
use Rattle.free_cells.specs.cell_records.declared.record.Record.{Record}
use Rattle.free_cells.specs.cell_records.Records.{kind_of}
use Rattle.free_cells.specs.metadata_cells.Cell.{Cell}
use Rattle.free_cells.specs.metadata_cells.CellPage.{cell_at, home_of}
use Rattle.free_cells.specs.metadata_cells.Chain.{PlacedCell, StandsAt, places, records_of}
use Rattle.extent_records.specs.extent_maps.declared.run.PagePlace.{PagePlace}
use Rattle.extent_records.specs.extent_maps.declared.run.PagePlace.TheVariants.{Absent}
use Rattle.extent_records.specs.extent_maps.Runs.{with_place}
use Rattle.extent_records.specs.Chains.{IsNone, Takes as TakesPage}
use Rattle.extent_records.specs.Writing.{CanSay, IsMapRecord, chain_kind, places_in}
use Rattle.free_cells.specs.Cells.{Cells, is_free, table_of}
use Rattle.free_cells.specs.free_space.Spaces.{Spaces}
use Rattle.file_chains.specs.Allocated.{Takes}
use Rattle.file_chains.specs.Changes.{with_record}
use Rattle.file_chains.specs.FileChanges.{AreOnTables, ChangesPage, KeepKinds, map_kinds}
use Rattle.file_chains.specs.Files.{HasMap, map_records}

-- a cell in use stands there whose record that says where pages stand is this one
pub record HasMapIs (pages : Pages) (at : CellAt) (value : Record) : Type 0 where
  pub cell : Cell
  pub stands : StandsAt pages at cell
  pub map : HasMap cell value

-- that record has one page at another place, and the cell is the same but for it
pub record ChangesMap (at : CellAt) (value : Record) (page : ℕ) (place : PagePlace)
    (old new : Pages) : Type 0 where
  pub after : Record
  pub is_map : IsMapRecord after
  pub same_kind : kind_of after ≡ kind_of value
  pub at_page : (p : ℕ) → places_in after p ≡ with_place page place (places_in value) p
  pub cell : (cell : Cell) → StandsAt old at cell
      → StandsAt new at (with_record (kind_of value) (Some after) cell)

-- no record of the chain can have the page at that place
abbrev pub NoneTakes : ℕ → PagePlace → List PlacedCell → Type 0
NoneTakes page place chain = IsNone (TakesPage page place) (map_records (records_of chain))

-- each cell but those of the chain has its bytes
abbrev pub LeavesApart : List PlacedCell → Pages → Pages → Type 0
LeavesApart chain old new =
    (at : CellAt) → ¬ Contains (places chain) at → cell_at new at ≡ cell_at old at

-- each page but those of the chain's cells stays
abbrev pub LeavesPages : List PlacedCell → Pages → Pages → Type 0
LeavesPages chain old new =
    (home : Home) → AllByRecursion (λ (c : PlacedCell). same_home home (home_of c.at) ≡ false) chain
    → new home ≡ old home

-- the file has one page at another place, and all else as it was, in the same cells, which say
-- where pages stand in records of the kinds that they had
pub record ChangesInPlace (start : CellAt) (page : ℕ) (place : PagePlace) (chain : List PlacedCell)
    (new : Pages) : Type 0 where
  pub changes : ChangesPage start page place chain new
  pub same_cells : places changes.after ≡ places chain
  pub same_kinds : KeepKinds chain changes.after

-- none in use of the tables stood at that cell, and what it says of pages is a record of that
-- version's chains
pub record Joins (cells : Cells) (old : Pages) (version : Version) (c : PlacedCell) : Type 0 where
  pub was_free : (cell : Cell) → StandsAt old c.at cell
      → ¬ Contains (table_of cells c.at.vol) c.at.page
  pub kind : map_kinds c.cell.records ≡ chain_kind version ∷ []

-- a cell of a table that is not free
pub record IsHandedOut (cells : Cells) (at : CellAt) : Type 0 where
  pub on : Contains (table_of cells at.vol) at.page
  pub within : at.cell < 28
  pub taken : is_free cells at ≡ false

-- the file has one page at another place, and all else as it was; each of its cells stands on a
-- page of its volume's table, and joined it if it was none of it; it keeps all that it had, which
-- say where pages stand in records of the kinds that they had, and has each that is handed out
pub record ChangesOnTables (start : CellAt) (page : ℕ) (place : PagePlace)
    (chain : List PlacedCell) (version : Version) (cells cells_now : Cells) (old new : Pages)
    : Type 0 where
  pub changes : ChangesPage start page place chain new
  pub on_tables : AreOnTables cells_now changes.after
  pub joined : (c : PlacedCell) → Contains changes.after c → ¬ Contains (places chain) c.at
      → Joins cells old version c
  pub kept : (at : CellAt) → Contains (places chain) at → Contains (places changes.after) at
  pub same_kinds : KeepKinds chain changes.after
  pub handed : (at : CellAt) → IsHandedOut cells_now at
      → IsHandedOut cells at ⊎ Contains (places changes.after) at

-- a cell is handed out
pub record TakesOne (prefer : ℕ) (space space_now : Spaces) (cells cells_now : Cells) (old : Pages)
    : Type 0 where
  pub at : CellAt
  pub between : Pages
  pub takes : Takes prefer at space space_now cells cells_now old between

-- no cell is handed out, or one is since no record of the chain can have the page there
abbrev pub TakesIfFull : ℕ → PagePlace → List PlacedCell → ℕ → Spaces → Spaces → Cells → Cells
    → Pages → Type 0
TakesIfFull page place chain prefer space space_now cells cells_now old =
    ((space_now ≡ space) × (cells_now ≡ cells))
    ⊎ (NoneTakes page place chain × TakesOne prefer space space_now cells cells_now old)

-- each page that stands on no volume's table stays
abbrev pub LeavesOffTables : Cells → Pages → Pages → Type 0
LeavesOffTables cells old new =
    (home : Home) → ¬ Contains (table_of cells home.vol) home.page → new home ≡ old home

-- each page stays except those of some homes, which are at most this number
pub record ChangesAtMost (count : ℕ) (old new : Pages) : Type 0 where
  pub homes : List Home
  pub few : length homes ≤ count
  pub others : (home : Home) → ¬ Contains homes home → new home ≡ old home

-- the record has the page
abbrev pub HasPage : ℕ → Record → Type 0
HasPage page r = ¬ places_in r page ≡ Absent

-- the record of the chain that has the page cannot have it at that place
abbrev pub HolderIsFull : ℕ → PagePlace → List PlacedCell → Type 0
HolderIsFull page place chain = (r : Record) × Contains (map_records (records_of chain)) r
    × HasPage page r × (CanSay (kind_of r) (with_place page place (places_in r)) → ⊥)
