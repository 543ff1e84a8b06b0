-- What a step of letting go of a file's pages changes.
use Rattle.std.specs.Prelude.{◌≡◌, ◌⊎◌, ◌+◌, ◌<◌, ◌≤◌, ◌==◌, ◌||◌, ◌↔◌, ℕ, List, [], ◌∷◌, length, Option, Some, Contains, if◌then◌else◌}
use Rattle.fileset_files.specs.domain_base.declared.place.CellAt.{CellAt}
use Rattle.fileset_files.specs.domain_base.declared.place.Home.{Home}
use Rattle.fileset_files.specs.domain_base.declared.version.Version.{Version}
use Rattle.fileset_files.specs.page_store.Pages.{Pages}
use Rattle.fileset_files.specs.cell_records.declared.record.Record.{Record}
use Rattle.fileset_files.specs.cell_records.declared.record.Record.TheVariants as written
use Rattle.fileset_files.specs.metadata_cells.Cell.{Cell, record_of}
use Rattle.fileset_files.specs.metadata_cells.Chain.{PlacedCell, StandsAt, places}
use Rattle.fileset_files.specs.extent_maps.declared.run.PagePlace.TheVariants.{Absent, At}
use Rattle.fileset_files.specs.extent_maps.Runs.{Places}
use Rattle.fileset_files.specs.free_cells.Cells.{Cells, FreesCell, table_of}
use Rattle.fileset_files.specs.free_space.declared.waiting.PageUse.{PageUse}
use Rattle.fileset_files.specs.free_space.declared.waiting.PageUse.TheVariants.{Data, Metadata}
use Rattle.fileset_files.specs.free_space.VolumeSpace.{with_waiting}
use Rattle.fileset_files.specs.free_space.Spaces.{Spaces, change_volume}
use Rattle.fileset_files.specs.file_chains.FileChanges.{KeepKinds, SameFirst}
use Rattle.fileset_files.specs.file_chains.Files.{places_of}
use Rattle.fileset_files.specs.file_chains.MapChanges.{ChangesAtMost, IsHandedOut, Joins, NoneTakes, TakesIfFull}
use Rattle.file_release.specs.declared.reader.Reader.{Reader}
use Rattle.file_release.specs.declared.released.Released.{Released}
use Rattle.file_release.specs.declared.released.Released.TheVariants as released
use Rattle.file_release.specs.Reading.{IsGone, IsHandedOver, LetsGo}
use Rattle.file_release.specs.Sharing.{AreSharing, frozen_of}

-- what a file's pages are used for: those of a directory, and of a file whose data is logged, are
-- metadata
abbrev pub use_in : Option Record → PageUse
use_in (Some (written.Attributes kind uid gid flags size keep links birth unsynced)) =
    if (kind == 2) || (flags == 1) then Metadata else Data
use_in _ = Data

-- the pages of a directory and of a logged file are metadata, all others are data
abbrev pub use_of : List PlacedCell → PageUse
use_of [] = Data
use_of (first ∷ rest) = use_in (record_of 1 first.cell.records)

-- the pages at these homes wait from now on, the last of the list the longest
abbrev pub with_given : PageUse → ℕ → List Home → Spaces → Spaces
with_given kind group [] space = space
with_given kind group (home ∷ homes) space =
    change_volume (with_waiting (record { page = home.page; kind = kind; group = group }))
    (with_given kind group homes space) home.vol

-- no home stands twice in the list
abbrev pub AreAllOnce : List Home → Type 0
AreAllOnce [] = Unit {0}
AreAllOnce (home ∷ homes) = (¬ Contains homes home) × AreAllOnce homes

-- exactly these homes wait from now on, with that use and for that group, and nothing else of the
-- free space has changed
pub record GivesBack (gone : Home → Type 0) (kind : PageUse) (group : ℕ) (space space_now : Spaces)
    : Type 0 where
  pub homes : List Home
  pub each : (home : Home) → Contains homes home ↔ gone home
  pub once : AreAllOnce homes
  pub is : space_now ≡ with_given kind group homes space

-- a page of the file stands in the reader's chain now, for which a cell was handed out if none of
-- its records could have the page
pub record IsTaken (own : List PlacedCell) (own_now source : Places) (space space_now : Spaces)
    (cells cells_now : Cells) (old : Pages) : Type 0 where
  pub page : ℕ
  pub home : Home
  pub was : source page ≡ At home
  pub is : own_now page ≡ At home
  pub taken : TakesIfFull page (At home) own home.vol space space_now cells cells_now old

-- nothing is taken, or what a page that is handed over takes
abbrev pub TakesForReader : List PlacedCell → Places → Places → Spaces → Spaces → Cells → Cells
    → Pages → Type 0
TakesForReader own own_now source space space_now cells cells_now old =
    ((space_now ≡ space) × (cells_now ≡ cells))
    ⊎ IsTaken own own_now source space space_now cells cells_now old

-- a cell of the chain is free now, which is none of it any more
pub record FreesOne (chain after : List PlacedCell) (cells cells_now : Cells) : Type 0 where
  pub at : CellAt
  pub was : Contains (places chain) at
  pub gone : ¬ Contains (places after) at
  pub frees : FreesCell at cells cells_now
  pub fewer : length after + 1 ≡ length chain

-- a page from one on that was there is absent, in the same cells
pub record LosesPage (from : ℕ) (chain after : List PlacedCell) (cells cells_now : Cells) : Type 0
  where
    pub page : ℕ
    pub begins : from ≤ page
    pub was : ¬ places_of chain page ≡ Absent
    pub gone : places_of after page ≡ Absent
    pub same_places : places after ≡ places chain
    pub same_cells : cells_now ≡ cells

-- what the answer says: a cell went, or pages went and no cell
abbrev pub Progresses : Released → ℕ → List PlacedCell → List PlacedCell → Cells → Cells → Type 0
Progresses released.Nothing from chain after cells cells_now = ⊥
Progresses released.Pages from chain after cells cells_now =
    LosesPage from chain after cells cells_now
Progresses released.Cell from chain after cells cells_now = FreesOne chain after cells cells_now

-- only one of the cells that are left says something else than it did
pub record ChangesOne (chain after : List PlacedCell) : Type 0 where
  pub at : CellAt
  pub others : (c : PlacedCell) → Contains after c → ¬ c.at ≡ at → Contains chain c

-- a page is handed over
pub record HandsPage (frozen : ℕ) (own own_now source source_now : Places) : Type 0 where
  pub page : ℕ
  pub is : IsHandedOver frozen own own_now source source_now page

-- pages of a file from one on go, and cells of it that say of no page where it stands; those that
-- are left say it in records of the kinds that they had; the reader reads what it read, through the
-- file or at pages that were handed over, and keeps its cells with each that is handed out; and what
-- is gone waits
pub record Releases (from : ℕ) (start : CellAt) (reader : Option Reader) (group : ℕ)
    (version : Version) (chain own : List PlacedCell) (space space_now : Spaces)
    (cells cells_now : Cells) (old new : Pages) (what : Released) : Type 0 where
  pub after : List PlacedCell
  pub own_now : List PlacedCell
  pub again : AreSharing start reader space_now cells_now new after own_now
  pub first : SameFirst chain after
  pub one : ChangesOne chain after
  pub kinds : KeepKinds chain after
  pub few : ChangesAtMost 2 old new ⊎ (HandsPage (frozen_of reader) (places_of own)
      (places_of own_now) (places_of chain) (places_of after) × ChangesAtMost 5 old new)
  pub own_first : (own_now ≡ own) ⊎ SameFirst own own_now
  pub within : (at : CellAt) → Contains (places after) at → Contains (places chain) at
  pub joined : (c : PlacedCell) → Contains own_now c → ¬ Contains (places own) c.at
      → Joins cells old version c
  pub pages : LetsGo from (frozen_of reader) (places_of own) (places_of own_now) (places_of chain)
      (places_of after)
  pub space_between : Spaces
  pub cells_between : Cells
  pub taken : TakesForReader own (places_of own_now) (places_of chain) space space_between cells
      cells_between old
  pub given : GivesBack (IsGone (places_of own_now) (places_of chain) (places_of after))
      (use_of chain) group space_between space_now
  pub kept : (at : CellAt) → Contains (places own) at → Contains (places own_now) at
  pub handed : (at : CellAt) → IsHandedOut cells_between at
      → IsHandedOut cells at ⊎ Contains (places own_now) at
  pub progress : Progresses what from chain after cells_between cells_now

-- a page of the file from one on that the reader reads through it, and that no record of the
-- reader's chain can have
pub record LacksPlace (from frozen : ℕ) (chain own : List PlacedCell) : Type 0 where
  pub page : ℕ
  pub home : Home
  pub begins : from ≤ page
  pub is_frozen : page < frozen
  pub absent : places_of own page ≡ Absent
  pub there : places_of chain page ≡ At home
  pub none_takes : NoneTakes page (At home) own

-- each cell in use of the tables that is in neither chain stays
abbrev pub LeavesBoth : Cells → List PlacedCell → List PlacedCell → Pages → Pages → Type 0
LeavesBoth cells chain own old new = (at : CellAt) (cell : Cell) → StandsAt old at cell
    → Contains (table_of cells at.vol) at.page → ¬ Contains (places chain) at
    → ¬ Contains (places own) at → StandsAt new at cell
