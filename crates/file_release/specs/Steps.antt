-- What the functions within the crate ask and answer.
use Rattle.std.specs.List.{AllByRecursion}
use Rattle.std.specs.Prelude.{◌≡◌, ◌⊎◌, ◌<◌, ◌≤◌, ◌||◌, ℕ, Bool, true, false, List, [], ◌∷◌, ◌++◌, Option, Some, None, IfNone, IfSome, IsSome, Contains, is_some}
use Rattle.fileset_files.specs.domain_base.declared.place.CellAt.{CellAt}
use Rattle.fileset_files.specs.domain_base.declared.place.Home.{Home}
use Rattle.fileset_files.specs.domain_base.declared.version.Version.{Version}
use Rattle.fileset_files.specs.page_store.Pages.{Pages, same_home}
use Rattle.fileset_files.specs.cell_records.declared.record.Record.{Record}
use Rattle.fileset_files.specs.cell_records.Records.{kind_of}
use Rattle.fileset_files.specs.metadata_cells.Cell.{Cell}
use Rattle.fileset_files.specs.metadata_cells.CellPage.{KeepsHeaders, KeepsWellFormed, home_of}
use Rattle.fileset_files.specs.metadata_cells.Chain.{LeavesOthers, PlacedCell, StandsAt, is_at, places}
use Rattle.fileset_files.specs.extent_maps.declared.run.PagePlace.{PagePlace}
use Rattle.fileset_files.specs.extent_maps.declared.run.PagePlace.TheVariants.{Absent, At, Hole}
use Rattle.fileset_files.specs.extent_maps.Runs.{Places, SamePlaces, home_at, place_of}
use Rattle.fileset_files.specs.extent_records.Rows.{runs_in}
use Rattle.fileset_files.specs.extent_records.Writing.{IsMapRecord, places_before, places_in}
use Rattle.fileset_files.specs.free_cells.Cells.{Cells, FreesCell}
use Rattle.fileset_files.specs.free_space.declared.waiting.PageUse.{PageUse}
use Rattle.fileset_files.specs.free_space.Spaces.{Spaces}
use Rattle.fileset_files.specs.file_chains.Changes.{with_record}
use Rattle.fileset_files.specs.file_chains.FileChanges.{AreOnTables, LeavesOtherCells}
use Rattle.fileset_files.specs.file_chains.Files.{HasMap, IsFile, places_of}
use Rattle.fileset_files.specs.file_chains.MapChanges.{ChangesAtMost, ChangesOnTables, LeavesOffTables, TakesIfFull}
use Rattle.file_release.specs.declared.edits.ChainEdit.{ChainEdit}
use Rattle.file_release.specs.declared.reader.Reader.{Reader}
use Rattle.file_release.specs.declared.released.Released.{Released}
use Rattle.file_release.specs.declared.released.Released.TheVariants as released
use Rattle.file_release.specs.declared.releasing.Plan.{Plan}
use Rattle.file_release.specs.declared.stale.Stale.{Stale}
use Rattle.file_release.specs.declared.tail.ReadPage.{ReadPage}
use Rattle.file_release.specs.declared.tail.Tail.{Tail}
use Rattle.file_release.specs.Reading.{HasPageFrom}
use Rattle.file_release.specs.Releases.{GivesBack}
use Rattle.file_release.specs.Sharing.{AreSharing, IsReader, frozen_of}

-- ** The cell

-- each of some cells stands in its place
abbrev pub AllStand : Pages → List PlacedCell → Type 0
AllStand pages cells = AllByRecursion (λ (c : PlacedCell). StandsAt pages c.at c.cell) cells

-- a record has something to let go of: it has a page from one on or, after the first cell, no page
-- at all
abbrev pub IsStale : ℕ → Bool → Places → Type 0
IsStale from is_behind places =
    HasPageFrom from places ⊎ ((is_behind ≡ true) × ((page : ℕ) → places page ≡ Absent))

-- the place of the last of some cells
abbrev pub last_place : List PlacedCell → Option CellAt
last_place [] = None
last_place (c ∷ []) = Some c.at
last_place (c ∷ d ∷ cs) = last_place (d ∷ cs)

-- a cell of the chain that has something to let go of, and the one that leads to it
pub record IsStaleCell (from : ℕ) (chain : List PlacedCell) (stale : Stale) : Type 0 where
  pub front : List PlacedCell
  pub c : PlacedCell
  pub rest : List PlacedCell
  pub value : Record
  pub all : chain ≡ front ++ c ∷ rest
  pub is_at : c.at ≡ stale.at
  pub before : stale.before ≡ last_place front
  pub map : HasMap c.cell value
  pub is_stale : IsStale from (is_some stale.before) (places_in value)

-- each cell of a chain but one that is freed is a cell of the file that begins there
abbrev pub KeepsCells : Option CellAt → CellAt → List PlacedCell → Pages → Type 0
KeepsCells freed start chain new = (after : List PlacedCell) → IsFile new start after
    → (at : CellAt) → Contains (places chain) at → ¬ freed ≡ Some at
    → Contains (places after) at

-- ** The tail of its pages

-- the home at which the reader reads a page through the file, if it is frozen
abbrev pub through : PagePlace → PagePlace → Option Home
through Absent source = home_at source
through (At home) source = None
through Hole source = None

-- the reader reads the record's last page through the file
pub record IsReadLast (from frozen : ℕ) (own map : Places) (home : Home) : Type 0 where
  pub there : map from ≡ At home
  pub absent : own from ≡ Absent
  pub is_frozen : from < frozen
  pub last : (page : ℕ) → from < page → map page ≡ Absent

-- the reader reads no page from one on through the file
abbrev pub AreUnread : ℕ → ℕ → Places → Places → Type 0
AreUnread from frozen own map = (page : ℕ) → from ≤ page → page < frozen
    → through (own page) (map page) ≡ None

-- a page from one on that is frozen, has a home, and is none of the reader's own
pub record IsReadIn (from frozen : ℕ) (own map : Places) (read : ReadPage) : Type 0 where
  pub begins : from ≤ read.page
  pub is_frozen : read.page < frozen
  pub absent : own read.page ≡ Absent
  pub there : map read.page ≡ At read.home

-- some of a record's pages from one on are all its pages from another one on; the reader reads the
-- last of them alone through the file, or none of them
pub record IsTail (from frozen : ℕ) (own map : Places) (tail : Tail) : Type 0 where
  pub begins : from ≤ tail.from
  pub read : IfSome tail.home (IsReadLast tail.from frozen own map)
  pub unread : IfNone tail.home (AreUnread tail.from frozen own map)
  pub some : HasPageFrom from map → HasPageFrom tail.from map

-- a record with the pages of another that come before one
pub record IsCut (from : ℕ) (value after : Record) : Type 0 where
  pub is_map : IsMapRecord after
  pub same_kind : kind_of after ≡ kind_of value
  pub at_page : (page : ℕ) → places_in after page ≡ places_before from (places_in value) page

-- the home of a page from one on and before another
pub record IsHomeWithin (from to : ℕ) (map : Places) (home : Home) : Type 0 where
  pub page : ℕ
  pub begins : from ≤ page
  pub ends : page < to
  pub there : map page ≡ At home

-- the home of a page from one on
pub record IsHomeFrom (from : ℕ) (map : Places) (home : Home) : Type 0 where
  pub page : ℕ
  pub begins : from ≤ page
  pub there : map page ≡ At home

-- ** The cells that are written

abbrev pub edited : ChainEdit → Cell
edited edit = record { head = edit.cell.head; records = edit.cell.records }

-- the cell with that record is written again with another in place of it
pub record Rewrites (c : PlacedCell) (value after : Record) (edit : ChainEdit) : Type 0 where
  pub place : edit.at ≡ c.at
  pub cell : edited edit ≡ with_record (kind_of value) (Some after) c.cell
  pub none : edit.freed ≡ None

-- the cell before it leads to what it led to, and it is free
pub record Unlinks (front : List PlacedCell) (c : PlacedCell) (edit : ChainEdit) : Type 0 where
  pub earlier : List PlacedCell
  pub before : PlacedCell
  pub all : front ≡ earlier ++ before ∷ []
  pub place : edit.at ≡ before.at
  pub cell : edited edit ≡ record before.cell {
    head = record before.cell.head { next = c.cell.head.next };
  }
  pub freed : edit.freed ≡ Some c.at

-- a cell after the first whose record then has no page goes; else its record is another
pub record EditsCell (front : List PlacedCell) (c : PlacedCell) (value : Record) (from : ℕ)
    (edit : ChainEdit) : Type 0 where
  pub after : Record
  pub cut : IsCut from value after
  pub how : (Rewrites c value after edit × (¬ front ≡ [] → HasPageFrom 0 (places_in after)))
      ⊎ (Unlinks front c edit × ((page : ℕ) → places_in after page ≡ Absent))

-- a cell is none or not this one
abbrev pub is_freed : Option CellAt → CellAt → Bool
is_freed None at = false
is_freed (Some freed) at = is_at freed at

abbrev pub IsFreed : Option CellAt → Cells → Cells → Type 0
IsFreed None cells cells_now = cells_now ≡ cells
IsFreed (Some freed) cells cells_now = FreesCell freed cells cells_now

-- a cell is written, and another one freed if it names one
pub record WritesEdit (edit : ChainEdit) (cells cells_now : Cells) (old new : Pages) : Type 0 where
  pub stands : StandsAt new edit.at (edited edit)
  pub freed : IsFreed edit.freed cells cells_now
  pub others : LeavesOthers (λ at. is_at edit.at at || is_freed edit.freed at) old new
  pub elsewhere : (home : Home) → same_home home (home_of edit.at) ≡ false
      → IfSome edit.freed (λ freed. same_home home (home_of freed) ≡ false)
      → new home ≡ old home
  pub well_formed : KeepsWellFormed old new
  pub headers : KeepsHeaders old new

-- what went with an edit
abbrev pub went : Option CellAt → Released
went None = released.Pages
went (Some freed) = released.Cell

-- ** A step

-- what is let go of in a step: a tail of the pages of one cell's record
pub record IsPlan (from frozen : ℕ) (chain own : List PlacedCell) (stale : Stale) (plan : Plan)
    : Type 0 where
  pub spot : IsStaleCell from chain stale
  pub map : SamePlaces (runs_in spot.value) plan.map
  pub tail : IsTail from frozen (places_of own) (places_in spot.value) plan.tail
  pub edit : EditsCell spot.front spot.c spot.value plan.tail.from plan.edit
  pub read : IfSome plan.read (λ map. (page : ℕ) → place_of map page ≡ places_of own page)

-- a cell of a file has something to let go of, and a reader may read through the file
pub record MayPlan (from : ℕ) (reader : Option Reader) (stale : Stale) (pages : Pages)
    (chain own : List PlacedCell) : Type 0 where
  pub start : CellAt
  pub file : IsFile pages start chain
  pub reads : IsReader pages reader own
  pub spot : IsStaleCell from chain stale

-- something is planned of a file that shares nothing but what it should with its reader
pub record IsPlanned (from : ℕ) (start : CellAt) (reader : Option Reader) (plan : Plan)
    (space : Spaces) (cells : Cells) (pages : Pages) (chain own : List PlacedCell) : Type 0 where
  pub sharing : AreSharing start reader space cells pages chain own
  pub stale : Stale
  pub planned : IsPlan from (frozen_of reader) chain own stale plan

-- a reader is there whose chain does not have the page
pub record MayHandOver (page : ℕ) (reader : Option Reader) (cells : Cells) (pages : Pages)
    (own : List PlacedCell) : Type 0 where
  pub some : IsSome reader
  pub reads : IsReader pages reader own
  pub on_tables : AreOnTables cells own
  pub absent : places_of own page ≡ Absent

-- the page stands in the reader's chain
pub record HandsOver (page : ℕ) (home : Home) (at : CellAt) (own : List PlacedCell)
    (version : Version) (space space_now : Spaces) (cells cells_now : Cells) (old new : Pages)
    : Type 0 where
  pub changes : ChangesOnTables at page (At home) own version cells cells_now old new
  pub taken : TakesIfFull page (At home) own home.vol space space_now cells cells_now old
  pub others : LeavesOtherCells cells own old new
  pub elsewhere : LeavesOffTables cells_now old new
  pub few : ChangesAtMost 3 old new

-- the pages from one on wait
pub record GivesTail (from : ℕ) (map : Places) (kind : PageUse) (group : ℕ)
    (space space_now : Spaces) (cells cells_now : Cells) (old new : Pages) : Type 0 where
  pub gives : GivesBack (IsHomeFrom from map) kind group space space_now
  pub same_cells : cells_now ≡ cells
  pub same_pages : new ≡ old

-- the tail is handed over, or given back
abbrev pub PassesOn : Tail → Places → Option Reader → List PlacedCell → PageUse → ℕ → Version
    → Spaces → Spaces → Cells → Cells → Pages → Pages → Type 0
PassesOn tail map reader own kind group version space space_now cells cells_now old new =
    IfSome tail.home (λ home. IfSome reader (λ r. HandsOver tail.from home r.at own version space
    space_now cells cells_now old new))
    × IfNone tail.home
    (GivesTail tail.from map kind group space space_now cells cells_now old new)
