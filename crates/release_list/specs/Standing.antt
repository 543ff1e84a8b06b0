-- The chains of all files of a domain, and what of them belongs together.
use Rattle.std.specs.List.{AllByRecursion}
use Rattle.std.specs.Prelude.{◌≡◌, ◌⊎◌, ◌==◌, ℕ, false, List, [], ◌∷◌, Option, Some, None, IfSome, IsSomeAnd, if◌then◌else◌}
use Rattle.std.specs.Option.{option_and_then, option_map_or}
use Rattle.file_release.specs.domain_base.declared.place.CellAt.{CellAt}
use Rattle.file_release.specs.domain_base.declared.place.Home.{Home}
use Rattle.file_release.specs.page_store.Pages.{Pages}
use Rattle.file_release.specs.cell_records.declared.record.Record.{Record}
use Rattle.file_release.specs.cell_records.declared.record.Record.TheVariants as written
use Rattle.file_release.specs.cell_records.Records.{kind_of}
use Rattle.file_release.specs.metadata_cells.declared.head.CellKind.TheVariants.{Quota}
use Rattle.file_release.specs.metadata_cells.Cell.{Cell}
use Rattle.file_release.specs.metadata_cells.Chain.{AreLinked, PlacedCell, is_at}
use Rattle.file_release.specs.extent_maps.declared.run.PagePlace.{PagePlace}
use Rattle.file_release.specs.extent_maps.declared.run.PagePlace.TheVariants.{Absent, At}
use Rattle.file_release.specs.free_cells.Cells.{Cells}
use Rattle.file_release.specs.free_space.Spaces.{Spaces}
use Rattle.file_release.specs.file_chains.Allocated.{AreAllocated}
use Rattle.file_release.specs.file_chains.FileChanges.{AreOnTables}
use Rattle.file_release.specs.file_chains.Files.{IsFile, places_of}
use Rattle.file_release.specs.Reading.{read_home}
use Rattle.file_release.specs.fileset_files.Files.{AreApart, first_record}
use Rattle.file_release.specs.fileset_files.Together.{IsHeldApart}

-- the chain that begins at a cell, of each file of all filesets, clones, and of files that no tag
-- names any more; and of quota cells of filesets that were removed
abbrev pub Files : Type 0
Files = CellAt → Option (List PlacedCell)

-- the files with another chain, or none, at a cell
abbrev pub with_file : CellAt → Option (List PlacedCell) → Files → Files
with_file at chain files = λ a. if is_at a at then chain else files a

-- where the file that begins there has a page
abbrev pub place_in : Files → CellAt → ℕ → PagePlace
place_in files at page = option_map_or (λ cells. places_of cells page) (files at) Absent

-- the file through which another is read, and how many of its pages are frozen
pub record Source : Type 0 where
  pub at : CellAt
  pub frozen : ℕ

-- what a record of a clone's file says of it: nothing, if it reads through none any more
abbrev pub source_in : Record → Option Source
source_in (written.CloneFile vol cell page frozen) = if vol == 0 then None
    else Some (record { at = record { vol = vol; page = page; cell = cell }; frozen = frozen })
source_in _ = None

-- the file through which a clone's file reads, and how many pages were frozen for it
abbrev pub source_of : List PlacedCell → Option Source
source_of cells = option_and_then source_in (first_record 2 cells)

-- through which file the one reads that begins there
abbrev pub source_at : Files → CellAt → Option Source
source_at files at = option_and_then source_of (files at)

-- the file that begins at the first cell reads through the one that begins at the second
abbrev pub ReadsThrough : Files → CellAt → CellAt → Type 0
ReadsThrough files clone at = IsSomeAnd (source_at files clone) (λ source. source.at ≡ at)

-- at which home a page of a chain is read: none where zeros are read
abbrev pub read_of : Files → Option Source → List PlacedCell → ℕ → Option Home
read_of files None cells page = read_home 0 (places_of cells) (λ _. Absent) page
read_of files (Some source) cells page =
    read_home source.frozen (places_of cells) (place_in files source.at) page

-- at which home a page of a file is read
abbrev pub read_at : Files → CellAt → ℕ → Option Home
read_at files at page =
    option_and_then (λ cells. read_of files (source_of cells) cells page) (files at)

-- a quota cell, whose records are limits of users and groups
pub record IsQuotaCell (cell : Cell) : Type 0 where
  pub kind : cell.head.kind ≡ Quota
  pub limits : AllByRecursion (λ r. (kind_of r ≡ 7) ⊎ (kind_of r ≡ 8)) cell.records

-- a chain of such cells begins there
pub record AreQuotas (pages : Pages) (first : PlacedCell) (rest : List PlacedCell) : Type 0 where
  pub links : AreLinked pages first rest
  pub cells : AllByRecursion (λ (c : PlacedCell). IsQuotaCell c.cell) (first ∷ rest)

-- a chain of quota cells, whose records are limits of users and groups alone
abbrev pub IsQuotas : Pages → CellAt → List PlacedCell → Type 0
IsQuotas pages at [] = ⊥
IsQuotas pages at (first ∷ rest) = (first.at ≡ at) × AreQuotas pages first rest

-- a file's chain begins there, or one of quota cells
abbrev pub IsFileOrQuotas : Pages → CellAt → List PlacedCell → Type 0
IsFileOrQuotas pages at chain = IsFile pages at chain ⊎ IsQuotas pages at chain

-- such a chain begins there, and its cells stand on their volumes' tables
pub record IsStanding (cells : Cells) (pages : Pages) (at : CellAt) (chain : List PlacedCell) : Type 0
  where
    pub stands : IsFileOrQuotas pages at chain
    pub on_tables : AreOnTables cells chain

-- no two files share a cell; each home of a page is held and none of cells, and it is that of one
-- page alone; what reads through another file is not read through; and free cells, free space and
-- pages belong together
pub record StandTogether (space : Spaces) (cells : Cells) (pages : Pages) (files : Files) : Type 0
  where
    pub allocated : AreAllocated space cells pages
    pub each : (at : CellAt) → IfSome (files at) (IsStanding cells pages at)
    pub apart : (a b : CellAt) → is_at a b ≡ false
        → IfSome (files a) (λ xs. IfSome (files b) (AreApart xs))
    pub held : (at : CellAt) (page : ℕ) (home : Home) → place_in files at page ≡ At home
        → IsHeldApart space cells home
    pub once : (a b : CellAt) (p q : ℕ) (home : Home) → place_in files a p ≡ At home
        → place_in files b q ≡ At home → (a ≡ b) × (p ≡ q)
    pub one_deep : (a b c : CellAt) → ReadsThrough files a b → ¬ ReadsThrough files b c
