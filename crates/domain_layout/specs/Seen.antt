-- A file or directory as a fileset has it: what it is, and at which home each of its pages stands.
use Rattle.std.specs.Prelude.{◌≡◌, ◌==◌, ◌&&◌, ℕ, Bool, true, false, not, nat_lt, List, Option, Some, None, IsSomeAnd, if◌then◌else◌}
use Rattle.std.specs.Option.{option_and_then, option_map, option_map_or}
use Rattle.file_release.specs.domain_base.declared.place.CellAt.{CellAt}
use Rattle.file_release.specs.domain_base.declared.place.Home.{Home}
use Rattle.file_release.specs.page_store.Pages.{Pages}
use Rattle.file_release.specs.cell_records.declared.record.Record.{Record}
use Rattle.file_release.specs.cell_records.declared.record.Record.TheVariants as written
use Rattle.file_release.specs.metadata_cells.Chain.{LinksFrom, PlacedCell}
use Rattle.file_release.specs.extent_maps.Runs.{Places, home_at}
use Rattle.file_release.specs.extent_maps.declared.run.PagePlace.TheVariants.{Absent}
use Rattle.file_release.specs.extent_records.Writing.{places_before}
use Rattle.file_release.specs.file_chains.Files.{places_of}
use Rattle.file_release.specs.Reading.{read_home}
use Rattle.file_release.specs.fileset_files.Files.{attributes_of, first_record, is_removed, keep_of, of_live}
use Rattle.file_release.specs.fileset_files.declared.attributes.Attributes.{Attributes}

-- what it is, and the home of each page that it has
pub record SeenFile : Type 0 where
  pub is : Attributes
  pub homes : ℕ → Option Home

-- ** In an original

-- the file with these cells has those of their pages that it keeps
abbrev pub kept_by : List PlacedCell → Attributes → Option SeenFile
kept_by cells is =
    option_map
    (λ keep. record {
      is = is;
      homes = λ page. home_at (places_before keep (places_of cells) page);
    })
    (keep_of cells)

-- what it is, if it is not to be removed
abbrev pub seen_in : List PlacedCell → Option SeenFile
seen_in = of_live (λ cells. option_and_then (kept_by cells) (attributes_of cells))

-- ** In a clone

-- the first cell of the file through which a clone's file is read, if it still is, and how many of
-- its pages were there when the clone was made
abbrev pub source_in : Record → Option CellAt
source_in (written.CloneFile vol cell page frozen) =
    if vol == 0 then None else Some (record { vol = vol; page = page; cell = cell })
source_in _ = None

abbrev pub frozen_in : Record → ℕ
frozen_in (written.CloneFile vol cell page frozen) = frozen
frozen_in _ = 0

-- the first cell of the file through which a clone's file reads
abbrev pub source_of : List PlacedCell → Option CellAt
source_of cells = option_and_then source_in (first_record 2 cells)

-- how many pages were frozen for it
abbrev pub frozen_of : List PlacedCell → ℕ
frozen_of cells = option_map_or frozen_in (first_record 2 cells) 0

-- where the source has its pages, whatever it keeps of them
abbrev pub IsSource : Pages → Option CellAt → Places → Type 0
IsSource pages None places = (page : ℕ) → places page ≡ Absent
IsSource pages (Some at) places = (cells : List PlacedCell) × LinksFrom pages at cells
    × ((page : ℕ) → places page ≡ places_of cells page)

-- the file of a clone's own cells
pub record IsOwn (pages : Pages) (cells : List PlacedCell) (seen : SeenFile) : Type 0 where
  pub is : attributes_of cells ≡ Some seen.is
  pub source : Places
  pub through : IsSource pages (source_of cells) source
  pub homes : (page : ℕ) → seen.homes page
      ≡ read_home (frozen_of cells) (places_of cells) source page

-- the file was there when the clone of that number was made, and has not gone out of sync with it
abbrev pub is_in_sync : ℕ → Record → Bool
is_in_sync number (written.Attributes kind uid gid flags size keep links birth unsynced) =
    nat_lt birth number && not (unsynced == number)
is_in_sync number _ = false

-- what the file is in the clone of that number, if the clone has it as the original does
abbrev pub seen_through : ℕ → List PlacedCell → Option SeenFile
seen_through number cells =
    if option_map_or (is_in_sync number) (first_record 1 cells) false then seen_in cells else None

-- the file of a clone's own cells, and none where it is to be removed
abbrev pub IsOwnUnless : Bool → Pages → List PlacedCell → Option SeenFile → Type 0
IsOwnUnless true pages own seen = seen ≡ None
IsOwnUnless false pages own seen = IsSomeAnd seen (IsOwn pages own)

-- what a clone has at a tag: the file of its own cells if it has some, else the original's
abbrev pub IsOfClone : Pages → ℕ → Option (List PlacedCell) → Option (List PlacedCell)
    → Option SeenFile → Type 0
IsOfClone pages number (Some own) original seen = IsOwnUnless (is_removed own) pages own seen
IsOfClone pages number None original seen =
    seen ≡ option_and_then (seen_through number) original
