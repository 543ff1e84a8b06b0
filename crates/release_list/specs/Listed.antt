-- What is on a list of things to be let go of.
use Rattle.std.specs.Prelude.{◌≡◌, ◌⊎◌, ◌<◌, ◌≤◌, ℕ, List, Option, Some, None, IsSome, Contains, get_or, length, unwrap_or}
use Rattle.std.specs.Option.{option_and_then}
use Rattle.file_release.specs.domain_base.declared.place.CellAt.{CellAt}
use Rattle.file_release.specs.domain_base.declared.place.Home.{Home}
use Rattle.file_release.specs.cell_records.declared.record.Leftover.{Leftover}
use Rattle.file_release.specs.cell_records.declared.record.Leftover.TheVariants.{Remove, Trim}
use Rattle.file_release.specs.cell_records.declared.record.Record.{Record}
use Rattle.file_release.specs.cell_records.declared.record.Record.TheVariants as written
use Rattle.file_release.specs.metadata_cells.Chain.{PlacedCell}
use Rattle.file_release.specs.extent_maps.declared.run.PagePlace.TheVariants.{At}
use Rattle.file_release.specs.free_cells.Cells.{Cells}
use Rattle.file_release.specs.free_space.Spaces.{Spaces}
use Rattle.file_release.specs.Releases.{AreAllOnce}
use Rattle.file_release.specs.fileset_files.Files.{first_record, keep_of}
use Rattle.file_release.specs.fileset_files.Together.{IsHeldApart}
use Rattle.release_list.specs.declared.list.Entry.{Entry}
use Rattle.release_list.specs.Listing.{AreInOrder, Listing}
use Rattle.release_list.specs.Standing.{Files, ReadsThrough, place_in}

-- what a file's first cell says is left to be done
abbrev pub leftover_in : Record → Option Leftover
leftover_in (written.Pending what) = Some what
leftover_in _ = None

-- what the first cell of a file says is left to be done
abbrev pub left_of : List PlacedCell → Option Leftover
left_of cells = option_and_then leftover_in (first_record 6 cells)

-- from which page on pages go, by what is left: after those that the file keeps, or all
abbrev pub from_by : Option Leftover → List PlacedCell → ℕ
from_by (Some Trim) cells = unwrap_or (keep_of cells) 65536
from_by (Some Remove) cells = 0
from_by None cells = 0

-- from which page on the pages of a file go, by what is left to be done; 0 if nothing is said
abbrev pub stale_from : List PlacedCell → ℕ
stale_from cells = from_by (left_of cells) cells

-- all of it goes: a file that is to be removed, or quota cells
abbrev pub GoesWhole : List PlacedCell → Type 0
GoesWhole cells = ¬ left_of cells ≡ Some Trim

-- the first record of a kind in the first cell of what begins there
abbrev pub record_at : Files → ℕ → CellAt → Option Record
record_at files kind at = option_and_then (first_record kind) (files at)

-- a first cell says what is left to be done, or has no attributes, and so is one of quotas
abbrev pub SaysWhatGoes : Files → CellAt → Type 0
SaysWhatGoes files at = IsSome (record_at files 6 at) ⊎ (record_at files 1 at ≡ None)

-- a file that is to let go of something is there, as its first cell says, or quota cells are; the
-- clone's file that reads through it is given, and none if none does
pub record IsEntry (files : Files) (entry : Entry) : Type 0 where
  pub there : IsSome (files entry.at)
  pub says : SaysWhatGoes files entry.at
  pub given : (clone : CellAt) → entry.clone ≡ Some clone → ReadsThrough files clone entry.at
  pub all : (clone : CellAt) → ReadsThrough files clone entry.at → entry.clone ≡ Some clone

-- each is an entry like that, no file has two, and that of a clone's file stands after that of the
-- file through which it reads; the pages of tag directories stand on volumes, are held and none of
-- cells, each once, and no file's
pub record IsListed (space : Spaces) (cells : Cells) (files : Files) (list : Listing) : Type 0 where
  pub each : (entry : Entry) → Contains list.entries entry → IsEntry files entry
  pub once : (i j : ℕ) (d : Entry) → i < length list.entries → j < length list.entries
      → (get_or list.entries i d).at ≡ (get_or list.entries j d).at → i ≡ j
  pub order : AreInOrder list.entries
  pub pages_once : AreAllOnce list.tag_pages
  pub pages_low : (home : Home) → Contains list.tag_pages home → 1 ≤ home.vol
  pub pages_held : (home : Home) → Contains list.tag_pages home → IsHeldApart space cells home
  pub pages_apart : (home : Home) → Contains list.tag_pages home → (at : CellAt) (page : ℕ)
      → ¬ place_in files at page ≡ At home
