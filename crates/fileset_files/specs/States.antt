-- The files of a fileset as a map from their tags, and what calls make of it.
use Rattle.std.specs.Prelude.{◌≡◌, ℕ, Bool, true, false, List, Option, Some, None, IsSomeAnd, if◌then◌else◌}
use Rattle.std.specs.Option.{option_and_then, option_map_or}
use Rattle.file_chains.specs.domain_base.declared.place.CellAt.{CellAt}
use Rattle.file_chains.specs.domain_base.declared.place.Kind.{Kind}
use Rattle.file_chains.specs.domain_base.declared.place.Kind.TheVariants.{Directory, File}
use Rattle.file_chains.specs.domain_base.declared.place.Tag.{Tag}
use Rattle.file_chains.specs.page_store.Pages.{Pages}
use Rattle.file_chains.specs.cell_records.declared.record.Leftover.{Leftover}
use Rattle.file_chains.specs.cell_records.declared.record.Leftover.TheVariants.{Remove, Trim}
use Rattle.file_chains.specs.metadata_cells.Chain.{PlacedCell}
use Rattle.tag_dirs.specs.declared.dir.TagPlace.{TagPlace}
use Rattle.file_chains.specs.extent_maps.declared.run.PagePlace.{PagePlace}
use Rattle.file_chains.specs.extent_maps.declared.run.PagePlace.TheVariants.{Absent}
use Rattle.file_chains.specs.extent_maps.Runs.{with_place}
use Rattle.file_chains.specs.free_cells.Cells.{Cells}
use Rattle.file_chains.specs.free_space.Spaces.{Spaces}
use Rattle.file_chains.specs.Files.{IsFile}
use Rattle.fileset_files.specs.declared.attributes.Attributes.{Attributes}
use Rattle.fileset_files.specs.declared.indexing.IndexPlace.{IndexPlace}
use Rattle.fileset_files.specs.declared.new_cells.NewFile.{NewFile}
use Rattle.fileset_files.specs.Files.{Chains}
use Rattle.fileset_files.specs.State.{FileState, States, state_of, states_of, with_changed}
use Rattle.fileset_files.specs.Together.{AreTogether}
use Rattle.fileset_files.specs.Truncation.{HasPageWithin, pages_in}

-- files that belong together, and what each tag names of them
pub record HaveStates (fileset : ℕ) (places : List TagPlace) (space : Spaces) (cells : Cells)
    (pages : Pages) (states : States) : Type 0 where
  pub chains : Chains
  pub together : AreTogether fileset places space cells pages chains
  pub are : states_of chains ≡ states

-- ** One file

-- a new file or directory: no byte, one link, no page, and all pages kept; a directory stands in
-- itself
abbrev pub new_parent_tag : Kind → Tag → Option Tag
new_parent_tag File tag = None
new_parent_tag Directory tag = Some tag

-- a new file or directory: no byte, one link, no page, and all pages kept; a directory is its own
-- parent
abbrev pub new_state : NewFile → Tag → FileState
new_state what tag = record {
  attributes = record {
    kind = what.kind;
    uid = what.uid;
    gid = what.gid;
    is_logged = false;
    size = 0;
    links = 1;
  };
  keep = 65536;
  birth = what.birth;
  unsynced = 0;
  parent = new_parent_tag what.kind tag;
  index = None;
  pending = None;
  places = λ page. Absent;
}

-- the file with other attributes, in another directory, with another index, or with a page at
-- another place; and one that is to be removed
abbrev pub described : Attributes → FileState → FileState
described value state = record state { attributes = value }

-- a directory that says to stand in another one
abbrev pub put_in : Tag → FileState → FileState
put_in parent state = record state { parent = Some parent }

-- a directory with its index elsewhere, or with none
abbrev pub indexed : Option IndexPlace → FileState → FileState
indexed index state = record state { index = index }

-- a file with one page at another place
abbrev pub placed : ℕ → PagePlace → FileState → FileState
placed page place state = record state { places = with_place page place state.places }

-- a file that is to be removed
abbrev pub to_remove : FileState → FileState
to_remove state = record state { pending = Some Remove }

-- the file with that size; if a number is given, it keeps that number of pages, and pages of it are
-- then to be let go
abbrev pub cut : ℕ → Option ℕ → FileState → FileState
cut size None state =
    record state { attributes = record state.attributes { size = size } }
cut size (Some keep) state = record state {
  attributes = record state.attributes { size = size };
  keep = keep;
  pending = Some Trim;
}

-- the number from which on the file's pages are stale once it has that size, if it has one there of
-- those that it keeps
abbrev pub IsStaleFrom : ℕ → FileState → Option ℕ → Type 0
IsStaleFrom size state (Some from) =
    (from ≡ pages_in size) × HasPageWithin from state.keep state.places
IsStaleFrom size state None = ¬ HasPageWithin (pages_in size) state.keep state.places

-- the file that a tag names, if that is not to be removed
abbrev pub is_removing : Option Leftover → Bool
is_removing (Some Remove) = true
is_removing (Some Trim) = false
is_removing None = false

abbrev pub if_live : FileState → Option FileState
if_live state = if is_removing state.pending then None else Some state

-- the file of a tag, if it is not to be removed
abbrev pub live_at : States → Tag → Option FileState
live_at states tag = option_and_then if_live (states tag)

-- where the file of a tag has a page
abbrev pub place_in : States → Tag → ℕ → PagePlace
place_in states tag page =
    option_map_or (λ (state : FileState). state.places page) (states tag) Absent

-- ** Calls

-- the tag's file is cut, and all belongs together
pub record CutsFile (fileset : ℕ) (places : List TagPlace) (space : Spaces) (cells : Cells)
    (tag : Tag) (size : ℕ) (states : States) (new : Pages) : Type 0 where
  pub keep : Option ℕ
  pub stale : IsSomeAnd (states tag) (λ state. IsStaleFrom size state keep)
  pub now : HaveStates fileset places space cells new (with_changed tag (cut size keep) states)

-- a file stands there by itself, as one that no tag names
pub record StandsAlone (pages : Pages) (at : CellAt) (state : FileState) : Type 0 where
  pub chain : List PlacedCell
  pub is_file : IsFile pages at chain
  pub is : state_of chain ≡ Some state
