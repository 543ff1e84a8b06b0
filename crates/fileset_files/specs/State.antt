-- What the cells of a file say of it, and the files of a fileset as a map from their tags.
use Rattle.std.specs.Prelude.{ℕ, List, Option, Some, None, if◌then◌else◌}
use Rattle.std.specs.Option.{option_and_then, option_map}
use Rattle.file_chains.specs.domain_base.declared.place.Tag.{Tag}
use Rattle.file_chains.specs.page_store.Bitfiles.{same_tag}
use Rattle.file_chains.specs.cell_records.declared.record.Leftover.{Leftover}
use Rattle.file_chains.specs.cell_records.declared.record.Record.{Record}
use Rattle.file_chains.specs.cell_records.declared.record.Record.TheVariants as written
use Rattle.file_chains.specs.metadata_cells.Chain.{PlacedCell}
use Rattle.file_chains.specs.extent_maps.Runs.{Places}
use Rattle.file_chains.specs.Files.{places_of}
use Rattle.fileset_files.specs.declared.attributes.Attributes.{Attributes}
use Rattle.fileset_files.specs.declared.indexing.IndexPlace.{IndexPlace}
use Rattle.fileset_files.specs.Files.{Chains, attributes_in, first_record}
use Rattle.fileset_files.specs.Index.{index_place_of}

-- a file or directory: what it is, how many of its first pages it keeps, the number of the clone
-- that it was born after and of the one that it is out of step with, for a directory in which one
-- it stands and where its index is, what is left to be done with it, and where its pages stand
pub record FileState : Type 0 where
  pub attributes : Attributes
  pub keep : ℕ
  pub birth : ℕ
  pub unsynced : ℕ
  pub parent : Option Tag
  pub index : Option IndexPlace
  pub pending : Option Leftover
  pub places : Places

-- in which directory one stands, by a record if it is one of that
abbrev pub parent_in : Record → Option Tag
parent_in (written.Parent slot seq) = Some (record { slot = slot; seq = seq })
parent_in _ = None

abbrev pub parent_of : List PlacedCell → Option Tag
parent_of cells = option_and_then parent_in (first_record 10 cells)

-- what is left to be done with a file, by a record if it is one of that
abbrev pub pending_in : Record → Option Leftover
pending_in (written.Pending what) = Some what
pending_in _ = None

abbrev pub pending_of : List PlacedCell → Option Leftover
pending_of cells = option_and_then pending_in (first_record 6 cells)

-- the file with these cells, whose record of attributes is this one
abbrev pub state_with : List PlacedCell → Record → Option FileState
state_with cells (written.Attributes kind uid gid flags size keep links birth unsynced) =
    option_map (λ is. record {
      attributes = is;
      keep = keep;
      birth = birth;
      unsynced = unsynced;
      parent = parent_of cells;
      index = index_place_of cells;
      pending = pending_of cells;
      places = places_of cells;
    }) (attributes_in (written.Attributes kind uid gid flags size keep links birth unsynced))
state_with cells _ = None

-- what the cells of a file say of it, but for its stripe and what it is read through
abbrev pub state_of : List PlacedCell → Option FileState
state_of cells = option_and_then (state_with cells) (first_record 1 cells)

-- the file of each tag that is used
abbrev pub States : Type 0
States = Tag → Option FileState

-- the state of the file of each tag that is used
abbrev pub states_of : Chains → States
states_of chains = λ tag. option_and_then state_of (chains tag)

-- the states with this file at the tag
abbrev pub with_state : Tag → FileState → States → States
with_state tag state states = λ t. if same_tag t tag then Some state else states t

-- the files, with that of one tag changed
abbrev pub with_changed : Tag → (FileState → FileState) → States → States
with_changed tag change states =
    λ t. if same_tag t tag then option_map change (states t) else states t

-- the files without that of one tag
abbrev pub without_state : Tag → States → States
without_state tag states = λ t. if same_tag t tag then None else states t
