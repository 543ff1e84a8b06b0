-- What first cells say to be left to do, and the list of it.
use Rattle.std.specs.Prelude.{◌≡◌, ◌<◌, ℕ, List, [], None, IsSome, Contains, get_or, length}
use Rattle.std.specs.Option.{option_and_then}
use Rattle.domain_memory.specs.domain_base.declared.place.CellAt.{CellAt}
use Rattle.domain_memory.specs.page_store.Pages.{Pages}
use Rattle.domain_memory.specs.cell_records.declared.record.Record.{Record}
use Rattle.domain_memory.specs.metadata_cells.Cell.{Cell, record_of}
use Rattle.domain_memory.specs.metadata_cells.declared.head.CellKind.TheVariants.{Primary}
use Rattle.domain_memory.specs.release_list.Listed.{leftover_in}
use Rattle.domain_memory.specs.release_list.Listing.{Listing}
use Rattle.domain_memory.specs.release_list.declared.list.Entry.{Entry}
use Rattle.domain_memory.specs.domain_layout.Layout.{Layout}
use Rattle.domain_memory.specs.domain_layout.Owners.{IsOnTable}

-- records say what is left to be done of their file
abbrev pub SayLeft : List Record → Type 0
SayLeft records = IsSome (option_and_then leftover_in (record_of 6 records))

-- a first cell in use says so
pub record IsLeftToDo (pages : Pages) (layout : Layout) (at : CellAt) : Type 0 where
  pub cell : Cell
  pub on : IsOnTable pages layout at cell
  pub kind : cell.head.kind ≡ Primary
  pub says : SayLeft cell.records

-- the list has the file that begins at a cell
abbrev pub Lists : Listing → CellAt → Type 0
Lists list at = (entry : Entry) × Contains list.entries entry × (entry.at ≡ at)

-- it has the files of which first cells say so, each once, and nothing else
pub record ListsToDo (pages : Pages) (layout : Layout) (list : Listing) : Type 0 where
  pub all : (at : CellAt) → IsLeftToDo pages layout at → Lists list at
  pub only : (entry : Entry) → Contains list.entries entry
      → IsLeftToDo pages layout entry.at × (entry.clone ≡ None)
  pub once : (i j : ℕ) (e : Entry) → i < length list.entries → j < length list.entries
      → (get_or list.entries i e).at ≡ (get_or list.entries j e).at → i ≡ j
  pub no_tags : list.tag_pages ≡ []
