-- How the list of what is to be let go of grows, first cell by first cell.
use Rattle.std.specs.Prelude.{◌≡◌, ◌⊎◌, ◌↔◌, ◌<◌, ℕ, List, None, Contains, get_or, length}
use Rattle.domain_memory.specs.domain_base.declared.place.CellAt.{CellAt}
use Rattle.domain_memory.specs.page_store.Pages.{Pages}
use Rattle.domain_memory.specs.metadata_cells.Cell.{Cell}
use Rattle.domain_memory.specs.metadata_cells.Chain.{StandsAt}
use Rattle.domain_memory.specs.metadata_cells.declared.head.CellKind.TheVariants.{Primary}
use Rattle.domain_memory.specs.release_list.Listing.{Listing}
use Rattle.domain_memory.specs.release_list.declared.list.Entry.{Entry}
use Rattle.domain_memory.specs.domain_standing.Sources.{SaySource}
use Rattle.no_faults.specs.ToDo.{SayLeft}

-- the first cell of a file stands there, and says what is left to be done
pub record SaysLeft (pages : Pages) (at : CellAt) : Type 0 where
  pub cell : Cell
  pub stands : StandsAt pages at cell
  pub kind : cell.head.kind ≡ Primary
  pub says : SayLeft cell.records

-- or through which file its own is read
pub record SaysThrough (pages : Pages) (at : CellAt) : Type 0 where
  pub cell : Cell
  pub stands : StandsAt pages at cell
  pub kind : cell.head.kind ≡ Primary
  pub says : SaySource cell.records

-- no entry gives a clone's file
abbrev pub AreAlone : Listing → Type 0
AreAlone list = (entry : Entry) → Contains list.entries entry → entry.clone ≡ None

-- no file has two entries
abbrev pub AreOnce : List Entry → Type 0
AreOnce entries = (i j : ℕ) (e : Entry) → i < length entries → j < length entries
    → (get_or entries i e).at ≡ (get_or entries j e).at → i ≡ j

-- it is the entry of a file for which something is left to be done
pub record IsLeftAt (pages : Pages) (at : CellAt) (entry : Entry) : Type 0 where
  pub same : entry.at ≡ at
  pub alone : entry.clone ≡ None
  pub says : SaysLeft pages at

-- a file is added, if something is left to be done of it
pub record AddsLeft (pages : Pages) (at : CellAt) (old new : Listing) : Type 0 where
  pub each : (entry : Entry) → Contains new.entries entry
      ↔ (Contains old.entries entry ⊎ IsLeftAt pages at entry)
  pub once : AreOnce old.entries → AreOnce new.entries
  pub tag_pages : new.tag_pages ≡ old.tag_pages
