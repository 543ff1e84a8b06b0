-- Two files of a world; the second may read through the first.
use Rattle.std.specs.Prelude.{◌≡◌, ℕ, List, None, Some}
use Rattle.release_steps.specs.domain_base.declared.place.CellAt.{CellAt}
use Rattle.release_steps.specs.domain_base.declared.place.Home.{Home}
use Rattle.release_steps.specs.page_store.Pages.{Pages}
use Rattle.release_steps.specs.cell_records.declared.record.Record.{Record}
use Rattle.release_steps.specs.cell_records.Records.{Allowed, kind_of}
use Rattle.release_steps.specs.metadata_cells.Chain.{PlacedCell}
use Rattle.release_steps.specs.extent_maps.declared.run.PagePlace.TheVariants.{At}
use Rattle.release_steps.specs.page_store.Homes.{pages_of}
use Rattle.release_steps.specs.free_cells.Cells.{Cells}
use Rattle.release_steps.specs.free_space.Spaces.{Spaces}
use Rattle.release_steps.specs.file_chains.Files.{places_of}
use Rattle.release_steps.specs.fileset_files.Files.{AreApart, HasFirstKinds}
use Rattle.release_steps.specs.release_list.Listed.{IsEntry}
use Rattle.release_steps.specs.release_list.Listing.{Listing}
use Rattle.release_steps.specs.release_list.Standing.{Files, source_in}
use Rattle.release_steps.specs.release_list.Steps.{IsWell, now_of}
use Rattle.file_world.specs.declared.world.World.{World}
use Rattle.release_tables.specs.declared.pair.Pair.{Pair}
use Rattle.release_tables.specs.Going.{IsGoing}

-- the chains of both share no cell and no home, and the second's first cell has room
pub record AreTwo (space : Spaces) (cells : Cells) (pages : Pages) (at clone : CellAt)
    (chain own : List PlacedCell) : Type 0 where
  pub file : IsGoing space cells pages at chain
  pub reader : IsGoing space cells pages clone own
  pub apart : AreApart chain own
  pub not_own : (p q : ℕ) (home : Home) → places_of chain p ≡ At home
      → ¬ places_of own q ≡ At home
  pub kinds : HasFirstKinds own

abbrev pub HasTwo : World → Pair → Type 0
HasTwo world pair = (chain : List PlacedCell) × (own : List PlacedCell)
    × AreTwo world.space world.cells (pages_of world.pages.entries.items) pair.at pair.clone chain
    own

-- the record says that its file reads through the one that begins there
pub record IsCloneOf (at : CellAt) (frozen : ℕ) (value : Record) : Type 0 where
  pub of_kind : kind_of value ≡ 2
  pub allowed : Allowed value
  pub says : source_in value ≡ Some (record { at = at; frozen = frozen })

-- all belongs together, and a file may stand on the list with that clone, and the clone's file too
pub record IsPair (space : Spaces) (cells : Cells) (pages : Pages) (at clone : CellAt)
    (list : Listing) (files : Files) : Type 0 where
  pub well : IsWell (now_of list files space cells pages)
  pub first : IsEntry files (record { at = at; clone = Some clone })
  pub second : IsEntry files (record { at = clone; clone = None })

abbrev pub HasPair : World → Pair → Listing → Type 0
HasPair world pair list = (files : Files) × IsPair world.space world.cells
    (pages_of world.pages.entries.items) pair.at pair.clone list files
