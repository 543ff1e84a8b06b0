-- A file that has something to be let go of, and lists of such files.
use Rattle.std.specs.Prelude.{◌≡◌, ℕ, List}
use Rattle.release_steps.specs.domain_base.declared.place.CellAt.{CellAt}
use Rattle.release_steps.specs.domain_base.declared.place.Home.{Home}
use Rattle.release_steps.specs.page_store.Pages.{Pages}
use Rattle.release_steps.specs.metadata_cells.Chain.{PlacedCell}
use Rattle.release_steps.specs.extent_maps.declared.run.PagePlace.TheVariants.{At}
use Rattle.release_steps.specs.page_store.Homes.{pages_of}
use Rattle.release_steps.specs.free_cells.Cells.{Cells}
use Rattle.release_steps.specs.free_space.Spaces.{Spaces}
use Rattle.release_steps.specs.file_chains.Allocated.{AreAllocated}
use Rattle.release_steps.specs.file_chains.FileChanges.{AreOnTables}
use Rattle.release_steps.specs.file_chains.Files.{IsFile, places_of}
use Rattle.release_steps.specs.fileset_files.Together.{IsHeldApart}
use Rattle.release_steps.specs.release_list.Listing.{Listing}
use Rattle.release_steps.specs.release_list.Standing.{Files}
use Rattle.release_steps.specs.release_list.Steps.{IsWell, now_of}
use Rattle.file_world.specs.declared.world.World.{World}

-- the chain of a file begins there, whose cells and pages stand where free space and free cells
-- know of it
pub record IsGoing (space : Spaces) (cells : Cells) (pages : Pages) (at : CellAt)
    (chain : List PlacedCell) : Type 0 where
  pub allocated : AreAllocated space cells pages
  pub file : IsFile pages at chain
  pub on_tables : AreOnTables cells chain
  pub held : (page : ℕ) (home : Home) → places_of chain page ≡ At home
      → IsHeldApart space cells home
  pub once : (p q : ℕ) (home : Home) → places_of chain p ≡ At home
      → places_of chain q ≡ At home → p ≡ q

abbrev pub HasGoing : World → CellAt → Type 0
HasGoing world at = (chain : List PlacedCell)
    × IsGoing world.space world.cells (pages_of world.pages.entries.items) at chain

-- the list is one of some files, and all belongs together
abbrev pub HasWellBy : Pages → Spaces → Cells → Listing → Type 0
HasWellBy pages space cells list = (files : Files) × IsWell (now_of list files space cells pages)

-- the same of a world
abbrev pub HasWell : World → Listing → Type 0
HasWell world list =
    HasWellBy (pages_of world.pages.entries.items) world.space world.cells list
