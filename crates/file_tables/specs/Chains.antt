-- A chain of quota cells in a world of the tests.
use Rattle.std.specs.Prelude.{Option, List}
use Rattle.release_steps.specs.domain_base.declared.place.CellAt.{CellAt}
use Rattle.release_steps.specs.page_store.Homes.{pages_of}
use Rattle.release_steps.specs.metadata_cells.Chain.{PlacedCell}
use Rattle.release_steps.specs.file_chains.Allocated.{AreAllocated}
use Rattle.release_steps.specs.file_chains.FileChanges.{AreOnTables}
use Rattle.file_world.specs.declared.world.World.{World}
use Rattle.release_steps.specs.QuotaChain.{IsQuotaChain}

-- free cells, free space and pages belong together, and a chain of quota cells begins there, each
-- on its volume's table
pub record HasChain (world : World) (first : Option CellAt) : Type 0 where
  pub allocated : AreAllocated world.space world.cells (pages_of world.pages.entries.items)
  pub chain : List PlacedCell
  pub is : IsQuotaChain (pages_of world.pages.entries.items) first chain
  pub on_tables : AreOnTables world.cells chain
