use Rattle.std.proofs.Common.{List}
use Rattle.free_cells.specs.metadata_cells.Chain.{PlacedCell}
use Rattle.file_chains.specs.Files.{IsFile}
use Rattle.file_chains.proofs.Gathers.{Gathers}
use Rattle.file_chains.proofs.maps.read_maps.Given as goal

abbrev pub invariant-loop : goal.invariant-loop
invariant-loop g l = (cells : List PlacedCell) → IsFile (g.M.MetaPages.pages l.pages) l.fn.start cells → Gathers (g.M.MetaPages.pages l.pages) l.counter l.next cells l.found.places.items l.found.records.items
