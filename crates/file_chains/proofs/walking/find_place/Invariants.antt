use Rattle.free_cells.specs.metadata_cells.Chain.{PlacedCell}
use Rattle.std.proofs.Common.{List}
use Rattle.file_chains.specs.Files.{IsFile}
use Rattle.file_chains.proofs.Walks.{IsOnWay}
use Rattle.file_chains.proofs.walking.find_place.Given as goal

abbrev pub invariant-loop : goal.invariant-loop
invariant-loop g l = (cells : List PlacedCell) → IsFile (g.M.MetaPages.pages l.pages) l.fn.start cells → IsOnWay (g.M.MetaPages.pages l.pages) l.page l.counter l.next cells
