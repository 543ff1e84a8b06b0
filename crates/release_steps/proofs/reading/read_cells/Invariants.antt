use Rattle.std.proofs.Common.{List, map}
use Rattle.release_list.specs.metadata_cells.Chain.{PlacedCell}
use Rattle.release_list.specs.Standing.{IsQuotas}
use Rattle.release_steps.specs.QuotaChain.{there_of}
use Rattle.release_steps.proofs.ReadCells.{IsRead}
use Rattle.release_steps.proofs.reading.read_cells.Given as goal

abbrev pub invariant-loop : goal.invariant-loop
invariant-loop g l = (chain : List PlacedCell) → IsQuotas (g.M.MetaPages.pages l.pages) l.fn.first chain → IsRead (g.M.MetaPages.pages l.pages) l.counter l.next (map there_of l.found.items) chain
