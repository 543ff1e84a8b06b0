use Rattle.standing_laws.specs.page_ways.Frame.{frame_in}
use Rattle.domain_memory.specs.Tables.{AreReadBelow}
use Rattle.domain_memory.proofs.cells.read_cells.Given as goal

abbrev pub invariant-loop-number : goal.invariant-loop-number
invariant-loop-number g l = AreReadBelow (g.M.MetaPages.pages l.pages) (frame_in l.frame) l.number l.cells
