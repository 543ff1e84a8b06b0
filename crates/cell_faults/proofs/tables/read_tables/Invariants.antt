use Rattle.page_ways.specs.Frame.{frame_in}
use Rattle.cell_faults.specs.Tables.{AreTablesBelow}
use Rattle.cell_faults.proofs.tables.read_tables.Given as goal

abbrev pub invariant-loop-number : goal.invariant-loop-number
invariant-loop-number g l = AreTablesBelow l.number (g.M.MetaPages.pages l.pages) (frame_in l.frame) l.tables.read.items l.tables.unread.items
