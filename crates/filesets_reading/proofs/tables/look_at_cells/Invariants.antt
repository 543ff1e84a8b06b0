use Rattle.filesets_reading.specs.Good.{frame_at}
use Rattle.filesets_reading.specs.Tables.{HaveCellTables}
use Rattle.filesets_reading.proofs.tables.look_at_cells.Given as goal

abbrev pub invariant-loop-number : goal.invariant-loop-number
invariant-loop-number g l = HaveCellTables l.number (g.M.MetaPages.pages l.pages) (frame_at l.anchor l.version)
