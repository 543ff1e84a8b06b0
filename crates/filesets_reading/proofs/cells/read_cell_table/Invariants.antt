use Rattle.filesets_reading.specs.Good.{frame_at}
use Rattle.filesets_reading.proofs.CellTables.{CellWalk}
use Rattle.filesets_reading.proofs.cells.read_cell_table.Given as goal

abbrev pub invariant-loop : goal.invariant-loop
invariant-loop g l = CellWalk (g.M.MetaPages.pages l.pages) (frame_at l.anchor l.fn.version) l.vol l.table.items l.page
