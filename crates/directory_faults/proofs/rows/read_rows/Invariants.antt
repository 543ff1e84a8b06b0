use Rattle.fileset_shapes.specs.page_ways.Frame.{frame_in}
use Rattle.directory_faults.proofs.RowsRead.{AreFirstRows}
use Rattle.directory_faults.proofs.rows.read_rows.Given as goal

abbrev pub invariant-loop-file : goal.invariant-loop-file
invariant-loop-file g l = AreFirstRows (g.M.MetaPages.pages l.pages) (frame_in l.frame) l.files l.file-index l.rows.items
