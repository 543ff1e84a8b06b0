use Rattle.fileset_shapes.specs.page_ways.Frame.{frame_in}
use Rattle.directory_faults.specs.Rows.{Adds, IsRowOnPages}
use Rattle.directory_faults.proofs.rows.push_dir_rows.Given as goal

abbrev pub invariant-loop-page : goal.invariant-loop-page
invariant-loop-page g l = Adds (IsRowOnPages (g.M.MetaPages.pages l.pages) (frame_in l.frame) l.file l.page) l.initial.rows.items l.rows.items
