use Rattle.fileset_shapes.specs.page_ways.Frame.{frame_in}
use Rattle.fileset_shapes.specs.sorted_sets.Members.{IsIn}
use Rattle.directory_faults.specs.Pages.{IsBadOf}
use Rattle.directory_faults.proofs.Inserted.{AreIn}
use Rattle.directory_faults.proofs.pages.insert_row_pages.Given as goal

abbrev pub invariant-loop-file : goal.invariant-loop-file
invariant-loop-file g l = AreIn l.files (IsBadOf (g.M.MetaPages.pages l.pages) (frame_in l.frame)) (IsIn l.initial.found) (IsIn l.found) l.file-index
