use Rattle.fileset_shapes.specs.page_ways.Frame.{frame_in}
use Rattle.fileset_shapes.specs.sorted_sets.Members.{IsIn}
use Rattle.directory_faults.proofs.Inserted.{AreIn}
use Rattle.directory_faults.proofs.RowPages.{IsBadHome}
use Rattle.directory_faults.proofs.pages.insert_bad_pages.Given as goal

abbrev pub invariant-loop-home : goal.invariant-loop-home
invariant-loop-home g l = AreIn l.homes (IsBadHome (g.M.MetaPages.pages l.pages) (frame_in l.frame)) (IsIn l.initial.found) (IsIn l.found) l.home-index
