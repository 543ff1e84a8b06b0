use Rattle.page_ways.specs.Frame.{frame_in}
use Rattle.page_ways.specs.sorted_sets.Members.{IsIn}
use Rattle.cell_faults.proofs.WrongPages.{AreIn}
use Rattle.cell_faults.proofs.local.insert_wrong.Given as goal

abbrev pub invariant-loop-page : goal.invariant-loop-page
invariant-loop-page g l = AreIn (g.M.MetaPages.pages l.pages) (frame_in l.frame) l.table l.read (IsIn l.initial.found) (IsIn l.found) l.page-index
