use Rattle.page_ways.specs.Frame.{frame_in}
use Rattle.page_ways.specs.Walk.{IsWalk, steps_left}
use Rattle.page_ways.proofs.walk.read_pages.Given as goal

abbrev pub invariant-loop-walk : goal.invariant-loop-walk
invariant-loop-walk g l = IsWalk (g.M.MetaPages.pages l.pages) (frame_in l.frame) (g.W.PageWay.way l.way) l.walk

abbrev pub decreases-loop-walk : goal.decreases-loop-walk
decreases-loop-walk g l = steps_left l.walk
