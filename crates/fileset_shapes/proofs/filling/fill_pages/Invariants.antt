use Rattle.fileset_shapes.proofs.Filled.{AreFilledTo}
use Rattle.fileset_shapes.proofs.filling.fill_pages.Given as goal

abbrev pub invariant-loop-number : goal.invariant-loop-number
invariant-loop-number g l = AreFilledTo (g.M.MetaPages.pages l.pages) l.homes l.number l.map
