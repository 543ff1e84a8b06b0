use Rattle.no_faults.proofs.Lists.{ListsSo}
use Rattle.no_faults.proofs.list.read_list.Given as goal

abbrev pub invariant-loop-at : goal.invariant-loop-at
invariant-loop-at g l = ListsSo (g.M.MetaPages.pages l.pages) l.links l.list.list l.at-index
