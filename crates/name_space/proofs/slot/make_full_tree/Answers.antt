use Rattle.std.proofs.Common.{[]}
use Rattle.name_space.proofs.slot.make_full_tree.Goals as goal

pub returns : goal.returns
returns c = λ files are. c.in_ok-complete_tree.ensures files are [] (c.in_ok-tree.ensures files are)
