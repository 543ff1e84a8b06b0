use Rattle.std.proofs.Common.{◌≡◌, take}
use Rattle.fileset_model.proofs.fileset.copied_nodes.Given as goal

abbrev pub invariant-loop-number : goal.invariant-loop-number
invariant-loop-number l = l.copies.items ≡ take l.number-index l.nodes
