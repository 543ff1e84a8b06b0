use Rattle.std.proofs.Common.{◌≡◌, drop}
use Rattle.name_space.specs.Parts.{node_in}
use Rattle.name_space.proofs.parts.find_node.Given as goal

abbrev pub invariant-loop-one : goal.invariant-loop-one
invariant-loop-one l = node_in (drop l.one-index l.nodes) l.tag ≡ node_in l.nodes l.tag
