use Rattle.std.proofs.Common.{◌≡◌, ◌++◌, take}
use Rattle.fileset_model.proofs.fileset.below.Given as goal

abbrev pub invariant-loop-name : goal.invariant-loop-name
invariant-loop-name l = l.all.items ≡ l.front ++ take l.name-index l.names
