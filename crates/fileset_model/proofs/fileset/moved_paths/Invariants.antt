use Rattle.std.proofs.Common.{◌≡◌, drop}
use Rattle.std.specs.FinMap.{entries}
use Rattle.fileset_model.proofs.MoveLemmas.{moved_map}
use Rattle.fileset_model.proofs.fileset.moved_paths.Given as goal

abbrev pub invariant-loop-i : goal.invariant-loop-i
invariant-loop-i l = l.moved.items ≡ entries (moved_map l.from l.to (drop l.i l.paths))
