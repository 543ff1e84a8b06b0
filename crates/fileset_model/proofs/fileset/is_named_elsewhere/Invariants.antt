use Rattle.std.proofs.Common.{◌≡◌, drop}
use Rattle.fileset_model.proofs.ChangeLemmas.{named_elsewhere}
use Rattle.fileset_model.proofs.fileset.is_named_elsewhere.Given as goal

abbrev pub invariant-loop-other : goal.invariant-loop-other
invariant-loop-other l = named_elsewhere l.path l.number (drop l.other-index l.paths) ≡ named_elsewhere l.path l.number l.paths
