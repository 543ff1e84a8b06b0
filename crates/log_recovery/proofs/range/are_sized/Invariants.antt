use Rattle.log_recovery.specs.Members.{version_in}
use Rattle.log_recovery.specs.Range.{AreSizedBelow}
use Rattle.log_recovery.proofs.range.are_sized.Given as goal

abbrev pub invariant-loop-number : goal.invariant-loop-number
invariant-loop-number l = AreSizedBelow l.number (version_in l.versions) l.anchor
