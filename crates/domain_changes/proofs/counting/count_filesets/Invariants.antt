use Rattle.domain_changes.proofs.Counted.{IsCounted}
use Rattle.domain_changes.proofs.counting.count_filesets.Given as goal

abbrev pub invariant-loop-n : goal.invariant-loop-n
invariant-loop-n l = IsCounted l.table.slots l.n l.count
