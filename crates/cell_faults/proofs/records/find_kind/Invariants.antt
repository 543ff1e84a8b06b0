use Rattle.cell_faults.proofs.FirstOfKind.{IsBehind}
use Rattle.cell_faults.proofs.records.find_kind.Given as goal

abbrev pub invariant-loop-record : goal.invariant-loop-record
invariant-loop-record l = IsBehind l.kind l.records l.record-index
