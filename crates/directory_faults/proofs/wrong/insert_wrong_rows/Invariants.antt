use Rattle.fileset_shapes.specs.sorted_sets.Members.{IsIn}
use Rattle.directory_faults.proofs.Inserted.{AreIn}
use Rattle.directory_faults.proofs.LedWrong.{IsWrongAt}
use Rattle.directory_faults.proofs.wrong.insert_wrong_rows.Given as goal

abbrev pub invariant-loop-row : goal.invariant-loop-row
invariant-loop-row l = AreIn l.rows (IsWrongAt l.kinds l.is_clone) (IsIn l.initial.found) (IsIn l.found) l.row-index
