use Rattle.fileset_shapes.specs.sorted_sets.Members.{IsIn}
use Rattle.directory_faults.proofs.Inserted.{AreIn}
use Rattle.directory_faults.specs.Few.{HasFewAt}
use Rattle.directory_faults.proofs.few.insert_few_rows.Given as goal

abbrev pub invariant-loop-file : goal.invariant-loop-file
invariant-loop-file l = AreIn l.files (HasFewAt l.counts) (IsIn l.initial.found) (IsIn l.found) l.file-index
