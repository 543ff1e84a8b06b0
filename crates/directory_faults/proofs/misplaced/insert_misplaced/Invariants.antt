use Rattle.fileset_shapes.specs.sorted_sets.Members.{IsIn}
use Rattle.directory_faults.proofs.Inserted.{AreIn}
use Rattle.directory_faults.specs.Misplaced.{IsMisplacedAt}
use Rattle.directory_faults.proofs.misplaced.insert_misplaced.Given as goal

abbrev pub invariant-loop-file : goal.invariant-loop-file
invariant-loop-file l = AreIn l.files (IsMisplacedAt l.tree) (IsIn l.initial.found) (IsIn l.found) l.file-index
