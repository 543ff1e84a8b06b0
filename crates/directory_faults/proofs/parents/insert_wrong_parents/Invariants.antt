use Rattle.fileset_shapes.specs.sorted_sets.Members.{IsIn}
use Rattle.directory_faults.specs.Parents.{IsAstrayAt}
use Rattle.directory_faults.proofs.Inserted.{AreIn}
use Rattle.directory_faults.proofs.parents.insert_wrong_parents.Given as goal

abbrev pub invariant-loop-file : goal.invariant-loop-file
invariant-loop-file l = AreIn l.files (IsAstrayAt l.astray) (IsIn l.initial.found) (IsIn l.found) l.file-index
