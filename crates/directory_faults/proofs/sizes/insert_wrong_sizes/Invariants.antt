use Rattle.fileset_shapes.specs.sorted_sets.Members.{IsIn}
use Rattle.directory_faults.specs.Sizes.{IsOfWrongSizeAt}
use Rattle.directory_faults.proofs.Inserted.{AreIn}
use Rattle.directory_faults.proofs.sizes.insert_wrong_sizes.Given as goal

abbrev pub invariant-loop-file : goal.invariant-loop-file
invariant-loop-file l = AreIn l.files IsOfWrongSizeAt (IsIn l.initial.found) (IsIn l.found) l.file-index
