use Rattle.fileset_shapes.specs.sorted_sets.Members.{IsIn}
use Rattle.directory_faults.specs.Lost.{LeadsLostTwice}
use Rattle.directory_faults.proofs.Inserted.{AreIn}
use Rattle.directory_faults.proofs.lost.insert_lost_twice.Given as goal

abbrev pub invariant-loop-row : goal.invariant-loop-row
invariant-loop-row l = AreIn l.rows (LeadsLostTwice l.kinds l.counts) (IsIn l.initial.found) (IsIn l.found) l.row-index
