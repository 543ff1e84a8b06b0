use Rattle.fileset_shapes.specs.sorted_sets.Members.{IsIn}
use Rattle.directory_faults.proofs.NamesTwice.{AreLaterIn}
use Rattle.directory_faults.proofs.Noted.{AreNoted}
use Rattle.directory_faults.proofs.names.insert_names_twice.Given as goal

abbrev pub invariant-loop-k : goal.invariant-loop-k
invariant-loop-k l = AreLaterIn l.rows (IsIn l.initial.found) (IsIn l.found) l.k × AreNoted l.names l.rows l.k
