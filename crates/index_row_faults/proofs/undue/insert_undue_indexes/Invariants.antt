use Rattle.page_faults.specs.sorted_sets.Members.{IsIn}
use Rattle.directory_faults.proofs.Inserted.{AreIn}
use Rattle.index_row_faults.specs.Undue.{IsUndueAt}
use Rattle.index_row_faults.proofs.undue.insert_undue_indexes.Given as goal

abbrev pub invariant-loop-index : goal.invariant-loop-index
invariant-loop-index l = AreIn l.indexes IsUndueAt (IsIn l.initial.found) (IsIn l.found) l.index-index
