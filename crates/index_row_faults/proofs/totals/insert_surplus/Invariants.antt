use Rattle.page_faults.specs.sorted_sets.Members.{IsIn}
use Rattle.directory_faults.proofs.Inserted.{AreIn}
use Rattle.index_row_faults.specs.Totals.{IsSurplusAt}
use Rattle.index_row_faults.proofs.totals.insert_surplus.Given as goal

abbrev pub invariant-loop-at : goal.invariant-loop-at
invariant-loop-at l = AreIn l.entries (IsSurplusAt l.in_rows l.in_entries) (IsIn l.initial.found) (IsIn l.found) l.at-index
