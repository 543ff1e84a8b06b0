use Rattle.std.proofs.Common.{◌≡◌}
use Rattle.page_faults.specs.sorted_sets.Members.{IsIn}
use Rattle.index_row_faults.proofs.Lates.{AreLate, IsTop}
use Rattle.index_row_faults.proofs.late.insert_late.Given as goal

abbrev pub invariant-loop-at : goal.invariant-loop-at
invariant-loop-at l = IsTop l.entries l.at-index l.top × AreLate l.entries (IsIn l.initial.found) (IsIn l.found) l.at-index
