use Rattle.std.proofs.Common.{length, ◌-◌, ◌≤◌}
use Rattle.metadata_cells.proofs.Found.{LeavesOf}
use Rattle.metadata_cells.proofs.records.first_record.Given as goal

abbrev pub invariant-loop-at : goal.invariant-loop-at
invariant-loop-at l = (l.at ≤ length l.bytes) × LeavesOf l.bytes l.kind l.at

abbrev pub decreases-loop-at : goal.decreases-loop-at
decreases-loop-at l = length l.bytes - l.at
