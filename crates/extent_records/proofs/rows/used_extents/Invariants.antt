use Rattle.std.proofs.Common.{◌≡◌, ◌≤◌, length, take}
use Rattle.std.specs.List.{flat_map}
use Rattle.extent_records.specs.Rows.{runs_at}
use Rattle.extent_records.proofs.rows.used_extents.Given as goal

abbrev pub invariant-loop-row : goal.invariant-loop-row
invariant-loop-row l = record {
  same : l.used ≡ length (flat_map runs_at (take l.row-index l.rows));
  small : l.used ≤ l.row-index;
}
