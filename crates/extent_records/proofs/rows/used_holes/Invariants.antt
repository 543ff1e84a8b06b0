use Rattle.std.proofs.Common.{◌≡◌, ◌≤◌, length, take}
use Rattle.std.specs.List.{flat_map}
use Rattle.extent_records.specs.Rows.{holes_at}
use Rattle.extent_records.proofs.rows.used_holes.Given as goal

abbrev pub invariant-loop-row : goal.invariant-loop-row
invariant-loop-row l = record {
  same : l.used ≡ length (flat_map holes_at (take l.row-index l.rows));
  small : l.used ≤ l.row-index;
}
