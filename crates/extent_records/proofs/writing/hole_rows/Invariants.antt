use Rattle.std.proofs.Common.{◌≡◌, ◌++◌, ◌-◌, map, replicate, take, length}
use Rattle.extent_records.specs.Writing.{hole_of, no_hole}
use Rattle.extent_records.proofs.writing.hole_rows.Given as goal

abbrev pub invariant-loop-i : goal.invariant-loop-i
invariant-loop-i g l = record {
  full : length l.rows ≡ g.row.N;
  read : l.rows ≡ map hole_of (take l.i l.runs) ++ replicate (g.row.N - l.i) no_hole;
}
