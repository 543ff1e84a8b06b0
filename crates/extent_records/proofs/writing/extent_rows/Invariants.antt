use Rattle.std.proofs.Common.{◌≡◌, ◌++◌, ◌-◌, map, replicate, take, length}
use Rattle.extent_records.specs.Writing.{extent_of, no_extent}
use Rattle.extent_records.proofs.writing.extent_rows.Given as goal

abbrev pub invariant-loop-i : goal.invariant-loop-i
invariant-loop-i g l = record {
  full : length l.rows ≡ g.row.N;
  read : l.rows ≡ map extent_of (take l.i l.runs) ++ replicate (g.row.N - l.i) no_extent;
}
