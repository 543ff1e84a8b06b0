use Rattle.std.proofs.Common.{◌-◌, ◌≤◌, length}
use Rattle.directory_rows.specs.Directory.{row_pages}
use Rattle.directory_rows.specs.Places.{NoneBelow}
use Rattle.directory_rows.proofs.look.place_by_index.Given as goal

abbrev pub invariant-loop-number : goal.invariant-loop-number
invariant-loop-number g l = record {
  none : NoneBelow l.name (row_pages (g.S.BitfileSet.files l.set) l.dir) l.from;
  within : l.from ≤ length (row_pages (g.S.BitfileSet.files l.set) l.dir);
}

abbrev pub decreases-loop-number : goal.decreases-loop-number
decreases-loop-number g l = length (row_pages (g.S.BitfileSet.files l.set) l.dir) - l.from
