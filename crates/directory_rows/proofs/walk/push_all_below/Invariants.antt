use Rattle.std.proofs.Common.{◌≡◌, ◌++◌, map, take}
use Rattle.directory_rows.specs.Ways.{below}
use Rattle.directory_rows.proofs.walk.push_all_below.Given as goal

abbrev pub invariant-loop-row : goal.invariant-loop-row
invariant-loop-row l = l.found.items ≡ l.fn.found.items ++ map (below l.path) (take l.row-index l.rows)
