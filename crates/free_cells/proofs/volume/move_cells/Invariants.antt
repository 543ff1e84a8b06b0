use Rattle.std.proofs.Common.{◌≡◌, ◌++◌, take, vec_capacity}
use Rattle.free_cells.proofs.volume.move_cells.Given as goal

abbrev pub invariant-loop-cell : goal.invariant-loop-cell
invariant-loop-cell l = record {
  moved : l.to.items ≡ l.initial.to.items ++ take l.cell-index l.cell-items;
  room : vec_capacity l.to ≡ vec_capacity l.initial.to;
}
