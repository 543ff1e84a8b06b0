use Rattle.std.proofs.Common.{◌≡◌, ◌+◌, ◌≤◌, ◌||◌, length, vec_capacity}
use Rattle.std.specs.List.{IsDistinct}
use Rattle.free_cells.specs.declared.volume.FreeCell.{FreeCell}
use Rattle.free_cells.specs.VolumeTable.{same_cell, is_among}
use Rattle.free_cells.proofs.Among.{is_free_below}
use Rattle.free_cells.proofs.volume.push_free.Given as goal

abbrev pub invariant-loop-cell : goal.invariant-loop-cell
invariant-loop-cell l = record {
  apart : IsDistinct same_cell l.free.items;
  joined : (f : FreeCell) → is_among l.free.items f ≡ (is_among l.initial.free.items f || is_free_below l.cell l.number l.page f);
  few : length l.free.items ≤ length l.initial.free.items + l.cell;
  room : vec_capacity l.free ≡ vec_capacity l.initial.free;
}
