use Rattle.std.proofs.Common.{◌≡◌, ◌≤◌, false}
use Rattle.metadata_cells.specs.domain_base.declared.place.CellAt.{CellAt}
use Rattle.free_cells.specs.Cells.{can_take}
use Rattle.free_cells.proofs.cells.FreeCells.take_anywhere.Given as goal

abbrev pub invariant-loop-index : goal.invariant-loop-index
invariant-loop-index l = record {
  same : l.self ≡ l.initial.self;
  none : (at : CellAt) → at.vol ≤ l.index → can_take l.self at ≡ false;
}
