use Rattle.free_cells.specs.VolumeTable.{as_kept}
use Rattle.free_cells.proofs.Kept.{IsPartMapped}
use Rattle.free_cells.proofs.cells.FreeCells.take_back.Given as goal

abbrev pub invariant-loop-volume : goal.invariant-loop-volume
invariant-loop-volume l = IsPartMapped as_kept l.initial.volume-items l.volume-items l.volume-index
