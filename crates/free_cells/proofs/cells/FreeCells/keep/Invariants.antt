use Rattle.free_cells.specs.VolumeTable.{with_kept}
use Rattle.free_cells.proofs.Kept.{IsPartMapped}
use Rattle.free_cells.proofs.cells.FreeCells.keep.Given as goal

abbrev pub invariant-loop-volume : goal.invariant-loop-volume
invariant-loop-volume l = IsPartMapped with_kept l.initial.volume-items l.volume-items l.volume-index
