use Rattle.std.proofs.Common.{◌≡◌, replicate}
use Rattle.free_cells.specs.VolumeTable.{no_table}
use Rattle.free_cells.proofs.cells.FreeCells.new.Given as goal

abbrev pub invariant-loop : goal.invariant-loop
invariant-loop l = l.volumes.items ≡ replicate l.counter no_table
