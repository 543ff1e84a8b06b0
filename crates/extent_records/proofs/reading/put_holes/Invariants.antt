use Rattle.std.proofs.Common.{take, true}
use Rattle.std.specs.List.{flat_map}
use Rattle.extent_records.specs.Rows.{Puts, holes_at}
use Rattle.extent_records.proofs.reading.put_holes.Given as goal

abbrev pub invariant-loop-row : goal.invariant-loop-row
invariant-loop-row l = Puts (flat_map holes_at (take l.row-index l.rows)) l.fn.map l.map true
