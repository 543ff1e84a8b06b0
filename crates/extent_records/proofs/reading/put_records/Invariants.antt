use Rattle.std.proofs.Common.{take, true}
use Rattle.std.specs.List.{flat_map}
use Rattle.extent_records.specs.Rows.{Puts, runs_in}
use Rattle.extent_records.proofs.reading.put_records.Given as goal

abbrev pub invariant-loop-value : goal.invariant-loop-value
invariant-loop-value l = Puts (flat_map runs_in (take l.value-index l.records)) l.fn.map l.map true
