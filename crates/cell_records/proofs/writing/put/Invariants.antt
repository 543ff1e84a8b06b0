use Rattle.std.proofs.Common.{◌≡◌, ◌++◌, sum, take, drop}
use Rattle.cell_records.specs.Records.{spelled}
use Rattle.cell_records.proofs.writing.put.Given as goal

abbrev pub invariant-loop-i : goal.invariant-loop-i
invariant-loop-i l = record { counted : l.at ≡ sum (take l.i l.widths); written : l.out ≡ spelled (take l.i l.widths) (take l.i l.numbers) ++ drop l.at l.initial.out }
