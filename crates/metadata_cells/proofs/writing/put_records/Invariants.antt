use Rattle.std.proofs.Common.{◌≡◌, ◌++◌, length, take, drop}
use Rattle.metadata_cells.specs.Cell.{spellings}
use Rattle.metadata_cells.proofs.writing.put_records.Given as goal

abbrev pub invariant-loop-value : goal.invariant-loop-value
invariant-loop-value l = record { counted : l.at ≡ length (spellings (take l.value-index l.records)); written : l.out ≡ spellings (take l.value-index l.records) ++ drop l.at l.initial.out }
