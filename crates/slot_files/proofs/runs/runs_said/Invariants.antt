use Rattle.std.proofs.Common.{◌≡◌, take}
use Rattle.index_row_faults.specs.extent_records.Rows.{runs_of}
use Rattle.slot_files.specs.Said.{runs_there}
use Rattle.slot_files.proofs.runs.runs_said.Given as goal

abbrev pub invariant-loop-value : goal.invariant-loop-value
invariant-loop-value l = runs_there l.runs.items ≡ runs_of (take l.value-index l.records)
