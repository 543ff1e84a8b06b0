use Rattle.std.proofs.Common.{◌≡◌, ◌++◌, take}
use Rattle.std.specs.List.{flat_map}
use Rattle.index_row_faults.specs.extent_records.Rows.{runs_at}
use Rattle.slot_files.specs.Said.{runs_there}
use Rattle.slot_files.proofs.runs.push_extents.Given as goal

abbrev pub invariant-loop-row : goal.invariant-loop-row
invariant-loop-row l = runs_there l.runs.items ≡ runs_there l.initial.runs.items ++ flat_map runs_at (take l.row-index l.rows)
