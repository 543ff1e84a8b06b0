use Rattle.std.proofs.Common.{◌≡◌}
use Rattle.extent_records.specs.cell_records.Records.{kind_of}
use Rattle.extent_records.specs.Writing.{IsMapRecord, hole_kind}
use Rattle.extent_tables.proofs.changes.random_holes.Given as goal

abbrev pub invariant-loop-call : goal.invariant-loop-call
invariant-loop-call l = record { is_map : IsMapRecord l.value; same_kind : kind_of l.value ≡ hole_kind }
