use Rattle.std.proofs.Common.{◌≡◌, false}
use Rattle.extent_records.specs.cell_records.Records.{kind_of}
use Rattle.extent_records.specs.Writing.{IsMapRecord, is_of_holes}
use Rattle.extent_tables.proofs.writing.step_all.Given as goal

abbrev pub invariant-loop-word : goal.invariant-loop-word
invariant-loop-word l = record { is_map : IsMapRecord l.value; extents : is_of_holes (kind_of l.value) ≡ false }
