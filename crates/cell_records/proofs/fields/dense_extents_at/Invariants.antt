use Rattle.std.proofs.Common.{◌≡◌, length, take}
use Rattle.cell_records.specs.Fields.{dense_extents}
use Rattle.cell_records.proofs.fields.dense_extents_at.Given as goal

abbrev pub invariant-loop-i : goal.invariant-loop-i
invariant-loop-i g l = record { full : length l.rows ≡ g.row.N; read : take l.i l.rows ≡ dense_extents l.i l.at l.bytes }
