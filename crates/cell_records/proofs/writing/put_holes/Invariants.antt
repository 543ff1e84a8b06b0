use Rattle.std.proofs.Common.{◌≡◌, ◌+◌, ◌*◌, ◌++◌, ◌∷◌, length, take, drop}
use Rattle.std.specs.List.{flat_map}
use Rattle.cell_records.specs.Layouts.{with_head, repeated, hole_widths}
use Rattle.cell_records.specs.Records.{spelled, hole_numbers}
use Rattle.cell_records.proofs.writing.put_holes.Given as goal

abbrev pub invariant-loop-row : goal.invariant-loop-row
invariant-loop-row l = record {
  counted : l.at ≡ 4 + 8 * l.row-index;
  written : l.out ≡ spelled (with_head (repeated l.row-index hole_widths)) (l.kind ∷ 0 ∷ (4 + 8 * length l.rows) ∷ flat_map hole_numbers (take l.row-index l.rows)) ++ drop l.at l.fn.out;
}
