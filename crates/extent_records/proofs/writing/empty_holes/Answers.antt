use Rattle.std.proofs.Common.{arith}
use Rattle.extent_records.proofs.WritingLemmas.{no_hole_rows}
use Rattle.extent_records.proofs.writing.empty_holes.Goals as goal

pub returns-clause-is_map : goal.returns-clause-is_map
returns-clause-is_map c = record { has_rows = omega arith; allowed = no_hole_rows; placed = tt; once = λ p. omega arith }
