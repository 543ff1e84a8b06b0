use Rattle.std.proofs.Common.{arith}
use Rattle.extent_records.proofs.WritingLemmas.{no_extents, no_dense_extents}
use Rattle.extent_records.proofs.writing.empty_extents.Goals as goal

pub returns-in-Three-clause-is_map : goal.returns-in-Three-clause-is_map
returns-in-Three-clause-is_map c = record { has_rows = omega arith; allowed = no_extents; placed = tt; once = λ p. omega arith }

pub returns-in-Four-clause-is_map : goal.returns-in-Four-clause-is_map
returns-in-Four-clause-is_map c = record { has_rows = omega arith; allowed = no_dense_extents; placed = tt; once = λ p. omega arith }
