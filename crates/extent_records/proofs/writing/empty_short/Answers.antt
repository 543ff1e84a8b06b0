use Rattle.std.proofs.Common.{arith}
use Rattle.extent_records.proofs.WritingLemmas.{no_short_extents, no_short_dense}
use Rattle.extent_records.proofs.writing.empty_short.Goals as goal

pub returns-in-Three-clause-is_map : goal.returns-in-Three-clause-is_map
returns-in-Three-clause-is_map c = record { has_rows = omega arith; allowed = no_short_extents; placed = tt; once = λ p. omega arith }

pub returns-in-Four-clause-is_map : goal.returns-in-Four-clause-is_map
returns-in-Four-clause-is_map c = record { has_rows = omega arith; allowed = no_short_dense; placed = tt; once = λ p. omega arith }
