use Rattle.std.proofs.Common.{◌↔◌, ◌⊎◌, ℕ}
use Rattle.metadata_cells.specs.cell_records.declared.record.Record.{Record}
use Rattle.metadata_cells.specs.sorted_sets.SpanMembers.{HasAnyOf}
use Rattle.metadata_cells.proofs.OfSortedSets.Below.{IsBelow}
use Rattle.cell_chains.specs.Says.{Says}
use Rattle.cell_chains.proofs.said.push_all.Given as goal

abbrev pub invariant-loop-one : goal.invariant-loop-one
invariant-loop-one l = (n : ℕ) → HasAnyOf l.spans.items n ↔ (HasAnyOf l.initial.spans.items n ⊎ IsBelow l.records (λ (r : Record). Says l.what r n) l.one-index)
