use Rattle.std.proofs.Common.{◌↔◌, ◌++◌, ◌≤◌, ◌≡◌, ℕ, List, subst}
use Rattle.metadata_cells.specs.sorted_sets.SpanMembers.{HasNumber}
use Rattle.metadata_cells.specs.sorted_sets.declared.span.Span.{Span}
use Rattle.metadata_cells.specs.sorted_sets.Counts.{counts}
use Rattle.cell_chains.specs.Runs.{page_in}
use Rattle.cell_chains.proofs.CountRuns.{doubled_is}
use Rattle.cell_chains.proofs.doubled.find_shared.Goals as goal

pub returns : goal.returns
returns c apart run page among on is =
    let number = page_in run page in
    let all = doubled_is c.args.spans.items c.args.runs.now apart c.args.vol run page among on is in
    let found = subst (λ (l : List Span). HasNumber c.in_ok-found.found number ↔ (2 ≤ counts l number)) c.in_ok-push_runs.ensures (c.in_ok-found.ensures.doubled number) in
    ((λ has. all.0 (found.0 has)), (λ which. found.1 (all.1 which)))
