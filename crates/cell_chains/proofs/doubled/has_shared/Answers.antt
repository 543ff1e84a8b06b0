use Rattle.std.proofs.Common.{ℕ, ◌↔◌, IsTrue, sym, subst}
use Rattle.metadata_cells.specs.sorted_sets.SpanMembers.{HasNumber, IsOf}
use Rattle.metadata_cells.specs.sorted_sets.declared.span.Span.{Span}
use Rattle.cell_chains.proofs.CountRuns.{page_by_number}
use Rattle.cell_chains.proofs.doubled.has_shared.Goals as goal

pub returns : goal.returns
returns c =
    let all = page_by_number (HasNumber c.args.found.now) c.args.run.now in
    let has = subst (λ (s : Span). IsTrue c.has_one.result ↔ ((n : ℕ) × IsOf s n × HasNumber c.args.found.now n)) c.span_of.ensures c.has_one.ensures in
    ((λ yes. all.0 (has.0 yes)), (λ some. has.1 (all.1 some)))
