use Rattle.std.proofs.Common.{◌↔◌, ◌⊎◌, ◌++◌, inl, inr, List, subst, sym, ⊎_elim}
use Rattle.std.proofs.lemmas.List.Sorted.{Contains-permutation, IsPermutation-sym}
use Rattle.metadata_cells.specs.sorted_sets.SpanMembers.{HasAnyOf, HasNumber}
use Rattle.metadata_cells.specs.sorted_sets.declared.span.Span.{Span}
use Rattle.cell_chains.specs.Runs.{IsSaid, on}
use Rattle.cell_chains.proofs.CountRuns.{owned_all}
use Rattle.cell_chains.proofs.pages.find_owned.Goals as goal

pub returns : goal.returns
returns c n =
    let first = c.push_runs.new.spans.items in
    let sorted = c.sort_by_key.new.self.items in
    let there = c.in_ok-sort_by_key.ensures.permutation in
    let back = IsPermutation-sym first sorted there in
    let put = subst (λ (l : List Span). HasNumber c.insert_all.new.self n ↔ (HasNumber c.new-found.result n ⊎ HasAnyOf l n)) c.deref.ensures.value (c.in_ok-insert_all.ensures n) in
    let all = subst (λ (l : List Span). HasAnyOf l n ↔ (HasAnyOf c.args.spans.items n ⊎ IsSaid c.args.runs.now (on c.args.vol n))) (sym c.in_ok-push_runs.ensures) (owned_all c.args.spans.items c.args.vol c.args.runs.now n) in (
      λ has. ⊎_elim (λ before. absurd (c.new-found.ensures n before)) (λ (span, among, of). all.0 (span, Contains-permutation sorted first span back among, of)) (put.0 has),
      λ which. put.1 (inr (let (span, among, of) = all.1 which in (span, Contains-permutation first sorted span there among, of))),
    )
