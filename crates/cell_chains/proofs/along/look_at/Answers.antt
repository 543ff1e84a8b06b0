use Rattle.std.proofs.Common.{◌↔◌, inl, inr, ℕ, List, sym, subst, ⊎_elim}
use Rattle.metadata_cells.specs.sorted_sets.SpanMembers.{HasAnyOf}
use Rattle.metadata_cells.specs.sorted_sets.declared.span.Span.{Span}
use Rattle.cell_chains.specs.Says.{SaysAt}
use Rattle.cell_chains.proofs.along.look_at.Goals as goal

pub returns-clause-found : goal.returns-clause-found
returns-clause-found g c home =
    let pages = g.M.MetaPages.pages c.args.pages.now in
    let said : (n : ℕ) → HasAnyOf c.deref.result.now n ↔ SaysAt pages c.args.what c.args.at.now n =
    λ n. subst (λ (l : List Span). HasAnyOf l n ↔ SaysAt pages c.args.what c.args.at.now n) (sym c.deref.ensures.value) (c.in_ok-spans.ensures n) in
    let put = c.in_ok-insert_met.ensures home in (
      λ is. ⊎_elim (λ was. inl was) (λ (same, (n, any, has)). inr (same, (n, (said n).0 any, has))) (put.0 is),
      λ which. put.1 (⊎_elim (λ was. inl was) (λ (same, (n, says, has)). inr (same, (n, (said n).1 says, has))) which),
    )

pub returns-clause-said : goal.returns-clause-said
returns-clause-said g c n =
    let pages = g.M.MetaPages.pages c.args.pages.now in
    let said = subst (λ (l : List Span). HasAnyOf l n ↔ SaysAt pages c.args.what c.args.at.now n) (sym c.deref-2.ensures.value) (c.in_ok-spans.ensures n) in
    let put = c.in_ok-insert_all.ensures n in (
      λ has. ⊎_elim (λ was. inl was) (λ any. inr (said.0 any)) (put.0 has),
      λ which. put.1 (⊎_elim (λ was. inl was) (λ says. inr (said.1 says)) which),
    )
