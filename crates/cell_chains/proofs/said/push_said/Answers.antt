use Rattle.std.proofs.Common.{◌≡◌, ◌⊎◌, ◌↔◌, ◌+◌, inl, inr, ℕ, List, OnOk, sym, subst, arith, ⊎_elim}
use Rattle.metadata_cells.specs.Cell.{place_of}
use Rattle.metadata_cells.specs.sorted_sets.SpanMembers.{HasAnyOf}
use Rattle.metadata_cells.specs.sorted_sets.declared.span.Span.{Span}
use Rattle.cell_chains.specs.Says.{Says}
use Rattle.cell_chains.specs.declared.said.Said.{Said}
use Rattle.cell_chains.proofs.Rows.{push_span}
use Rattle.cell_chains.proofs.said.push_said.Goals as goal

pub returns-in-Pages : goal.returns-in-Pages
returns-in-Pages c =
    subst (λ (w : Said). OnOk c.push_pages.result ((n : ℕ) → HasAnyOf c.push_pages.new.spans.items n ↔ (HasAnyOf c.args.spans.now.items n ⊎ Says w c.args.«record».now n))) (sym c.in-Pages.is) c.push_pages.ensures

pub returns-in_ok-push-in-Limits : goal.returns-in_ok-push-in-Limits
returns-in_ok-push-in-Limits c n =
    let old = c.args.spans.now.items in
    let number = c.number_of-from.result in
    let span : Span = record { from = number; to = number + 1 } in
    let value : number ≡ place_of c.args.«record».now = c.number_of-from.ensures.value in
    subst (λ (w : Said). HasAnyOf c.push.new.self.items n ↔ (HasAnyOf old n ⊎ Says w c.args.«record».now n)) (sym c.in-Limits.is)
    (subst (λ (l : List Span). HasAnyOf l n ↔ (HasAnyOf old n ⊎ (place_of c.args.«record».now ≡ n))) (sym c.in_ok-push-in-Limits.ensures.items)
    (let put = push_span old span n in (
      λ has. ⊎_elim (λ was. inl was) (λ (begins, ends). inr (omega (arith, value, begins, ends))) (put.0 has),
      λ which. put.1 (⊎_elim (λ was. inl was) (λ is. inr (omega (arith, value, is), omega (arith, value, is))) which),
    )))
