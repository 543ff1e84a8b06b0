use Rattle.std.proofs.Common.{inl, inr, List, arith, subst, ⊎_elim}
use Rattle.tag_faults.specs.sorted_sets.SpanMembers.{HasAnyOf}
use Rattle.tag_faults.specs.sorted_sets.declared.span.Span.{Span}
use Rattle.page_faults.proofs.spans.taken_spans.Goals as goal

pub returns : goal.returns
returns c n =
    let first = c.in_ok-push_first.ensures n in
    let log = c.in_ok-push_log.ensures n in
    let homes = c.in_ok-push_pages.ensures n in (
      λ is. ⊎_elim
          (λ in_log. ⊎_elim
          (λ in_first. ⊎_elim (λ none. absurd (let (span, (k, within, at), of) = subst (λ (l : List Span). HasAnyOf l n) c.new-spans.ensures.items none in omega (arith, within))) (λ low. inl (inl low)) (first.0 in_first))
          (λ of_log. inl (inr of_log)) (log.0 in_log))
          (λ among. inr among) (homes.0 is),
      λ taken. homes.1 (⊎_elim
          (λ reserved. ⊎_elim (λ low. inl (log.1 (inl (first.1 (inr low))))) (λ of_log. inl (log.1 (inr of_log))) reserved)
          (λ among. inr among) taken),
    )
