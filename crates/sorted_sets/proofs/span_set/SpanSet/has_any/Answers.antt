use Rattle.std.proofs.Common.{◌≡◌, ◌∙◌, get_or, sym, subst, arith, ⊎_elim}
use Rattle.std.proofs.lemmas.Bool.{cases_lt}
use Rattle.std.proofs.lemmas.List.{get_or_default}
use mathlib.Core.Bool.{false≢true}
use Rattle.sorted_sets.specs.SpanMembers.{IsOf}
use Rattle.sorted_sets.specs.declared.span.Span.{Span}
use Rattle.sorted_sets.proofs.span_set.SpanSet.has_any.Goals as goal

pub loop-span-preserved : goal.loop-span-preserved
loop-span-preserved c k span below at n of has =
    let number = c.loop-span.span-index in
    ⊎_elim (λ low. c.loop-span.invariant k span low at n of has)
    (λ high.
    let here : k ≡ number = omega (arith, below, high) in
    let item = get_or_default c.args.spans.now number (record { from = 0; to = 0 }) span c.loop-span-test.true ∙ subst (λ m. get_or c.args.spans.now m span ≡ span) here at in
    false≢true (sym c.if-has_one.false ∙ c.has_one.ensures.1 (n, subst (λ (s : Span). IsOf s n) (sym item) of, has)))
    (cases_lt k number)

pub returns : goal.returns
returns c = (
  λ yes. absurd (false≢true yes),
  λ (n, (span, (k, within, at), of), has). absurd (c.loop-span.invariant k span (omega (arith, within, c.loop-span-test.false)) at n of has),
)
