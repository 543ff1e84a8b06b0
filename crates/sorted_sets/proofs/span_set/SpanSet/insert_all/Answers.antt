use Rattle.std.proofs.Common.{inl, inr, get_or, ⊎_elim}
use Rattle.std.proofs.lemmas.List.{get_or_default}
use Rattle.sorted_sets.specs.SpanMembers.{IsOf}
use Rattle.sorted_sets.specs.declared.span.Span.{Span}
use Rattle.sorted_sets.proofs.Below.{below_all, below_more}
use Rattle.sorted_sets.proofs.span_set.SpanSet.insert_all.Goals as goal

pub loop-span-preserved : goal.loop-span-preserved
loop-span-preserved c n =
    let spans = c.args.spans.now in
    let number = c.loop-span.span-index in
    let item = get_or spans number (record { from = 0; to = 0 }) in
    let more = below_more spans (λ (span : Span). IsOf span n) number item (λ d. get_or_default spans number d (record { from = 0; to = 0 }) c.loop-span-test.true) in
    let put = c.in_ok-insert.ensures n in
    let before = c.loop-span.invariant n in (
      λ has. ⊎_elim (λ was. ⊎_elim (λ first. inl first) (λ below. inr (more.0 (inl below))) (before.0 was)) (λ of. inr (more.0 (inr of))) (put.0 has),
      λ which. put.1 (⊎_elim (λ first. inl (before.1 (inl first))) (λ below. ⊎_elim (λ low. inl (before.1 (inr low))) (λ of. inr of) (more.1 below)) which),
    )

pub returns : goal.returns
returns c n =
    let all = below_all c.args.spans.now (λ (span : Span). IsOf span n) c.loop-span.span-index c.loop-span-test.false c.loop-span.auto.span-index-end in
    let are = c.loop-span.invariant n in (
      λ has. ⊎_elim (λ first. inl first) (λ below. inr (all.0 below)) (are.0 has),
      λ which. are.1 (⊎_elim (λ first. inl first) (λ any. inr (all.1 any)) which),
    )
