use Rattle.std.proofs.Common.{ℕ, inl, inr, min, subst, sym}
use Rattle.sorted_sets.specs.SpanMembers.{IsOf}
use Rattle.sorted_sets.specs.declared.span.Span.{Span}
use Rattle.sorted_sets.proofs.Counting.{map_ok, one_span, twice_more}
use Rattle.sorted_sets.proofs.doubled.insert_part.Goals as goal

pub returns : goal.returns
returns c = λ earlier behind ends was.
    let span = c.args.span.now in
    let part : ℕ → Span = λ to. record { from = span.from; to = to } in
    map_ok c.insert_all.result
    (λ has n. let more = twice_more earlier span c.args.end behind ends n in
    let one = one_span (part c.min.result) n in
    let to_part : IsOf (part c.min.result) n → IsOf (part (min span.to c.args.end)) n = subst (λ to. IsOf (part to) n) c.min.ensures in
    let from_part : IsOf (part (min span.to c.args.end)) n → IsOf (part c.min.result) n = subst (λ to. IsOf (part to) n) (sym c.min.ensures) in (
      (λ there. more.1 (elim ((has n).0 there) [ inl old ↦ inl ((was n).0 old) | inr any ↦ inr (to_part (one.0 any)) ])),
      λ two. (has n).1 (elim (more.0 two) [ inl old ↦ inl ((was n).1 old) | inr is ↦ inr (one.1 (from_part is)) ]),
    ))
    c.insert_all.ensures
