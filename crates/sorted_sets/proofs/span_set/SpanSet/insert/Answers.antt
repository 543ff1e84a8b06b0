use Rattle.std.proofs.Common.{◌≡◌, ◌↔◌, ◌⊎◌, ◌<◌, ◌≤◌, ℕ, List, Some, sym, subst}
use Rattle.sorted_sets.specs.Rising.{value_at}
use Rattle.sorted_sets.specs.SpanMembers.{HasNumber, IsOf}
use Rattle.sorted_sets.specs.Spans.{HasIn, Meets}
use Rattle.sorted_sets.specs.declared.span.Span.{Span}
use Rattle.sorted_sets.proofs.Found.{Entry, has_after, on_ok, spans_after}
use Rattle.sorted_sets.proofs.span_set.SpanSet.insert.Goals as goal

pub loop-both-preserved : goal.loop-both-preserved
loop-both-preserved c =
    let both = c.in-Some.ensures.both in
    record {
      some = both.0;
      same = λ n. (λ which. (c.loop-both.invariant.same n).0 ((both.1 n).0 which), λ which. (both.1 n).1 ((c.loop-both.invariant.same n).1 which));
    }

pub invariant_of-self-2-clause-apart : goal.invariant_of-self-2-clause-apart
invariant_of-self-2-clause-apart c =
    let spans = c.take_met.new.spans.items in
    let none = c.in_default.ensures.none in
    spans_after c.put.result spans c.put.new.entries.items c.in_default.ensures.spans c.loop-both.whole c.loop-both.invariant.some
    (subst (λ (l : List Entry). (met : Span) → value_at l met.from ≡ Some met.to → ¬ Meets c.loop-both.whole met) (sym none.0) none.1) c.put.ensures.ok c.put.ensures.err

pub returns : goal.returns
returns c =
    let spans = c.take_met.new.spans.items in
    let new = c.put.new.entries.items in
    let whole = c.loop-both.whole in
    let none = c.in_default.ensures.none in
    on_ok c.put.result ((n : ℕ) → HasIn new n ↔ (HasIn spans n ⊎ ((whole.from ≤ n) × (n < whole.to)))) ((n : ℕ) → HasIn new n ↔ (HasNumber c.args.self.now n ⊎ IsOf c.args.span.now n))
    (λ put n.
    let same = subst (λ (l : List Entry). (HasIn l n ⊎ IsOf whole n) ↔ (HasNumber c.args.self.now n ⊎ IsOf c.args.span.now n)) (sym none.0) (c.loop-both.invariant.same n) in
    (λ has. same.0 ((put n).0 has), λ which. (put n).1 (same.1 which)))
    (has_after c.put.result spans new c.in_default.ensures.spans whole c.loop-both.invariant.some
    (subst (λ (l : List Entry). (met : Span) → value_at l met.from ≡ Some met.to → ¬ Meets whole met) (sym none.0) none.1) c.put.ensures.ok)
