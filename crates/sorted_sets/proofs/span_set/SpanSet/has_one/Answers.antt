use Rattle.std.proofs.Common.{◌≡◌, ◌<◌, ◌≤◌, ◌↔◌, ℕ, List, Some, IfSome, IfNone, IsTrue, sym, subst}
use Rattle.sorted_sets.specs.Rising.{value_at}
use Rattle.sorted_sets.specs.Spans.{HasIn, Meets}
use Rattle.sorted_sets.specs.declared.span.Span.{Span}
use Rattle.sorted_sets.proofs.Found.{Entry, one_decides}
use Rattle.sorted_sets.proofs.span_set.SpanSet.has_one.Goals as goal

pub returns-then-span : goal.returns-then-span
returns-then-span c =
    let spans = c.args.self.now.spans.items in
    let span = c.args.span.now in
    let same = c.deref.ensures.value in
    let met = c.find_met.result in
    subst (λ b. IsTrue b ↔ ((n : ℕ) × ((span.from ≤ n) × (n < span.to)) × HasIn spans n)) (sym c.is_some.ensures)
    (one_decides spans c.args.self.now.apart span c.if-span.true met
    (subst (λ (l : List Entry). IfSome met (λ m. (value_at l m.from ≡ Some m.to) × Meets span m)) same c.find_met.ensures.some)
    (subst (λ (l : List Entry). IfNone met ((m : Span) → value_at l m.from ≡ Some m.to → ¬ Meets span m)) same c.find_met.ensures.none))
