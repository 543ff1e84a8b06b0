use Rattle.std.proofs.Common.{◌<◌, ◌↔◌, ◌⊎◌, ℕ, length}
use Rattle.sorted_sets.specs.SpanMembers.{HasNumber, IsOf}
use Rattle.sorted_sets.proofs.span_set.SpanSet.insert.Given as goal

abbrev pub invariant-loop-both : goal.invariant-loop-both
invariant-loop-both l = record {
  some : l.whole.from < l.whole.to;
  same : (n : ℕ) → (HasNumber l.self n ⊎ IsOf l.whole n) ↔ (HasNumber l.initial.self n ⊎ IsOf l.span n);
}

abbrev pub decreases-loop-both : goal.decreases-loop-both
decreases-loop-both l = length l.self.spans.items
