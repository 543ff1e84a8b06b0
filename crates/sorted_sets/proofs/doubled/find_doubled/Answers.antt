use Rattle.std.proofs.Common.{◌≡◌, ◌↔◌, ◌≤◌, ◌+◌, ◌∙◌, ℕ, List, ◌++◌, [], ◌∷◌, ap, arith, get_or, rules, subst, sym, take}
use Rattle.std.proofs.lemmas.List.{take_all, take_more}
use Rattle.std.specs.List.Sorted.{IsNonDecreasingBy}
use Rattle.std.proofs.lemmas.List.Sorted.{IsNonDecreasingBy-from_sort_by_key, sum_by-IsPermutation}
use Rattle.sorted_sets.specs.SpanMembers.{HasNumber}
use Rattle.sorted_sets.specs.declared.span.Span.{Span}
use Rattle.sorted_sets.specs.Counts.{EndsAt, counts, has}
use Rattle.sorted_sets.proofs.Counting.{behind_all, ends_more, none_counted}
use Rattle.sorted_sets.proofs.doubled.find_doubled.Goals as goal

pub loop-span-init : goal.loop-span-init
loop-span-init c = (none_counted, λ n. ((λ there. absurd (c.new-found.ensures n there)), λ two. absurd (omega (arith, two))))

pub loop-span-preserved : goal.loop-span-preserved
loop-span-preserved c =
    let spans = c.deref-span-items.result.now in
    let i = c.loop-span.span-index in
    let first : Span = record { from = 0; to = 0 } in
    let span = get_or spans i first in
    let rise : IsNonDecreasingBy (λ (s : Span). s.from) spans = subst (IsNonDecreasingBy (λ (s : Span). s.from)) (sym c.deref-span-items.ensures.value)
    (IsNonDecreasingBy-from_sort_by_key (λ (s : Span). s.from) _ c.in_ok-sort_by_key.ensures.sorted (λ a r q k. search rules)) in
    let behind = behind_all spans i first rise c.loop-span-test.true in
    let more : take i spans ++ span ∷ [] ≡ take (i + 1) spans = sym (take_more spans i first c.loop-span-test.true) in (
      subst (λ (s : List Span). EndsAt c.max-end.result s) more (subst (λ end. EndsAt end (take i spans ++ span ∷ [])) (sym c.max-end.ensures)
          (ends_more (take i spans) span c.loop-span.end behind c.loop-span.invariant.0)),
      subst (λ (s : List Span). (n : ℕ) → HasNumber c.insert_part.new.found n ↔ (2 ≤ counts s n)) more
          (c.in_ok-insert_part.ensures (take i spans) behind c.loop-span.invariant.0 c.loop-span.invariant.1),
    )

pub returns-clause-doubled : goal.returns-clause-doubled
returns-clause-doubled c =
    let spans = c.deref-span-items.result.now in
    let all : take c.loop-span.span-index spans ≡ c.sort_by_key.new.self.items = take_all c.loop-span.span-index spans c.loop-span-test.false ∙ c.deref-span-items.ensures.value in
    λ n. subst (λ count. HasNumber c.loop-span.found n ↔ (2 ≤ count))
    (ap (λ (s : List Span). counts s n) all ∙ sum_by-IsPermutation (has n) c.args.spans.now.items c.sort_by_key.new.self.items c.in_ok-sort_by_key.ensures.permutation)
    (c.loop-span.invariant.1 n)
