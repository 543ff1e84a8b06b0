use Rattle.std.proofs.Common.{◌≡◌, ◌∙◌, ◌⊎◌, ◌+◌, ◌≤◌, inl, inr, true, List, Some, is_some, if◌then◌else◌, vec_len, ap, subst, arith, ⊎_elim}
use Rattle.std.proofs.lemmas.Bool.{cases_lt}
use Rattle.sorted_sets.specs.Rising.{value_at}
use Rattle.sorted_sets.proofs.Found.{Entry, taken_same, taken_spans}
use Rattle.sorted_sets.proofs.span_search.take_met.Goals as goal

pub returns : goal.returns
returns c =
    let old = c.args.spans.now in
    let new = c.take.new.entries in
    let span = c.args.span.now in
    let met = c.in_ok-met.met in
    let some = c.in_ok-met.ensures.some in
    let there : value_at old.items met.from ≡ Some met.to = subst (λ (l : List Entry). value_at l met.from ≡ Some met.to) c.deref.ensures.value some.0 in
    let least : (c.min.result ≤ span.from) × (c.min.result ≤ met.from) × ((c.min.result ≡ span.from) ⊎ (c.min.result ≡ met.from)) =
    (omega (arith, c.min.ensures), omega (arith, c.min.ensures), ⊎_elim (λ low. inl (omega (arith, c.min.ensures, low))) (λ high. inr (omega (arith, c.min.ensures, high))) (cases_lt span.from met.from)) in
    let most : (span.to ≤ c.max.result) × (met.to ≤ c.max.result) × ((c.max.result ≡ span.to) ⊎ (c.max.result ≡ met.to)) =
    (omega (arith, c.max.ensures), omega (arith, c.max.ensures), ⊎_elim (λ low. inr (omega (arith, c.max.ensures, low))) (λ high. inl (omega (arith, c.max.ensures, high))) (cases_lt span.to met.to)) in
    let taken : is_some c.take.result ≡ true = ap is_some (c.take.ensures.taken ∙ there) in
    let len : vec_len new + 1 ≡ vec_len old = subst (λ b. vec_len new + (if b then 1 else 0) ≡ vec_len old) taken c.take.ensures.len in
    record {
      rising = c.take.ensures.rising;
      spans = taken_spans old.items new.items c.requires.spans span met c.requires.some there some.1 c.take.ensures.items;
      both = (omega (arith, least.0, most.0, c.requires.some), λ n. taken_same old.items new.items c.requires.spans span met c.requires.some there some.1 c.take.ensures.items c.min.result c.max.result n least most);
      none = tt;
      fewer = λ _. omega (arith, len);
    }
