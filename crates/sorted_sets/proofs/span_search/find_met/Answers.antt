use Rattle.std.proofs.Common.{◌≡◌, ◌+◌, ◌<◌, ◌≤◌, ℕ, get_or, length, subst, arith}
use Rattle.std.proofs.lemmas.List.{get_or_default}
use Rattle.sorted_sets.proofs.Found.{Entry, last_met, last_there, none_before, none_met}
use Rattle.sorted_sets.proofs.span_search.find_met.Goals as goal

pub returns-in_err-last-clause-none : goal.returns-in_err-last-clause-none
returns-in_err-last-clause-none c =
    let none : c.count_before.result ≡ 0 = omega (arith, c.in_err-last.ensures) in
    let back = subst (λ n. (k : ℕ) (d : Entry) → n ≤ k → k < length c.args.spans.now → c.args.span.now.to ≤ (get_or c.args.spans.now k d).0) none c.count_before.ensures.back in
    rw c.from_residual.ensures (none_before c.args.spans.now c.args.span.now back)

pub returns-then-span-to-clause-some : goal.returns-then-span-to-clause-some
returns-then-span-to-clause-some c =
    let spans = c.args.spans.now in
    let last = c.in_ok-last.last in
    let before = c.in_ok-last.ensures in
    let count : c.count_before.result ≡ last + 1 = omega (arith, before.0, before.1) in
    let within : last < length spans = omega (arith, count, c.count_before.ensures.within) in
    let entry = get_or spans last (0, 0) in
    let at : (d : Entry) → get_or spans last d ≡ entry = λ d. get_or_default spans last d (0, 0) within in
    let there = last_there spans c.requires.rising c.requires.spans c.args.span.now c.count_before.result last count c.count_before.ensures.within c.count_before.ensures.front c.count_before.ensures.back entry.0 entry.1 at in
    let met = last_met spans c.requires.rising c.requires.spans c.args.span.now c.count_before.result last count c.count_before.ensures.within c.count_before.ensures.front c.count_before.ensures.back entry.0 entry.1 at c.if-span-to.true in
    (there, (met.0, met.1))

pub returns-else-span-to-clause-none : goal.returns-else-span-to-clause-none
returns-else-span-to-clause-none c =
    let spans = c.args.spans.now in
    let last = c.in_ok-last.last in
    let before = c.in_ok-last.ensures in
    let count : c.count_before.result ≡ last + 1 = omega (arith, before.0, before.1) in
    let within : last < length spans = omega (arith, count, c.count_before.ensures.within) in
    let entry = get_or spans last (0, 0) in
    let at : (d : Entry) → get_or spans last d ≡ entry = λ d. get_or_default spans last d (0, 0) within in
    none_met spans c.requires.rising c.requires.spans c.args.span.now c.count_before.result last count c.count_before.ensures.within c.count_before.ensures.front c.count_before.ensures.back entry.0 entry.1 at c.if-span-to.false
