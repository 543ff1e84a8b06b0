use Rattle.std.proofs.Common.{◌≡◌, ◌+◌, ◌-◌, ◌*◌, true, nat_eq, arith, sym, ap, ◌∙◌, subst, ⊎_elim}
use Rattle.std.proofs.lemmas.Nat.Bits.{bit_at_ones}
use Rattle.std.proofs.lemmas.Bool.{cases_lt}
use Rattle.std.specs.Int.{trailing_zeros, bit_at, w64}
use Rattle.free_space.specs.Walk.{is_taken, IsFound}
use Rattle.free_space.proofs.Walks.{begun, ends_found, ends_within, ends_walked, ends_after, used_more, found, word_done, zeros_within, zeros_walked, ones_some, ones_within, next_part}
use Rattle.free_space.proofs.walk.walk_word.Goals as goal

pub returns-then-rest-clause-going : goal.returns-then-rest-clause-going
returns-then-rest-clause-going c _ =
    used_more (is_taken c.args.bytes.now c.args.from) c.args.count c.args.start (64 * c.args.k) (64 * c.args.k + 64) c.requires.walked c.requires.short (omega arith)
    (λ q after before.
    let place : 64 * c.args.k + (q - 64 * c.args.k) ≡ q = omega arith in
    let one : bit_at c.taken_word-rest.result (q - 64 * c.args.k) ≡ 1 =
    ap (λ n. bit_at n (q - 64 * c.args.k)) c.if-rest.true ∙ bit_at_ones 64 (q - 64 * c.args.k) (omega arith) in
    subst (λ x. is_taken c.args.bytes.now c.args.from x ≡ true) place
    (sym (c.taken_word-rest.ensures (q - 64 * c.args.k) (omega arith)) ∙ ap (λ b. nat_eq b 1) one))

pub returns-then-rest-ne0-clause-going : goal.returns-then-rest-ne0-clause-going
returns-then-rest-ne0-clause-going c going =
    let part = begun (is_taken c.args.bytes.now c.args.from) c.args.count c.args.start (64 * c.args.k) c.taken_word-rest.result c.requires.walked c.requires.short c.taken_word-rest.ensures (omega arith) in
    ⊎_elim (λ short. ends_walked part (omega arith) c.if-count-ge64.true c.walk_ends.result short (c.walk_ends.ensures.past short))
    (λ met. absurd (omega (arith, c.walk_ends.ensures.met met, ends_within part (omega arith) c.if-count-ge64.true)))
    (cases_lt (64 * c.args.k + trailing_zeros w64 c.taken_word-rest.result) (c.args.start + c.args.count))

pub returns-then-rest-ne0-clause-found : goal.returns-then-rest-ne0-clause-found
returns-then-rest-ne0-clause-found c ended =
    let part = begun (is_taken c.args.bytes.now c.args.from) c.args.count c.args.start (64 * c.args.k) c.taken_word-rest.result c.requires.walked c.requires.short c.taken_word-rest.ensures (omega arith) in
    ⊎_elim (λ short. absurd (omega (arith, c.if-count-ge64.true, ends_after part (omega arith) c.if-count-ge64.true c.walk_ends.result (c.walk_ends.ensures.past short))))
    (λ met. subst (λ p. IsFound (is_taken c.args.bytes.now c.args.from) c.args.count p) (sym (c.walk_ends.ensures.met met))
    (ends_found part (omega arith) c.if-count-ge64.true met))
    (cases_lt (64 * c.args.k + trailing_zeros w64 c.taken_word-rest.result) (c.args.start + c.args.count))

pub loop-rest-init : goal.loop-rest-init
loop-rest-init c = begun (is_taken c.args.bytes.now c.args.from) c.args.count c.args.start (64 * c.args.k) c.taken_word-rest.result c.requires.walked c.requires.short c.taken_word-rest.ensures (omega arith)

pub loop-rest-preserved : goal.loop-rest-preserved
loop-rest-preserved c = next_part c.loop-rest.invariant (omega arith) c.trailing_ones-used.result c.trailing_ones-used.ensures c.if-start-count.false

pub loop-rest-smaller : goal.loop-rest-smaller
loop-rest-smaller c =
    let some = ones_some c.loop-rest.invariant (omega arith) c.trailing_ones-used.result c.trailing_ones-used.ensures c.if-start-count.false in
    let within = ones_within c.loop-rest.invariant (omega arith) c.trailing_ones-used.result c.trailing_ones-used.ensures c.if-start-count.false in
    omega (arith, some, within)

pub overflow_add-at-in-loop-rest-2 : goal.overflow_add-at-in-loop-rest-2
overflow_add-at-in-loop-rest-2 c =
    let within = ones_within c.loop-rest.invariant (omega arith) c.trailing_ones-used.result c.trailing_ones-used.ensures c.if-start-count.false in
    omega (arith, within)

pub returns-then-start-count-clause-going : goal.returns-then-start-count-clause-going
returns-then-start-count-clause-going c going = absurd (omega (arith, zeros_within c.loop-rest.invariant (omega arith)))

pub returns-then-start-count-clause-found : goal.returns-then-start-count-clause-found
returns-then-start-count-clause-found c _ = found _ _ _ _ (zeros_walked c.loop-rest.invariant (omega arith)) c.if-start-count.true

pub returns-clause-going : goal.returns-clause-going
returns-clause-going c _ = word_done c.loop-rest.invariant c.loop-rest-test.false

pub returns-clause-found : goal.returns-clause-found
returns-clause-found c long = found _ _ _ _ (word_done c.loop-rest.invariant c.loop-rest-test.false) long
