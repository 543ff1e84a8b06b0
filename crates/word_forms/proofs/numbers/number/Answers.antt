use Rattle.std.proofs.Common.{◌≡◌, ◌+◌, ◌*◌, ◌-◌, ◌^◌, true, get_or, arith, refl, sym, ◌∙◌}
use Rattle.std.specs.Char.{is_ascii_digit}
use Rattle.std.specs.List.{list_all}
use Rattle.std.specs.Str.Parse.{digits_value}
use Rattle.std.proofs.lemmas.Grind.{common_steps}
use Rattle.std.proofs.lemmas.List.{take_all}
use Rattle.std.proofs.lemmas.List.Folds.{list_all_at}
use Rattle.word_forms.proofs.NumberLemmas.{number-some, number-empty, number-other, number-passed, digits-step}
use Rattle.word_forms.proofs.numbers.number.Goals as goal

pub returns-then-is_empty : goal.returns-then-is_empty
returns-then-is_empty c = sym (number-empty (2 ^ 64) c.args.word.now (grind (arith, common_steps)))

pub returns-then-not-is_ascii_digit : goal.returns-then-not-is_ascii_digit
returns-then-not-is_ascii_digit c =
    sym (number-other (2 ^ 64) c.args.word.now
    (list_all_at is_ascii_digit c.args.word.now c.loop-byte.byte-index 0 c.loop-byte-test.true
    (sym c.is_ascii_digit.ensures.value ∙ c.if-not-is_ascii_digit.true)))

pub returns-in_err-n : goal.returns-in_err-n
returns-in_err-n c =
    let next = digits-step c.args.word.now c.loop-byte.byte-index c.loop-byte.n (get_or c.args.word.now c.loop-byte.byte-index 0 - 48) c.loop-byte-test.true
    c.loop-byte.invariant.0 (sym c.is_ascii_digit.ensures.value ∙ c.if-not-is_ascii_digit.false) c.loop-byte.invariant.1 refl in
    c.from_residual.ensures
    ∙ sym (number-passed (2 ^ 64) c.args.word.now (c.loop-byte.byte-index + 1) (c.loop-byte.n * 10 + (get_or c.args.word.now c.loop-byte.byte-index 0 - 48)) next.1 (omega (arith, c.in_err-n.ensures)))

pub loop-byte-preserved : goal.loop-byte-preserved
loop-byte-preserved c =
    let next = digits-step c.args.word.now c.loop-byte.byte-index c.loop-byte.n (get_or c.args.word.now c.loop-byte.byte-index 0 - 48) c.loop-byte-test.true
    c.loop-byte.invariant.0 (sym c.is_ascii_digit.ensures.value ∙ c.if-not-is_ascii_digit.false) c.loop-byte.invariant.1 refl in
    (next.0, grind (arith, c.in_ok-n.ensures, next.1), grind (arith, c.in_ok-n.ensures))

pub returns : goal.returns
returns c =
    let all = take_all c.loop-byte.byte-index c.args.word.now (omega arith) in
    let digits : list_all is_ascii_digit c.args.word.now ≡ true = rw (all) at c.loop-byte.invariant.0 in
    let value : c.loop-byte.n ≡ digits_value 10 c.args.word.now = rw (all) at c.loop-byte.invariant.1 in
    rw value (sym (number-some (2 ^ 64) c.args.word.now (grind (arith, common_steps)) digits (rw (← value) c.loop-byte.invariant.2)))
