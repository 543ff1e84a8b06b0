use Rattle.std.proofs.Common.{◌≡◌, ℕ, true, false, sym, ◌∙◌, ap, arith}
use Rattle.std.proofs.lemmas.Bool.Decides.{nat_tests}
use Rattle.run_parts.specs.Usage.{are_plain_digits}
use Rattle.run_parts.proofs.WordLemmas.{asked_pages-other, asked_pages-parsed, asked_pages-unparsed}
use Rattle.run_parts.proofs.words.pages_in.Goals as goal

pub returns-then-not-are_plain_digits : goal.returns-then-not-are_plain_digits
returns-then-not-are_plain_digits c =
    let digits : are_plain_digits c.args.word.now ≡ false = ap are_plain_digits (sym c.as_bytes.ensures.value) ∙ sym c.are_plain_digits.ensures ∙ c.if-not-are_plain_digits.true in
    sym (asked_pages-other c.args.word.now digits)

pub returns-in-Ok : goal.returns-in-Ok
returns-in-Ok c =
    let digits : are_plain_digits c.args.word.now ≡ true = ap are_plain_digits (sym c.as_bytes.ensures.value) ∙ sym c.are_plain_digits.ensures ∙ c.if-not-are_plain_digits.false in
    let parsed = asked_pages-parsed ℕ c.args.word.now c.in-Ok.pages digits c.in-Ok.ensures.value.0 in
    grind (arith, nat_tests, parsed)

pub returns-in_default : goal.returns-in_default
returns-in_default c =
    let digits : are_plain_digits c.args.word.now ≡ true = ap are_plain_digits (sym c.as_bytes.ensures.value) ∙ sym c.are_plain_digits.ensures ∙ c.if-not-are_plain_digits.false in
    let parsed = asked_pages-parsed ℕ c.args.word.now c.in-Ok.pages digits c.in-Ok.ensures.value.0 in
    grind (arith, nat_tests, parsed)

pub returns-in_default-2 : goal.returns-in_default-2
returns-in_default-2 c =
    let digits : are_plain_digits c.args.word.now ≡ true = ap are_plain_digits (sym c.as_bytes.ensures.value) ∙ sym c.are_plain_digits.ensures ∙ c.if-not-are_plain_digits.false in
    let parsed = asked_pages-parsed ℕ c.args.word.now c.in-Ok.pages digits c.in-Ok.ensures.value.0 in
    grind (arith, nat_tests, parsed)

pub returns-in_default-3 : goal.returns-in_default-3
returns-in_default-3 c =
    let digits : are_plain_digits c.args.word.now ≡ true = ap are_plain_digits (sym c.as_bytes.ensures.value) ∙ sym c.are_plain_digits.ensures ∙ c.if-not-are_plain_digits.false in
    sym (asked_pages-unparsed ℕ c.args.word.now 0 digits c.in_default.ensures.value.0)
