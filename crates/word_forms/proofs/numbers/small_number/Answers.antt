use Rattle.std.proofs.Common.{◌^◌, arith, sym, ◌∙◌}
use Rattle.word_forms.proofs.NumberLemmas.{number-none, number-fits, number-passes}
use Rattle.word_forms.proofs.numbers.small_number.Goals as goal

pub returns-in_err-n : goal.returns-in_err-n
returns-in_err-n c = c.from_residual.ensures ∙ sym (number-none (2 ^ 32) (2 ^ 64) c.args.word.now (omega arith) (sym c.in_err-n.ensures))

pub returns-then-n-from : goal.returns-then-n-from
returns-then-n-from c = sym (number-fits (2 ^ 32) (2 ^ 64) c.args.word.now c.in_ok-n.n (sym c.in_ok-n.ensures) (omega arith))

pub returns-else-n-from : goal.returns-else-n-from
returns-else-n-from c = sym (number-passes (2 ^ 32) (2 ^ 64) c.args.word.now c.in_ok-n.n (sym c.in_ok-n.ensures) (omega arith))
