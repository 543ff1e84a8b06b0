use Rattle.std.proofs.Common.{arith}
use Rattle.script_text.proofs.LineLemmas.{lines-last, lines-first, behind_first}
use Rattle.script_text.proofs.words.split_line.Goals as goal

pub returns-in-empty-clause-first : goal.returns-in-empty-clause-first
returns-in-empty-clause-first c =
    rw (c.split_at.ensures.front, c.split_at.ensures.back)
    (lines-last c.args.text.now c.newline_at.result c.requires c.newline_at.ensures.value (rw (← c.split_at.ensures.back) (omega (arith, c.in-empty.len_below))))

pub returns-in-len1-up-clause-first : goal.returns-in-len1-up-clause-first
returns-in-len1-up-clause-first c =
    let first = lines-first c.args.text.now c.newline_at.result c.newline_at.ensures.value (rw (← c.split_at.ensures.back) (omega (arith, c.in-len1-up.len_at_least))) in
    rw (behind_first c.split_at.result.1.now) (cc first)
