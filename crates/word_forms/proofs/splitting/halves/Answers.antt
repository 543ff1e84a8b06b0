use Rattle.std.proofs.Common.{arith}
use Rattle.word_forms.proofs.Behind.{behind_next, behind_none}
use Rattle.word_forms.proofs.splitting.halves.Goals as goal

pub returns-in-empty-clause-back : goal.returns-in-empty-clause-back
returns-in-empty-clause-back c =
    rw (c.split_at.ensures.back, ← c.byte_at.ensures.value)
    (behind_none c.byte_at.result c.args.word.now (rw (← c.split_at.ensures.back) (omega (arith, c.in-empty.len_below))))

pub returns-in-len1-up-clause-back : goal.returns-in-len1-up-clause-back
returns-in-len1-up-clause-back c =
    rw (c.split_at.ensures.back, ← c.byte_at.ensures.value) (behind_next c.byte_at.result c.args.word.now)
