use Rattle.history_reading.proofs.Steps.{map-behind}
use Rattle.history_reading.proofs.lines.split_at_arrow.Goals as goal

pub returns-in-len1-up-clause-back : goal.returns-in-len1-up-clause-back
returns-in-len1-up-clause-back c =
    rw (c.split_at.ensures.back, ← c.arrow_at.ensures.value) (map-behind (λ word. word.now) c.arrow_at.result c.args.words.now)
