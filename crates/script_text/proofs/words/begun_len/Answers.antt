use Rattle.std.proofs.Common.{slice_index, drop, inl}
use Rattle.script_text.proofs.WordLemmas.{begun-quoted, begun-plain}
use Rattle.script_text.proofs.words.begun_len.Goals as goal

pub returns-then-closing-after-clause-value : goal.returns-then-closing-after-clause-value
returns-then-closing-after-clause-value c =
    begun-quoted (slice_index c.args.text.now 0) c.quote_at-closing.result (drop 1 c.args.text.now) c.if-text-ne34.false
    (rw (← c.split_at.ensures.back) c.quote_at-closing.ensures.value) (rw (← c.split_at.ensures.back) c.if-closing-after.true)

pub returns-else-closing-after-clause-value : goal.returns-else-closing-after-clause-value
returns-else-closing-after-clause-value c =
    begun-plain (slice_index c.args.text.now 0) c.quote_at-closing.result (drop 1 c.args.text.now)
    (rw (← c.split_at.ensures.back) c.quote_at-closing.ensures.value)
    (inl (c.if-text-ne34.false, rw (← c.split_at.ensures.back) c.if-closing-after.false))
