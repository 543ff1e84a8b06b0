use Rattle.std.proofs.Common.{◌<◌, ℕ, length, get_or}
use borrow.Author.Count.{below_more}
use Rattle.legal_histories.specs.fileset_values.declared.reply.ExtentItem.{ExtentItem}
use Rattle.legal_histories.specs.Volumes.{AreApart}
use Rattle.plain_program.proofs.ExtentLemmas.{apart_before, apart_from_rest, refuted}
use Rattle.plain_program.proofs.extents.are_apart.Goals as goal

pub returns-then-not-is_apart_from : goal.returns-then-not-is_apart_from
returns-then-not-is_apart_from c =
    refuted c.is_apart_from.result c.if-not-is_apart_from.true c.is_apart_from.ensures
    (λ pairs. apart_from_rest c.args.runs.now c.loop-i.i _ c.loop-i-test.true pairs)

pub loop-i-preserved : goal.loop-i-preserved
loop-i-preserved c k j d below above within =
    below_more (λ n. (j : ℕ) (d : ExtentItem) → n < j → j < length c.args.runs.now → AreApart (get_or c.args.runs.now n d) (get_or c.args.runs.now j d)) c.loop-i.i
    (λ n h j d above within. c.loop-i.invariant n j d h above within)
    (apart_before c.args.runs.now c.loop-i.i _ c.loop-i-test.true (c.is_apart_from.ensures.0 (cc)))
    k below j d above within
