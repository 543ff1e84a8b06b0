use Rattle.std.proofs.Common.{◌∙◌, ◌+◌, ℕ, slice_get, sym, ap, arith}
use Rattle.domain_changes.proofs.Counted.{all_counted, counted_more}
use Rattle.domain_changes.proofs.counting.count_filesets.Goals as goal

pub loop-n-preserved : goal.loop-n-preserved
loop-n-preserved c =
    counted_more c.args.table.now.slots c.loop-n.n c.loop-n.count (c.loop-n.count + c.count_in-count.result) c.slot.result.now (ap (slice_get c.args.table.now.slots) (sym c.in-Some.ensures.value) ∙ c.slot.ensures.value)
    (ap (λ (k : ℕ). c.loop-n.count + k) c.count_in-count.ensures) c.slot.ensures.good.whole c.loop-n.invariant

pub returns : goal.returns
returns c = all_counted c.args.table.now.slots c.loop-n.n c.loop-n.count c.loop-n.invariant (omega (arith, c.loop-n-test.false, c.loop-n.auto.n-end))
