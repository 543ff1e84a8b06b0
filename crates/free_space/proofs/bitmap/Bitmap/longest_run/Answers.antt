use Rattle.std.proofs.Common.{◌-◌, ◌/◌, ◌∙◌, sym, arith}
use Rattle.free_space.proofs.Longest.{between_none, longest, none_of}
use Rattle.free_space.proofs.bitmap.Bitmap.longest_run.Goals as goal

pub loop-short-preserved : goal.loop-short-preserved
loop-short-preserved c =
    between_none c.args.self.now c.loop-short.short c.loop-short.most (c.loop-short.most - (c.loop-short.most - c.loop-short.short) / 2)
    c.loop-short.invariant (omega arith) (omega arith)
    (none_of c.args.self.now _ c.first_run.result c.first_run.ensures (sym c.is_some.ensures ∙ c.if-is_some.false))

pub returns : goal.returns
returns c = longest c.args.self.now c.loop-short.short c.loop-short.most c.loop-short.invariant c.loop-short-test.false
