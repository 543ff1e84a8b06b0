use Rattle.std.proofs.Common.{◌<◌, ℕ, get_or}
use Rattle.legal_histories.specs.Volumes.{AreApart}
use Rattle.legal_histories.specs.fileset_values.declared.reply.ExtentItem.{ExtentItem}
use Rattle.plain_program.proofs.extents.is_apart_from.Given as goal

abbrev pub invariant-loop-other : goal.invariant-loop-other
invariant-loop-other l = (k : ℕ) (d : ExtentItem) → k < l.other-index → AreApart l.run (get_or l.others k d)
