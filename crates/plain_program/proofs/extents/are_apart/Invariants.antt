use Rattle.std.proofs.Common.{◌<◌, ℕ, length, get_or}
use Rattle.legal_histories.specs.Volumes.{AreApart}
use Rattle.legal_histories.specs.fileset_values.declared.reply.ExtentItem.{ExtentItem}
use Rattle.plain_program.proofs.extents.are_apart.Given as goal

abbrev pub invariant-loop-i : goal.invariant-loop-i
invariant-loop-i l = (k j : ℕ) (d : ExtentItem) → k < l.i → k < j → j < length l.runs → AreApart (get_or l.runs k d) (get_or l.runs j d)
