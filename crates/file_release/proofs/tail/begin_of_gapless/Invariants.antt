use Rattle.file_release.proofs.Gapless.{AreGapless}
use Rattle.file_release.proofs.tail.begin_of_gapless.Given as goal

abbrev pub invariant-loop-i : goal.invariant-loop-i
invariant-loop-i l = AreGapless l.runs l.i l.begin l.to
