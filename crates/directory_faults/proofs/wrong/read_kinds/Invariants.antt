use Rattle.directory_faults.proofs.LedWrong.{AreKinds}
use Rattle.directory_faults.proofs.wrong.read_kinds.Given as goal

abbrev pub invariant-loop-file : goal.invariant-loop-file
invariant-loop-file l = AreKinds l.kinds l.files l.file-index
