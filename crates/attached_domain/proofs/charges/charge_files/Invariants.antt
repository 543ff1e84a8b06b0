use Rattle.std.proofs.Common.{take}
use Rattle.attached_domain.specs.Counted.{CountsAll}
use Rattle.attached_domain.proofs.charges.charge_files.Given as goal

abbrev pub invariant-loop-file : goal.invariant-loop-file
invariant-loop-file l = CountsAll (take l.file-index l.files) l.fn.book.book l.book.book
