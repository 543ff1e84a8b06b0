use Rattle.std.proofs.Common.{◌≡◌, length}
use Rattle.word_forms.specs.Forms.{Begins, bytes_from}
use Rattle.word_forms.proofs.EachLemmas.{behind}
use Rattle.word_forms.proofs.paths.spelled.Given as goal

-- the bytes so far, and those that the rest says
abbrev pub invariant-loop-rest : goal.invariant-loop-rest
invariant-loop-rest l = bytes_from Begins l.word ≡ behind l.bytes.items (bytes_from Begins l.rest)

abbrev pub decreases-loop-rest : goal.decreases-loop-rest
decreases-loop-rest l = length l.rest
