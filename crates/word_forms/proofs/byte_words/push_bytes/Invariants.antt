use Rattle.std.proofs.Common.{◌≡◌, ◌++◌, length}
use Rattle.word_forms.specs.Runs.{runs_of, bytes_text}
use Rattle.word_forms.proofs.RunLemmas.{dotted}
use Rattle.word_forms.proofs.byte_words.push_bytes.Given as goal

abbrev pub invariant-loop-rest : goal.invariant-loop-rest
invariant-loop-rest l = l.out.items ++ dotted (runs_of l.rest) ≡ l.fn.out.items ++ bytes_text l.bytes

abbrev pub decreases-loop-rest : goal.decreases-loop-rest
decreases-loop-rest l = length l.rest
