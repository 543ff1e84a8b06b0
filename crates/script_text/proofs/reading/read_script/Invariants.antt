use Rattle.std.proofs.Common.{length}
use Rattle.script_text.specs.Reading.{drafted}
use Rattle.script_text.proofs.ScriptLemmas.{IsReadTo}
use Rattle.script_text.proofs.reading.read_script.Given as goal

abbrev pub invariant-loop-rest : goal.invariant-loop-rest
invariant-loop-rest l = IsReadTo l.bytes l.rest (drafted l.draft) l.number

abbrev pub decreases-loop-rest : goal.decreases-loop-rest
decreases-loop-rest l = length l.rest
