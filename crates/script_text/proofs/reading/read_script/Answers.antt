use Rattle.std.proofs.Common.{arith}
use Rattle.std.proofs.lemmas.Grind.{common_steps}
use Rattle.script_text.specs.Reading.{drafted}
use Rattle.script_text.proofs.ScriptLemmas.{read_more, read_bad, read_all}
use Rattle.script_text.proofs.reading.read_script.Goals as goal

pub returns-in-Err-Kind-clause-fault : goal.returns-in-Err-Kind-clause-fault
returns-in-Err-Kind-clause-fault c =
    rw (c.saturating_add-number.ensures, c.in-Err-Kind.kind-is)
    (read_bad c.args.bytes.now c.loop-rest.rest.now c.split_line.result.0.now c.split_line.result.1.now (drafted c.loop-rest.draft) c.loop-rest.number
    c.in-Err-Kind.kind c.loop-rest.invariant c.split_line.ensures.first (rw (c.in-Err-Kind.field-0-is) at c.in-Err-Kind.ensures))

pub loop-rest-preserved : goal.loop-rest-preserved
loop-rest-preserved c =
    rw c.saturating_add-number.ensures
    (read_more c.args.bytes.now c.loop-rest.rest.now c.split_line.result.0.now c.split_line.result.1.now (drafted c.loop-rest.draft) (drafted c.in-Ok.draft)
    c.loop-rest.number c.loop-rest.invariant c.split_line.ensures.first c.in-Ok.ensures)

pub returns-in-Ok-finished-clause-read : goal.returns-in-Ok-finished-clause-read
returns-in-Ok-finished-clause-read c =
    rw c.in-Ok-finished.ensures
    (read_all c.args.bytes.now c.loop-rest.rest.now (drafted c.loop-rest.draft) c.loop-rest.number c.loop-rest.invariant (grind (arith, common_steps)))
