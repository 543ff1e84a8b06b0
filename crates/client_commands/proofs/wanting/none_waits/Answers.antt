use Rattle.std.proofs.Common.{◌∙◌, eqb-true, sym}
use Rattle.client_commands.proofs.Wanted.{none_waits}
use Rattle.client_commands.proofs.wanting.none_waits.Goals as goal

pub returns : goal.returns
returns c = λ is. none_waits c.args.memory.now.space (sym c.waiting.ensures ∙ eqb-true c.waiting.result 0 is)
