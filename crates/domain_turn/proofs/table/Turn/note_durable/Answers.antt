use Rattle.std.proofs.Common.{arith}
use Rattle.domain_turn.proofs.Steps.{noting}
use Rattle.domain_turn.proofs.table.Turn.note_durable.Goals as goal

pub fetch_max-requires : goal.fetch_max-requires
fetch_max-requires g c = (c.requires.here, (let five = c.args.self.now.sized.0 in omega (arith, five)), noting _ _ _ _ _ _ c.args.pass.now.one c.requires.lasting)
