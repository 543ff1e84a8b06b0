use Rattle.std.proofs.Common.{arith}
use Rattle.domain_turn.proofs.Steps.{ending}
use Rattle.domain_turn.proofs.table.Turn.end.Goals as goal

pub fetch_add-requires : goal.fetch_add-requires
fetch_add-requires g c = (c.requires.here, (let five = c.args.self.now.sized.0 in omega (arith, five)), ending _ _ _ _ _ c.args.pass.now.one c.requires.once)
