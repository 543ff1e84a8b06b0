use Rattle.std.proofs.Common.{arith}
use Rattle.domain_turn.proofs.Steps.{seeing_ends}
use Rattle.domain_turn.proofs.table.Turn.ended.Goals as goal

pub load-requires : goal.load-requires
load-requires g c = (c.requires.here, (let five = c.args.self.now.sized.0 in omega (arith, five)), seeing_ends _ _ _ _ _ c.args.pass.now.one)
