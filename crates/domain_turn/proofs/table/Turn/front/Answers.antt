use Rattle.std.proofs.Common.{◌≡◌, ◌∙◌, sym, refl, subst, arith, [], ◌∷◌}
use Rattle.domain_turn.specs.Plays.{share_in}
use Rattle.domain_turn.proofs.Steps.{seeing_committed, seeing_durable}
use Rattle.domain_turn.proofs.table.Turn.front.Goals as goal

pub load-durable-requires : goal.load-durable-requires
load-durable-requires g c = (c.requires.here, (let five = c.args.self.now.sized.0 in omega (arith, five)), seeing_durable _ _ _ _ _ c.args.pass.now.one)

pub load-committed-requires : goal.load-committed-requires
load-committed-requires g c = (
  c.load-durable.ensures.0 ∙ c.requires.here,
  (let five = c.args.self.now.sized.0 in omega (arith, five)),
  seeing_committed _ _ _ _ _ g.met.T.Told.bounded (subst (λ m. m.0.shares ≡ share_in m.0 ∷ []) (sym c.load-durable.ensures.2.1) refl),
)
