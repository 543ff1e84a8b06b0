use Rattle.std.proofs.Common.{rules}
use Rattle.member_moves.proofs.Even.{even_by, even_none}
use Rattle.member_moves.proofs.balance.uneven.Goals as goal

pub returns-in_err-full-clause-even : goal.returns-in_err-full-clause-even
returns-in_err-full-clause-even c =
    (λ _. even_none c.args.counts.now c.in_err-full.ensures.none, λ _. search rules)

pub returns-in_err-empty-clause-even : goal.returns-in_err-empty-clause-even
returns-in_err-empty-clause-even c =
    (λ _. even_none c.args.counts.now c.in_err-empty.ensures.none, λ _. search rules)

pub returns-then-is_level-clause-even : goal.returns-then-is_level-clause-even
returns-then-is_level-clause-even c = (
  λ _. even_by c.args.counts.now c.in_ok-full.full c.in_ok-empty.empty c.requires
      c.in_ok-full.ensures.first c.in_ok-empty.ensures.first (c.is_level.ensures.0 c.if-is_level.true),
  λ _. search rules,
)
