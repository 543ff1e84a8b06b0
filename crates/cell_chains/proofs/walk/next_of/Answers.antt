use Rattle.std.proofs.Common.{◌≡◌, ◌∙◌, Some, sym, subst}
use Rattle.cell_chains.specs.Members.{IsIn}
use Rattle.cell_chains.proofs.walk.next_of.Goals as goal

some_same : {X : Type 0} (a b : X) → Some a ≡ Some b → a ≡ b
some_same a b e = cc

pub returns-then-has-clause-none : goal.returns-then-has-clause-none
returns-then-has-clause-none c onto next leads fresh has may =
    fresh (subst (IsIn c.args.seen.now) (some_same c.in_ok-at.at onto (sym c.in_ok-at.was ∙ leads)) (c.has.ensures.0 c.if-has.true))
