use Rattle.std.proofs.Common.{rules, ◌≡◌, ◌∙◌, ◌++◌, ◌∷◌, [], arith}
use Rattle.quota_book.proofs.Settled.{accounts_settled, none_changed, shares_settled}
use Rattle.quota_book.proofs.accounts.settle_all.Goals as goal

pub loop-who-preserved : goal.loop-who-preserved
loop-who-preserved c =
    let last : c.loop-who.changed.items ≡ c.pop.new.self.items ++ c.in-Some.who ∷ [] = search rules in
    record {
      accounts = accounts_settled c.args.side _ _ _ _ c.in-Some.who c.loop-who.invariant.accounts last c.settle.ensures.settles c.settle.ensures.sorted;
      shares = λ q. shares_settled c.args.side _ _ _ c.settle.ensures.settles q ∙ c.loop-who.invariant.shares q;
      len = omega (arith, c.settle.ensures.len, c.loop-who.invariant.len);
      list_room = search rules;
    }

pub returns-clause-settles : goal.returns-clause-settles
returns-clause-settles c =
    let none : c.loop-who.changed.items ≡ [] = search rules in
    record {
      shares = c.loop-who.invariant.shares;
      same = none_changed _ _ c.loop-who.invariant.accounts none;
    }
