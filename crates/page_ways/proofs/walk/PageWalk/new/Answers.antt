use Rattle.std.proofs.Common.{[], sym, subst, refl}
use Rattle.domain_layout.specs.Reached.{Reaches, begins}
use Rattle.page_ways.specs.Walk.{AreNumbers}
use Rattle.page_ways.proofs.Numbers.{no_numbers}
use Rattle.page_ways.proofs.walk.PageWalk.new.Goals as goal

pub returns-clause-walk : goal.returns-clause-walk
returns-clause-walk g c = λ pages frame.
    let way = g.W.PageWay.way c.args.way.now in
    record {
      numbers = subst (λ l. AreNumbers l c.new-2.result.items) (sym c.new.ensures.items) (subst (AreNumbers []) (sym c.new-2.ensures.items) no_numbers);
      on = (refl, subst (λ l. Reaches pages frame way l c.first.result) (sym c.new.ensures.items) (subst (Reaches pages frame way []) (sym c.first.ensures) begins));
    }
