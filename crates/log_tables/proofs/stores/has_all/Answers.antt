use Rattle.std.proofs.Common.{All, IsSome, List, subst}
use Rattle.std.proofs.lemmas.List.{take_all}
use Rattle.std.proofs.lemmas.List.Elements.{All-more}
use Rattle.log_recovery.specs.domain_base.declared.place.Home.{Home}
use Rattle.log_tables.proofs.stores.has_all.Goals as goal

pub loop-home-preserved : goal.loop-home-preserved
loop-home-preserved g c =
    let home : Home = c.home-item.result in
    All-more (λ (h : Home). IsSome (g.M.MetaPages.pages c.args.store.now h)) c.args.homes.now c.loop-home.home-index home c.loop-home-test.true c.loop-home.invariant
    (subst (λ (h : Home). IsSome (g.M.MetaPages.pages c.args.store.now h)) c.home-item.is (c.has_page.ensures c.if-not-has_page.false))

pub returns : goal.returns
returns g c = λ yes. subst (λ (l : List Home). All (λ (home : Home). IsSome (g.M.MetaPages.pages c.args.store.now home)) l) (take_all c.loop-home.home-index c.args.homes.now c.loop-home-test.false) c.loop-home.invariant
