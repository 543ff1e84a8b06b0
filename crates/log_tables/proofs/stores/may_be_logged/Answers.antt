use Rattle.std.proofs.Common.{All, List, subst}
use Rattle.std.proofs.lemmas.List.{take_all}
use Rattle.std.proofs.lemmas.List.Elements.{All-more}
use Rattle.log_recovery.specs.domain_base.declared.place.Home.{Home}
use Rattle.log_recovery.specs.log_ring.Homes.{IsLoggable}
use Rattle.log_tables.proofs.stores.may_be_logged.Goals as goal

pub loop-home-preserved : goal.loop-home-preserved
loop-home-preserved c =
    let anchor = c.args.anchor.now in
    let home : Home = c.home-item.result in
    All-more (IsLoggable anchor) c.args.homes.now c.loop-home.home-index home c.loop-home-test.true c.loop-home.invariant
    (subst (IsLoggable anchor) c.home-item.is (c.is_loggable.ensures.0 c.if-not-is_loggable.false))

pub returns : goal.returns
returns c = λ yes. subst (λ (l : List Home). All (IsLoggable c.args.anchor.now) l) (take_all c.loop-home.home-index c.args.homes.now c.loop-home-test.false) c.loop-home.invariant
