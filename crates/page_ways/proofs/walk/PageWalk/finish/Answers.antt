use Rattle.std.proofs.Common.{subst}
use Rattle.page_ways.specs.Walk.{IsOnWay}
use Rattle.page_ways.proofs.Come.{on_way_end}
use Rattle.page_ways.proofs.walk.PageWalk.finish.Goals as goal

pub returns-clause-read : goal.returns-clause-read
returns-clause-read c = λ pages frame way walk.
    let homes = c.args.self.passed.homes.items in
    let unread = c.args.self.unread in
    on_way_end pages frame way homes unread (subst (IsOnWay pages frame way homes unread) c.requires walk.on)
