use Rattle.std.proofs.Common.{Some, subst, arith}
use Rattle.tag_dirs.proofs.Reading.{IsOnWay, next_joins, on_way_last, on_way_next, one_longer, room_left}
use Rattle.tag_dirs.proofs.dir.TagDir.read.Goals as goal

pub join-requires : goal.join-requires
join-requires g c =
    let pages = g.M.MetaPages.pages c.args.pages.now in
    let on : IsOnWay pages c.args.first c.loop-next.dir (Some c.in-Some.home) = subst (IsOnWay pages c.args.first c.loop-next.dir) c.in-Some.is c.loop-next.invariant in
    next_joins pages c.args.first c.loop-next.dir c.in-Some.home on

pub loop-next-smaller : goal.loop-next-smaller
loop-next-smaller g c =
    let pages = g.M.MetaPages.pages c.args.pages.now in
    let on : IsOnWay pages c.args.first c.loop-next.dir (Some c.in-Some.home) = subst (IsOnWay pages c.args.first c.loop-next.dir) c.in-Some.is c.loop-next.invariant in
    omega (arith, room_left pages c.args.first c.loop-next.dir c.in-Some.home on, one_longer (pages c.in-Some.home) c.in-Some.home c.loop-next.dir c.join.new.self c.in_ok-next.next c.in_ok-next.ensures)

pub loop-next-preserved : goal.loop-next-preserved
loop-next-preserved g c =
    let pages = g.M.MetaPages.pages c.args.pages.now in
    let on : IsOnWay pages c.args.first c.loop-next.dir (Some c.in-Some.home) = subst (IsOnWay pages c.args.first c.loop-next.dir) c.in-Some.is c.loop-next.invariant in
    on_way_next pages c.args.first c.loop-next.dir c.join.new.self c.in-Some.home c.in_ok-next.next on c.in_ok-next.ensures

pub returns : goal.returns
returns g c =
    let pages = g.M.MetaPages.pages c.args.pages.now in
    on_way_last pages c.args.first c.loop-next.dir (subst (IsOnWay pages c.args.first c.loop-next.dir) c.in_default.is c.loop-next.invariant)
