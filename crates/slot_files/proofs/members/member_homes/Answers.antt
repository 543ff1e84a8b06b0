use Rattle.std.proofs.Common.{◌+◌, List, Option, sym, subst, arith}
use Rattle.index_row_faults.specs.domain_base.declared.place.Home.{Home}
use Rattle.index_row_faults.specs.page_ways.Frame.{frame_in}
use Rattle.slot_files.proofs.Listed.{UpTo, up_on}
use Rattle.slot_files.proofs.SaidPlaces.{IsMemberHome, member_got, members_end}
use Rattle.slot_files.proofs.members.member_homes.Goals as goal

pub loop-page-preserved : goal.loop-page-preserved
loop-page-preserved c =
    let said = c.args.said.now in
    let frame = frame_in c.args.frame.now in
    subst (λ (l : List (Option Home)). UpTo (IsMemberHome said frame) l (c.loop-page.page + 1)) (sym c.in_ok-push.ensures.items)
    (up_on (IsMemberHome said frame) c.loop-page.homes.items c.loop-page.page c.member_home.result c.loop-page.invariant
    (member_got said frame c.loop-page.page _ c.member_home.result c.loop-page-test.true c.member_home.ensures))

pub returns : goal.returns
returns c =
    members_end c.args.said.now (frame_in c.args.frame.now) c.loop-page.page c.loop-page.homes.items c.loop-page.invariant (λ p behind. omega (arith, behind, c.loop-page-test.false))
