use Rattle.std.proofs.Common.{inl, inr, arith, ⊎_elim}
use Rattle.tag_faults.specs.page_ways.Frame.{frame_in}
use Rattle.tag_faults.proofs.Counted.{number_more}
use Rattle.page_faults.specs.Wrong.{IsWrongBitmapOf}
use Rattle.page_faults.proofs.BitmapsFound.{bitmaps_all}
use Rattle.page_faults.proofs.bitmaps.wrong_bitmaps.Goals as goal

pub loop-number-init : goal.loop-number-init
loop-number-init g c home = (λ is. absurd (c.new-found.ensures home is), λ (vol, below, (member, wrong)). absurd (omega (arith, below, member.first)))

pub loop-number-preserved : goal.loop-number-preserved
loop-number-preserved g c home =
    let more = number_more (IsWrongBitmapOf (g.M.MetaPages.pages c.args.pages.now) (frame_in c.args.frame.now) c.args.homes.now c.args.runs.now home) c.loop-number.number in
    let put = c.in_ok-look_at_volume.ensures home in
    let before = c.loop-number.invariant home in (
      λ is. more.0 (⊎_elim (λ was. inl (before.0 was)) (λ here. inr here) (put.0 is)),
      λ below. put.1 (⊎_elim (λ low. inl (before.1 low)) (λ here. inr here) (more.1 below)),
    )

pub returns : goal.returns
returns g c home =
    let all = bitmaps_all (g.M.MetaPages.pages c.args.pages.now) (frame_in c.args.frame.now) c.args.homes.now c.args.runs.now home c.loop-number.number (omega (arith, c.loop-number-test.false)) in
    let are = c.loop-number.invariant home in
    ((λ is. all.0 (are.0 is)), (λ wrong. are.1 (all.1 wrong)))
