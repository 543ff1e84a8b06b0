use Rattle.std.proofs.Common.{inl, inr, arith, ⊎_elim}
use Rattle.tag_faults.specs.page_ways.Frame.{frame_in}
use Rattle.page_faults.proofs.RunsOutside.{below_more, none_below, wrong_all}
use Rattle.page_faults.proofs.wrong.wrong_runs.Goals as goal

pub loop-number-init : goal.loop-number-init
loop-number-init c apart home =
    let first = c.in_ok-found.ensures home in (
      λ is. inl (first.0 is),
      λ which. first.1 (⊎_elim (λ out. out) (λ below. absurd (none_below (frame_in c.args.frame.now) c.args.homes.now c.args.runs.now home below)) which),
    )

pub loop-number-preserved : goal.loop-number-preserved
loop-number-preserved c apart home =
    let more = below_more (frame_in c.args.frame.now) c.args.homes.now c.args.runs.now home c.loop-number.number in
    let put = c.in_ok-look_at_volume.ensures apart home in
    let before = c.loop-number.invariant apart home in (
      λ is. ⊎_elim (λ was. ⊎_elim (λ first. inl first) (λ low. inr (more.0 (inl low))) (before.0 was)) (λ here. inr (more.0 (inr here))) (put.0 is),
      λ which. put.1 (⊎_elim (λ first. inl (before.1 (inl first))) (λ below. ⊎_elim (λ low. inl (before.1 (inr low))) (λ here. inr here) (more.1 below)) which),
    )

pub returns : goal.returns
returns c apart home =
    let all = wrong_all (frame_in c.args.frame.now) c.args.homes.now c.args.runs.now home c.loop-number.number (omega (arith, c.loop-number-test.false)) in
    let are = c.loop-number.invariant apart home in
    ((λ is. all.0 (are.0 is)), (λ wrong. are.1 (all.1 wrong)))
