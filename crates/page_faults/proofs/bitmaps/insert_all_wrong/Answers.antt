use Rattle.std.proofs.Common.{inl, inr, arith, ⊎_elim}
use Rattle.tag_faults.specs.page_ways.Frame.{frame_in}
use Rattle.tag_faults.specs.sorted_sets.SpanMembers.{HasNumber}
use Rattle.tag_faults.proofs.Counted.{number_more}
use Rattle.page_faults.specs.Wrong.{HasWrongBits}
use Rattle.page_faults.proofs.bitmaps.insert_all_wrong.Goals as goal

pub loop-number-preserved : goal.loop-number-preserved
loop-number-preserved g c home =
    let more = number_more (HasWrongBits (g.M.MetaPages.pages c.args.pages.now) (frame_in c.args.frame.now) (HasNumber c.args.owned.now) c.args.vol home) c.loop-number.number in
    let put = c.in_ok-insert_wrong.ensures home in
    let before = c.loop-number.invariant home in (
      λ is. ⊎_elim (λ was. ⊎_elim (λ first. inl first) (λ low. inr (more.0 (inl low))) (before.0 was)) (λ here. inr (more.0 (inr here))) (put.0 is),
      λ which. put.1 (⊎_elim (λ first. inl (before.1 (inl first))) (λ below. ⊎_elim (λ low. inl (before.1 (inr low))) (λ here. inr here) (more.1 below)) which),
    )

pub returns : goal.returns
returns g c home =
    let are = c.loop-number.invariant home in (
      λ is. ⊎_elim (λ first. inl first) (λ (number, below, wrong). inr (number, omega (arith, below, c.first_cells-number-end.ensures), wrong)) (are.0 is),
      λ which. are.1 (⊎_elim (λ first. inl first) (λ (number, within, wrong). inr (number, omega (arith, within, c.first_cells-number-end.ensures, c.loop-number-test.false), wrong)) which),
    )
