use Rattle.std.proofs.Common.{◌≡◌, inl, inr, refl, ⊎_elim}
use Rattle.tag_faults.specs.metadata_cells.CellPage.{home_of}
use Rattle.tag_faults.specs.page_ways.Frame.{frame_in}
use Rattle.tag_faults.proofs.OfSortedSets.Items.{item_of}
use Rattle.tag_faults.proofs.OfSortedSets.Below.{below_all, below_more, none_below}
use Rattle.tag_faults.specs.cell_chains.declared.run.FileRun.{FileRun}
use Rattle.page_faults.specs.Wrong.{IsOutside}
use Rattle.page_faults.proofs.wrong.outside_runs.Goals as goal

pub loop-run-init : goal.loop-run-init
loop-run-init c home = (
  λ is. absurd (c.new-found.ensures home is),
  λ below. absurd (none_below {X = FileRun} c.args.runs.now (λ run. (home_of run.at ≡ home) × IsOutside (frame_in c.args.frame.now) run) below),
)

pub loop-run-preserved : goal.loop-run-preserved
loop-run-preserved c home =
    let runs = c.args.runs.now in
    let more = below_more {X = FileRun} runs (λ run. (home_of run.at ≡ home) × IsOutside (frame_in c.args.frame.now) run) c.loop-run.run-index c.run-item.result (item_of runs runs c.loop-run.run-index c.run-item.result refl c.loop-run-test.true c.run-item.is) in
    let put = c.in_ok-insert_outside.ensures home in
    let before = c.loop-run.invariant home in (
      λ is. more.0 (⊎_elim (λ was. inl (before.0 was)) (λ here. inr here) (put.0 is)),
      λ below. put.1 (⊎_elim (λ low. inl (before.1 low)) (λ here. inr here) (more.1 below)),
    )

pub returns : goal.returns
returns c home =
    let all = below_all {X = FileRun} c.args.runs.now (λ run. (home_of run.at ≡ home) × IsOutside (frame_in c.args.frame.now) run) c.loop-run.run-index c.loop-run-test.false c.loop-run.auto.run-index-end in
    let are = c.loop-run.invariant home in
    ((λ is. let (run, among, (same, wrong)) = all.0 (are.0 is) in (run, among, same, wrong)), (λ (run, among, same, wrong). are.1 (all.1 (run, among, (same, wrong)))))
