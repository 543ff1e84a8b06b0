use Rattle.std.proofs.Common.{◌≡◌, inl, inr, refl, ⊎_elim}
use Rattle.tag_faults.specs.metadata_cells.CellPage.{home_of}
use Rattle.tag_faults.specs.cell_chains.declared.run.FileRun.{FileRun}
use Rattle.tag_faults.specs.sorted_sets.SpanMembers.{HasNumber}
use Rattle.page_faults.specs.Wrong.{IsMet}
use Rattle.tag_faults.proofs.OfSortedSets.Items.{item_of}
use Rattle.tag_faults.proofs.OfSortedSets.Below.{below_all, below_more}
use Rattle.page_faults.proofs.wrong.insert_all_met.Goals as goal

pub loop-run-preserved : goal.loop-run-preserved
loop-run-preserved c home =
    let more = below_more {X = FileRun} c.args.runs.now (λ run. (home_of run.at ≡ home) × IsMet c.args.vol (HasNumber c.args.shared.now) run) c.loop-run.run-index c.run-item.result (item_of c.args.runs.now c.args.runs.now c.loop-run.run-index c.run-item.result refl c.loop-run-test.true c.run-item.is) in
    let put = c.in_ok-insert_met.ensures home in
    let before = c.loop-run.invariant home in (
      λ is. ⊎_elim (λ was. ⊎_elim (λ first. inl first) (λ low. inr (more.0 (inl low))) (before.0 was)) (λ here. inr (more.0 (inr here))) (put.0 is),
      λ which. put.1 (⊎_elim (λ first. inl (before.1 (inl first))) (λ below. ⊎_elim (λ low. inl (before.1 (inr low))) (λ here. inr here) (more.1 below)) which),
    )

pub returns : goal.returns
returns c home =
    let all = below_all {X = FileRun} c.args.runs.now (λ run. (home_of run.at ≡ home) × IsMet c.args.vol (HasNumber c.args.shared.now) run) c.loop-run.run-index c.loop-run-test.false c.loop-run.auto.run-index-end in
    let are = c.loop-run.invariant home in (
      λ is. ⊎_elim (λ first. inl first) (λ below. let (run, among, (same, met)) = all.0 below in inr (run, among, same, met)) (are.0 is),
      λ which. are.1 (⊎_elim (λ first. inl first) (λ (run, among, same, met). inr (all.1 (run, among, (same, met)))) which),
    )
