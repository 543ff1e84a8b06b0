use Rattle.std.proofs.Common.{◌≡◌, ◌∙◌, ◌+◌, ◌++◌, ◌∷◌, [], List, append_assoc, add-one, refl, sym, ap, take}
use Rattle.std.proofs.Math.Seq.{take-suc}
use Rattle.metadata_cells.proofs.OfSortedSets.Items.{item_of}
use Rattle.metadata_cells.specs.sorted_sets.declared.span.Span.{Span}
use Rattle.cell_chains.specs.Runs.{spans_on}
use Rattle.cell_chains.specs.declared.run.FileRun.{FileRun}
use Rattle.cell_chains.proofs.CountRuns.{spans_both}
use Rattle.cell_chains.proofs.run.push_runs.Goals as goal

pub loop-run-preserved : goal.loop-run-preserved
loop-run-preserved c =
    let runs = c.args.runs.now in
    let number = c.loop-run.run-index in
    let run = c.run-item.result in
    let vol = c.args.vol in
    let is = item_of {X = FileRun} runs runs number run refl c.loop-run-test.true c.run-item.is run in
    let more : take (number + 1) runs ≡ take number runs ++ run ∷ [] =
    ap (λ n. take n runs) (add-one number) ∙ take-suc runs number run c.loop-run-test.true ∙ ap (λ (r : FileRun). take number runs ++ r ∷ []) is in
    c.in_ok-push_run.ensures ∙ ap (λ (l : List Span). l ++ spans_on vol (run ∷ [])) c.loop-run.invariant
    ∙ append_assoc c.args.spans.now.items (spans_on vol (take number runs)) (spans_on vol (run ∷ []))
    ∙ ap (λ (l : List Span). c.args.spans.now.items ++ l) (sym (spans_both vol (take number runs) (run ∷ [])) ∙ ap (spans_on vol) (sym more))
