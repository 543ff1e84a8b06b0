use Rattle.std.proofs.Common.{arith}
use Rattle.slot_files.proofs.SaidPlaces.{end_on}
use Rattle.slot_files.proofs.places.end_of.Goals as goal

pub loop-run-preserved : goal.loop-run-preserved
loop-run-preserved c =
    λ page behind.
    end_on c.args.runs.now c.loop-run.run-index _ page c.end_of_run.result c.loop-run-test.true (c.loop-run.invariant page (omega (arith, behind, c.max-end.ensures))) c.end_of_run.ensures (omega (arith, behind, c.max-end.ensures))
