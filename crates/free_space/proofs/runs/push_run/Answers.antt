use Rattle.std.proofs.Common.{◌++◌, ◌∙◌, List, ap, arith}
use Rattle.free_space.specs.declared.runs.FreeRun.{FreeRun}
use Rattle.free_space.proofs.RunsFound.{run_none, run_some}
use Rattle.free_space.proofs.runs.push_run.Goals as goal

pub returns-then-count-eq0 : goal.returns-then-count-eq0
returns-then-count-eq0 c = run_none c.args.vol c.args.end c.args.count c.args.runs.now.items (omega (arith, c.if-count-eq0.true))

pub returns : goal.returns
returns c =
    c.in_ok-push.ensures.items
    ∙ ap (λ (l : List FreeRun). c.args.runs.now.items ++ l) (run_some c.args.vol c.args.end c.args.count (omega (arith, c.if-count-eq0.false)))
