use Rattle.std.proofs.Common.{Option, OnOk, subst, sym}
use Rattle.free_space.specs.Runs.{AddsRuns, IsRunOn}
use Rattle.free_space.specs.VolumeSpace.{VolumeSpace}
use Rattle.free_space.proofs.RunsFound.{adds_absent}
use Rattle.free_space.proofs.runs.push_runs_on.Goals as goal

pub returns-in-Some : goal.returns-in-Some
returns-in-Some c =
    subst (λ (o : Option VolumeSpace). OnOk c.push_open_runs.result (AddsRuns (IsRunOn c.args.vol o) c.args.runs.now.items c.push_open_runs.new.runs.items)) (sym c.in-Some.is)
    c.push_open_runs.ensures

pub returns-in-None : goal.returns-in-None
returns-in-None c =
    subst (λ (o : Option VolumeSpace). AddsRuns (IsRunOn c.args.vol o) c.args.runs.now.items c.args.runs.now.items) (sym c.in-None.is) (adds_absent c.args.vol c.args.runs.now.items)
