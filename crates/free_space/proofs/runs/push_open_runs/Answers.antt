use Rattle.std.proofs.Common.{◌∙◌, OnOk, subst, sym}
use Rattle.std.proofs.lemmas.Result.{on_ok_weaker}
use Rattle.free_space.specs.Runs.{AddsRuns, IsRunIn}
use Rattle.free_space.specs.VolumePages.{VolumePages}
use Rattle.free_space.proofs.RunsFound.{adds_closed, adds_open}
use Rattle.free_space.proofs.runs.push_open_runs.Goals as goal

pub returns-then-is_open : goal.returns-then-is_open
returns-then-is_open c =
    let old = c.args.runs.now.items in
    let new = c.push_runs.new.runs.items in
    on_ok_weaker c.push_runs.result (λ adds. adds_open c.args.vol c.args.volume.now old new (sym c.is_open.ensures ∙ c.if-is_open.true) adds)
    (subst (λ (m : VolumePages). OnOk c.push_runs.result (AddsRuns (IsRunIn c.args.vol m) old new)) c.map.ensures c.push_runs.ensures)

pub returns-else-is_open : goal.returns-else-is_open
returns-else-is_open c = adds_closed c.args.vol c.args.volume.now c.args.runs.now.items (sym c.is_open.ensures ∙ c.if-is_open.false)
