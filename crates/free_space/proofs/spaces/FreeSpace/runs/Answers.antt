use Rattle.std.proofs.Common.{◌≡◌, ℕ, ◌+◌, ◌≤◌, List, length, arith, subst, sym, Option}
use Rattle.std.specs.Prelude.{IfSome}
use Rattle.free_space.specs.Runs.{AddsRuns, AreRuns, IsRunOn}
use Rattle.free_space.specs.Spaces.{Spaces, volume_of}
use Rattle.free_space.specs.declared.runs.FreeRun.{FreeRun}
use Rattle.free_space.proofs.RunsFound.{IsRunBelow, runs_all, runs_more, runs_none}
use Rattle.free_space.proofs.spaces.FreeSpace.runs.Goals as goal

pub loop-index-init : goal.loop-index-init
loop-index-init c = subst (λ (runs : List FreeRun). AreRuns (IsRunBelow c.args.self.now 0) runs) (sym c.new-runs.ensures.items) (runs_none c.args.self.now)

pub loop-index-preserved : goal.loop-index-preserved
loop-index-preserved c =
    let s = c.args.self.now in
    let now = c.loop-index.runs.items in
    let new = c.push_runs.new.runs.items in
    let vol = subst (λ (r : Option ℕ). IfSome r (λ v. v ≡ c.loop-index.index + 1)) c.unwrap-vol.ensures c.new.ensures.value in
    runs_more s c.loop-index.index now new c.loop-index.invariant (subst (λ (v : ℕ). AddsRuns (IsRunOn v (volume_of s v)) now new) vol c.in_ok-push_runs.ensures)

pub returns : goal.returns
returns c =
    let all : length c.self.inside.volumes.items ≤ c.loop-index.index = omega (arith, c.loop-index-test.false, c.len-index-end.ensures) in
    runs_all c.args.self.now c.loop-index.index c.loop-index.runs.items (subst (λ (s : Spaces). length s.volumes ≤ c.loop-index.index) c.self.view_is all)
    c.loop-index.invariant
