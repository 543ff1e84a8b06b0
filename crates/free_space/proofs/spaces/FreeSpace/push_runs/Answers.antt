use Rattle.std.proofs.Common.{◌≡◌, ◌∙◌, Option, OnOk, ap, arith, subst}
use Rattle.free_space.specs.Runs.{AddsRuns, IsRunOn}
use Rattle.free_space.specs.Spaces.{Spaces, volume_of}
use Rattle.free_space.specs.VolumeSpace.{VolumeSpace}
use Rattle.free_space.proofs.Mapping.{volume_read}
use Rattle.free_space.proofs.spaces.FreeSpace.push_runs.Goals as goal

pub returns : goal.returns
returns c =
    let volume = c.index-volume.result.now in
    let read : volume ≡ volume_of c.args.self.now c.args.vol =
    volume_read c.self.inside.volumes.items c.index.result c.args.vol volume (omega (arith, c.self.invariant.0)) c.index.ensures.value c.index-volume.ensures
    ∙ ap (λ (s : Spaces). volume_of s c.args.vol) c.self.view_is in
    subst (λ (o : Option VolumeSpace). OnOk c.push_runs_on.result (AddsRuns (IsRunOn c.args.vol o) c.args.runs.now.items c.push_runs_on.new.runs.items)) read c.push_runs_on.ensures
