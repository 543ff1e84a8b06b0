use Rattle.std.proofs.Common.{◌≤◌, length, subst, arith}
use Rattle.std.specs.FinSet.{len}
use Rattle.free_space.specs.VolumeSpace.{VolumeSpace}
use Rattle.free_space.proofs.StaysSound.{waiting_used}
use Rattle.free_space.proofs.volume.Volume.count_held.Goals as goal

pub overflow_sub-result-2 : goal.overflow_sub-result-2
overflow_sub-result-2 c =
    let bound = subst (λ (v : VolumeSpace). length v.waiting ≤ len c.self.inside.map.used) c.self.view_is (waiting_used c.self.invariant.sound) in
    omega (arith, bound)
