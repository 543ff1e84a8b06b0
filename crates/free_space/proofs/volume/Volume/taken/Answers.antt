use Rattle.std.proofs.Common.{subst}
use Rattle.free_space.specs.VolumeSpace.{VolumeSpace}
use Rattle.free_space.specs.Spaces.{AreTakenOn}
use Rattle.std.proofs.Common.{Some}
use Rattle.free_space.proofs.Changing.{taken_is}
use Rattle.free_space.proofs.volume.Volume.taken.Goals as goal

pub returns : goal.returns
returns c =
    subst (λ (v : VolumeSpace). AreTakenOn (Some v) c.as_slice.result.now) c.self.view_is
    (rw (c.as_slice.ensures.value) (taken_is c.self.invariant.changes, c.self.invariant.changes.taken_once))
