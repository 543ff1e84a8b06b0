use Rattle.std.proofs.Common.{subst}
use Rattle.free_space.specs.VolumeSpace.{VolumeSpace}
use Rattle.free_space.specs.Spaces.{AreFreedOn}
use Rattle.std.proofs.Common.{Some}
use Rattle.free_space.proofs.Changing.{freed_is}
use Rattle.free_space.proofs.volume.Volume.freed.Goals as goal

pub returns : goal.returns
returns c =
    subst (λ (v : VolumeSpace). AreFreedOn (Some v) c.as_slice.result.now) c.self.view_is
    (rw (c.as_slice.ensures.value) (freed_is c.self.invariant.changes, c.self.invariant.changes.freed_once))
