use Rattle.std.proofs.Common.{◌≡◌, take}
use Rattle.free_space.specs.VolumeSpace.{without_due}
use Rattle.free_space.proofs.volume.release.Given as goal

abbrev pub invariant-loop-page : goal.invariant-loop-page
invariant-loop-page l = l.map ≡ record l.initial.map { used = without_due l.initial.map.used (take l.page-index l.page-items) l.kind l.group }
