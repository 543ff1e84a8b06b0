use Rattle.std.proofs.Common.{◌≡◌, take}
use Rattle.free_space.specs.VolumeSpace.{without_waiting}
use Rattle.free_space.proofs.volume.free_each.Given as goal

abbrev pub invariant-loop-page : goal.invariant-loop-page
invariant-loop-page l = l.map ≡ record l.initial.map { used = without_waiting l.initial.map.used (take l.page-index l.waiting) }
