use Rattle.std.proofs.Common.{◌≡◌}
use Rattle.free_space.specs.VolumeSpace.{with_run}
use Rattle.free_space.specs.Sound.{IsSoundVolume}
use Rattle.free_space.proofs.volume.Volume.allocate_run.Given as goal

abbrev pub invariant-loop-offset : goal.invariant-loop-offset
invariant-loop-offset l = record {
  is : l.self ≡ with_run l.first l.offset l.initial.self;
  sound : IsSoundVolume l.self;
}
