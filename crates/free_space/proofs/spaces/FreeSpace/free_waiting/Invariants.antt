use Rattle.free_space.specs.VolumeSpace.{with_none_waiting}
use Rattle.free_space.specs.Sound.{AreSoundVolumes}
use Rattle.free_space.proofs.Mapping.{IsPartMapped}
use Rattle.free_space.proofs.spaces.FreeSpace.free_waiting.Given as goal

abbrev pub invariant-loop-slot : goal.invariant-loop-slot
invariant-loop-slot l = record {
  part : IsPartMapped with_none_waiting l.initial.slot-items l.slot-items l.slot-index;
  sound : AreSoundVolumes l.slot-items;
}
