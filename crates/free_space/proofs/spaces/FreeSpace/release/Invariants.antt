use Rattle.free_space.specs.VolumeSpace.{with_released}
use Rattle.free_space.specs.Sound.{AreSoundVolumes}
use Rattle.free_space.proofs.Mapping.{IsPartMapped}
use Rattle.free_space.proofs.spaces.FreeSpace.release.Given as goal

abbrev pub invariant-loop-slot : goal.invariant-loop-slot
invariant-loop-slot l = record {
  part : IsPartMapped (with_released l.kind l.group) l.initial.slot-items l.slot-items l.slot-index;
  sound : AreSoundVolumes l.slot-items;
}
