use Rattle.free_space.specs.VolumeSpace.{keeping}
use Rattle.free_space.specs.Sound.{AreSoundVolumes}
use Rattle.free_space.proofs.Mapping.{IsPartMapped}
use Rattle.free_space.proofs.spaces.FreeSpace.keep.Given as goal

abbrev pub invariant-loop-slot : goal.invariant-loop-slot
invariant-loop-slot l = record {
  part : IsPartMapped keeping l.initial.slot-items l.slot-items l.slot-index;
  sound : AreSoundVolumes l.slot-items;
}
