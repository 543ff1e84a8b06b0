use Rattle.free_space.specs.VolumeSpace.{as_kept}
use Rattle.free_space.specs.Sound.{AreSoundVolumes}
use Rattle.free_space.proofs.Mapping.{IsPartMapped}
use Rattle.free_space.proofs.spaces.FreeSpace.take_back.Given as goal

abbrev pub invariant-loop-slot : goal.invariant-loop-slot
invariant-loop-slot l = record {
  part : IsPartMapped as_kept l.initial.slot-items l.slot-items l.slot-index;
  sound : AreSoundVolumes l.slot-items;
}
