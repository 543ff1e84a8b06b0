use Rattle.free_cells.proofs.Sound.{none_sound}
use Rattle.free_cells.proofs.volume.VolumeCells.new.Goals as goal

pub invariant_of-result : goal.invariant_of-result
invariant_of-result c = none_sound _ _ _ _ _ c.new.ensures.items c.new-2.ensures.items c.new-3.ensures.items
