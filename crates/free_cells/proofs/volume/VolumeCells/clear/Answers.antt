use Rattle.free_cells.proofs.Sound.{none_sound}
use Rattle.free_cells.proofs.volume.VolumeCells.clear.Goals as goal

pub invariant_of-self : goal.invariant_of-self
invariant_of-self c = none_sound _ _ _ _ _ c.clear.ensures.items c.clear-2.ensures.items c.clear-3.ensures.items
