use Rattle.standing_laws.proofs.FilesetPut.{each_stands}
use Rattle.standing_laws.proofs.slots.each_original_stands_in_its_slot.Goals as goal

pub returns : goal.returns
returns c = each_stands
