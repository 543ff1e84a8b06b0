use Rattle.standing_laws.proofs.OtherSlots.{slot_stays}
use Rattle.standing_laws.proofs.slots.other_slots_stay.Goals as goal

pub returns : goal.returns
returns c = slot_stays
