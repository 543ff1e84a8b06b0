use Rattle.standing_laws.proofs.SlotStays.{slot_stays_so}
use Rattle.standing_laws.proofs.elsewhere.a_slot_stays.Goals as goal

pub returns : goal.returns
returns c = slot_stays_so
