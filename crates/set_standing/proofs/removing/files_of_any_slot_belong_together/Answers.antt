use Rattle.set_standing.proofs.SlotLeft.{slot_at}
use Rattle.set_standing.proofs.removing.files_of_any_slot_belong_together.Goals as goal

pub returns : goal.returns
returns c = slot_at
