use Rattle.index_row_faults.proofs.IndexSlots.{by_slot}
use Rattle.index_row_faults.proofs.wrong.wrong_indexes_by_slot.Goals as goal

pub returns : goal.returns
returns c = by_slot
