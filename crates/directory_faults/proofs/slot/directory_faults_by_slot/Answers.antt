use Rattle.directory_faults.proofs.SlotFaults.{by_slot}
use Rattle.directory_faults.proofs.slot.directory_faults_by_slot.Goals as goal

pub returns : goal.returns
returns c = by_slot
