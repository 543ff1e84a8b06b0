use Rattle.domain_memory.specs.Slots.{IsTakenBack}
use Rattle.domain_memory.proofs.SlotsChanged.{ChangesPart}
use Rattle.domain_memory.proofs.slots.take_back_slots.Given as goal

abbrev pub invariant-loop-slot : goal.invariant-loop-slot
invariant-loop-slot l = ChangesPart IsTakenBack l.initial.slot-items l.slot-items l.slot-index
