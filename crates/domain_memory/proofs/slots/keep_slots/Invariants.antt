use Rattle.domain_memory.specs.Slots.{IsKept}
use Rattle.domain_memory.proofs.SlotsChanged.{ChangesPart}
use Rattle.domain_memory.proofs.slots.keep_slots.Given as goal

abbrev pub invariant-loop-slot : goal.invariant-loop-slot
invariant-loop-slot l = ChangesPart IsKept l.initial.slot-items l.slot-items l.slot-index
