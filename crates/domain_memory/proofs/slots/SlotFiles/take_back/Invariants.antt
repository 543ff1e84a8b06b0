use Rattle.domain_memory.proofs.TagsForgotten.{TagsLeft}
use Rattle.domain_memory.proofs.slots.SlotFiles.take_back.Given as goal

abbrev pub invariant-loop : goal.invariant-loop
invariant-loop l = TagsLeft l.initial.self l.self l.counter l.end
