use Rattle.domain_memory.proofs.Listed.{ListedSoFar}
use Rattle.domain_memory.proofs.listing.put_on_list.Given as goal

abbrev pub invariant-loop-at : goal.invariant-loop-at
invariant-loop-at l = ListedSoFar l.at-items l.at-index l.initial.list.list l.list.list l.initial.list.room l.list.room
