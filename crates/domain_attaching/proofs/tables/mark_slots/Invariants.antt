use Rattle.attached_domain.specs.domain_standing.Domain.{layout_of}
use Rattle.attached_domain.specs.domain_memory.Staged.{staged_in}
use Rattle.domain_attaching.specs.Tables.{Marks}
use Rattle.domain_attaching.proofs.TablesMarked.{HasTagPageBelow}
use Rattle.domain_attaching.proofs.tables.mark_slots.Given as goal

abbrev pub invariant-loop-number : goal.invariant-loop-number
invariant-loop-number l = Marks (HasTagPageBelow (layout_of (staged_in l.memory)) l.vol l.number) l.fn.marks l.marks
