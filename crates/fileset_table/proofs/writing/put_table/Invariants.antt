use Rattle.fileset_table.proofs.Slots.{Wrote}
use Rattle.fileset_table.proofs.writing.put_table.Given as goal

abbrev pub invariant-loop-number : goal.invariant-loop-number
invariant-loop-number l = Wrote l.slots l.made l.number l.fn.page l.page
