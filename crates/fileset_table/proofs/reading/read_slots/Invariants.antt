use Rattle.fileset_table.proofs.ReadSlots.{ReadSo}
use Rattle.fileset_table.proofs.reading.read_slots.Given as goal

abbrev pub invariant-loop-number : goal.invariant-loop-number
invariant-loop-number l = ReadSo l.bytes l.number l.slots.items
