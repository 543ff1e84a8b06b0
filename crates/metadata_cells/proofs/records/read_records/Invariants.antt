use Rattle.std.proofs.Common.{length, ◌-◌}
use Rattle.metadata_cells.proofs.OneByOne.{ReadSo}
use Rattle.metadata_cells.proofs.records.read_records.Given as goal

abbrev pub invariant-loop-at : goal.invariant-loop-at
invariant-loop-at l = ReadSo l.bytes l.fn.found.items l.found.items l.at l.last

abbrev pub decreases-loop-at : goal.decreases-loop-at
decreases-loop-at l = length l.bytes - l.at
