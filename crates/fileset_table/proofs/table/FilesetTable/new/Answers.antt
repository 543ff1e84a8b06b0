use Rattle.std.proofs.Common.{arith, refl}
use Rattle.fileset_table.proofs.NewTable.{new_is_table}
use Rattle.fileset_table.proofs.table.FilesetTable.new.Goals as goal

pub invariant_of-result : goal.invariant_of-result
invariant_of-result c = new_is_table c.loop.slots.items (omega (arith, c.loop.invariant.counted)) c.loop.invariant.free

pub returns : goal.returns
returns c = record { good = new_is_table c.loop.slots.items (omega (arith, c.loop.invariant.counted)) c.loop.invariant.free; free = c.loop.invariant.free; none_made = refl }
