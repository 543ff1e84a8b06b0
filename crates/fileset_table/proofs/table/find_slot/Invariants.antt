use Rattle.std.proofs.Common.{◌≡◌, false, take}
use Rattle.std.specs.List.{list_any}
use Rattle.fileset_table.specs.Table.{has_name}
use Rattle.fileset_table.proofs.table.find_slot.Given as goal

abbrev pub invariant-loop-number : goal.invariant-loop-number
invariant-loop-number l = list_any (has_name l.name) (take l.number l.slots) ≡ false
