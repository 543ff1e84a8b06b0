use Rattle.std.proofs.Common.{◌≡◌, false, take}
use Rattle.std.specs.List.{list_any}
use Rattle.fileset_table.specs.Table.{is_free}
use Rattle.fileset_table.proofs.table.find_free.Given as goal

abbrev pub invariant-loop-number : goal.invariant-loop-number
invariant-loop-number l = list_any is_free (take l.number l.slots) ≡ false
