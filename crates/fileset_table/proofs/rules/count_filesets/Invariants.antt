use Rattle.std.proofs.Common.{◌≡◌, ◌≤◌, count_by, take}
use Rattle.fileset_table.specs.Table.{is_fileset}
use Rattle.fileset_table.proofs.rules.count_filesets.Given as goal

abbrev pub invariant-loop-slot : goal.invariant-loop-slot
invariant-loop-slot l = record {
  counted : l.count ≡ count_by is_fileset (take l.slot-index l.slots);
  few : l.count ≤ l.slot-index;
}
