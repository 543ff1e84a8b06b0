use Rattle.std.proofs.Common.{◌≡◌, length}
use Rattle.std.specs.List.{AllByRecursion}
use Rattle.fileset_table.specs.declared.slot.SlotItem.TheVariants.{Free}
use Rattle.fileset_table.proofs.table.FilesetTable.new.Given as goal

abbrev pub invariant-loop : goal.invariant-loop
invariant-loop l = record {
  counted : length l.slots.items ≡ l.counter;
  free : AllByRecursion (λ item. item ≡ Free) l.slots.items;
}
