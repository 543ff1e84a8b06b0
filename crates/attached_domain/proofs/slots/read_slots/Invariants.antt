use Rattle.std.proofs.Common.{◌≡◌, ℕ, Option, Some, length, slice_get}
use Rattle.no_faults.specs.domain_memory.declared.slots.SlotFiles.{SlotFiles}
use Rattle.attached_domain.specs.Slots.{IsReadOf}
use Rattle.attached_domain.proofs.slots.read_slots.Given as goal

abbrev pub invariant-loop-n : goal.invariant-loop-n
invariant-loop-n g l = record {
  count : length l.slots.items ≡ l.n;
  each : (number : ℕ) (slot : Option SlotFiles) → slice_get l.slots.items number ≡ Some slot → IsReadOf (g.M.MetaPages.pages l.pages) l.table number slot;
}
