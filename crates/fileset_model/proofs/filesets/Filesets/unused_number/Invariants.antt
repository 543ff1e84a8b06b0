use Rattle.std.proofs.Common.{◌≡◌, ℕ, ◌<◌, ◌≤◌, None, get_or}
use Rattle.std.specs.FinMap.{get}
use Rattle.fileset_values.specs.Orders.{Name}
use Rattle.fileset_model.specs.declared.fileset.FilesetSlot.{FilesetSlot}
use Rattle.fileset_model.proofs.filesets.Filesets.unused_number.Given as goal

abbrev pub invariant-loop-slot : goal.invariant-loop-slot
invariant-loop-slot l = (i : ℕ) → i < l.slot-index → (d : Name × FilesetSlot) (k : ℕ) → l.number ≤ k → get (get_or l.slot-items i d).1.tree.nodes k ≡ None
