use Rattle.std.proofs.Common.{◌≡◌, drop}
use Rattle.fileset_model.specs.Apply.{is_clone_of}
use Rattle.fileset_model.specs.declared.fileset.FilesetSlot.{FilesetSlot}
use Rattle.fileset_model.proofs.WholeLemmas.{any_value}
use Rattle.fileset_model.proofs.filesets.Filesets.has_clone.Given as goal

abbrev pub invariant-loop-slot : goal.invariant-loop-slot
invariant-loop-slot l =
    any_value (λ (slot : FilesetSlot). is_clone_of l.name slot.role) (drop l.slot-index l.slot-items) ≡ any_value (λ (slot : FilesetSlot). is_clone_of l.name slot.role) l.slot-items
