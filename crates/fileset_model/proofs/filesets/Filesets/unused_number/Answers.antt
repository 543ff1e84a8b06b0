use Rattle.std.proofs.Common.{◌≡◌, ℕ, List, None, Some, ◌<◌, ◌≤◌, length, ap, subst, sym, ◌∙◌, arith}
use Rattle.std.specs.FinMap.{get}
use Rattle.std.specs.FinMap.Entries.{find}
use Rattle.fileset_values.specs.Orders.{Name, name_cmp}
use Rattle.fileset_model.specs.Filesets.{FilesetMap}
use Rattle.fileset_model.specs.declared.fileset.FilesetSlot.{FilesetSlot}
use Rattle.sorted_sets.proofs.EntryLemmas.{find-stands, get-from_sorted}
use Rattle.fileset_model.proofs.filesets.Filesets.unused_number.Goals as goal

before : (i length index : ℕ) → i < length → length ≤ index → i < index
before i length index h g = omega arith

pub returns : goal.returns
returns c = λ name slot is.
    let items = c.deref-slot-items.result.now in
    let found : find name_cmp name items ≡ Some slot =
    ap (λ (es : List (Name × FilesetSlot)). find name_cmp name es) c.deref-slot-items.ensures.value
    ∙ sym (get-from_sorted name_cmp c.self.inside.slots.items name c.self.invariant)
    ∙ ap (λ (all : FilesetMap). get all name) c.self.view_is ∙ is in
    let there = find-stands name_cmp name items slot found in
    let d : Name × FilesetSlot = (name, slot) in
    subst (λ (s : FilesetSlot). get s.tree.nodes c.loop-slot.number ≡ None) (there.2 d) (c.loop-slot.invariant there.0 (before _ _ _ there.1 c.loop-slot-test.false) d c.loop-slot.number (omega arith))
