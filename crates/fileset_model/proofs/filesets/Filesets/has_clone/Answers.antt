use Rattle.std.proofs.Common.{◌≡◌, ◌+◌, ◌||◌, List, Bool, [], true, drop, ap, sym, ◌∙◌, arith}
use Rattle.std.proofs.lemmas.List.{drop_all}
use Rattle.std.specs.FinMap.{entries}
use Rattle.fileset_model.specs.Apply.{is_clone_of}
use Rattle.fileset_values.specs.Orders.{Name, name_cmp}
use Rattle.fileset_model.specs.Filesets.{FilesetMap}
use Rattle.fileset_model.specs.declared.fileset.FilesetSlot.{FilesetSlot}
use Rattle.sorted_sets.proofs.EntryLemmas.{entries-from_sorted}
use Rattle.fileset_model.proofs.WholeLemmas.{any_value, any_value-step}
use Rattle.fileset_model.proofs.filesets.Filesets.has_clone.Goals as goal

pub returns-then-is_clone_of : goal.returns-then-is_clone_of
returns-then-is_clone_of c =
    let test = λ (slot : FilesetSlot). is_clone_of c.args.name.now slot.role in
    let items = c.deref-slot-items.result.now in
    let i = c.loop-slot.slot-index in
    let item = c.loop-slot-item.result in
    let whole : items ≡ entries c.args.self.now =
    c.deref-slot-items.ensures.value ∙ sym (entries-from_sorted name_cmp c.self.inside.slots.items c.self.invariant) ∙ ap (λ (all : FilesetMap). entries all) c.self.view_is in
    let yes : test item.1 ≡ true = sym c.is_clone_of.ensures ∙ c.if-is_clone_of.true in
    ap (λ (b : Bool). b || any_value test (drop (i + 1) items)) (sym yes)
    ∙ sym (any_value-step test items i item (omega arith) c.loop-slot-item.is)
    ∙ c.loop-slot.invariant
    ∙ ap (λ (es : List (Name × FilesetSlot)). any_value test es) whole

pub returns : goal.returns
returns c =
    let test = λ (slot : FilesetSlot). is_clone_of c.args.name.now slot.role in
    let items = c.deref-slot-items.result.now in
    let i = c.loop-slot.slot-index in
    let whole : items ≡ entries c.args.self.now =
    c.deref-slot-items.ensures.value ∙ sym (entries-from_sorted name_cmp c.self.inside.slots.items c.self.invariant) ∙ ap (λ (all : FilesetMap). entries all) c.self.view_is in
    let none : drop i items ≡ [] = drop_all i items (omega arith) in
    ap (λ (es : List (Name × FilesetSlot)). any_value test es) (sym none)
    ∙ c.loop-slot.invariant
    ∙ ap (λ (es : List (Name × FilesetSlot)). any_value test es) whole
