use Rattle.std.proofs.Common.{◌≡◌, List, None, ap, subst, sym, ◌∙◌}
use Rattle.std.specs.FinMap.{get}
use Rattle.std.specs.FinMap.Entries.{find}
use Rattle.sorted_sets.specs.Entries.{IsPlaceOf}
use Rattle.fileset_values.specs.Orders.{Name, name_cmp, name_cmp-total}
use Rattle.fileset_model.specs.Fileset.{Fileset}
use Rattle.fileset_model.specs.Filesets.{FilesetMap}
use Rattle.fileset_model.specs.Apply.{renamed, with_tree}
use Rattle.fileset_model.specs.declared.fileset.FilesetSlot.{FilesetSlot}
use Rattle.sorted_sets.proofs.EntryLemmas.{get-from_sorted, sorted_at_place}
use Rattle.fileset_model.proofs.SlotLemmas.{tree_at_place, with_tree-missing}
use Rattle.fileset_model.proofs.filesets.Filesets.rename.Goals as goal

pub returns-in_default-clause-ok : goal.returns-in_default-clause-ok
returns-in_default-clause-ok c =
    let name = c.args.place.now.fileset in
    let none : get c.args.self.now name ≡ None =
    ap (λ (all : FilesetMap). get all name) (sym c.self.view_is)
    ∙ get-from_sorted name_cmp c.self.inside.slots.items name c.self.invariant
    ∙ ap (λ (es : List (Name × FilesetSlot)). find name_cmp name es) (sym c.deref.ensures.value)
    ∙ c.in_default.ensures.gap.absent in
    sym (with_tree-missing c.args.self.now name (renamed c.args.place.now.path c.args.to.now) none)

pub invariant_of-self-2 : goal.invariant_of-self-2
invariant_of-self-2 c =
    let name = c.args.place.now.fileset in
    let item = c.index_mut.result.now in
    let place = subst (λ (es : List (Name × FilesetSlot)). IsPlaceOf name_cmp es name c.in-Ok.at) c.deref.ensures.value c.in-Ok.ensures.place in
    sorted_at_place c.self.inside.slots.items name c.in-Ok.at item place c.index_mut.ensures.value name_cmp-total c.self.invariant (record item.1 { tree = c.rename.new.self })

pub returns-clause-ok : goal.returns-clause-ok
returns-clause-ok c =
    let name = c.args.place.now.fileset in
    let item = c.index_mut.result.now in
    let change : Fileset → Fileset = renamed c.args.place.now.path c.args.to.now in
    let place = subst (λ (es : List (Name × FilesetSlot)). IsPlaceOf name_cmp es name c.in-Ok.at) c.deref.ensures.value c.in-Ok.ensures.place in
    tree_at_place c.self.inside.slots.items name c.in-Ok.at item c.rename.new.self change c.self.invariant place c.index_mut.ensures.value c.in_ok-rename.ensures.ok
    ∙ ap (λ (all : FilesetMap). with_tree all name change) c.self.view_is
