use Rattle.std.proofs.Common.{◌≡◌, List, None, ap, subst, sym, ◌∙◌}
use Rattle.std.specs.FinMap.{get}
use Rattle.std.specs.FinMap.Entries.{find}
use Rattle.sorted_sets.specs.Entries.{IsPlaceOf}
use Rattle.fileset_values.specs.Orders.{Name, name_cmp, name_cmp-total}
use Rattle.fileset_model.specs.Fileset.{Fileset}
use Rattle.fileset_model.specs.Filesets.{FilesetMap}
use Rattle.fileset_model.specs.Apply.{with_tree}
use Rattle.fileset_model.specs.Usage.{with_limits}
use Rattle.fileset_values.specs.declared.command.Owner.{Owner}
use Rattle.fileset_model.specs.declared.fileset.FilesetSlot.{FilesetSlot}
use Rattle.fileset_model.specs.declared.fileset.Limits.{Limits}
use Rattle.sorted_sets.proofs.EntryLemmas.{get-from_sorted, sorted_at_place}
use Rattle.fileset_model.proofs.SlotLemmas.{tree_at_place, with_tree-missing}
use Rattle.fileset_model.proofs.filesets.Filesets.limit.Goals as goal

abbrev limited : Owner → Limits → Fileset → Fileset
limited who limits tree = record tree { limits = with_limits tree.limits who limits }

pub returns-in_default-clause-ok : goal.returns-in_default-clause-ok
returns-in_default-clause-ok c =
    let name = c.args.name.now in
    let none : get c.args.self.now name ≡ None =
    ap (λ (all : FilesetMap). get all name) (sym c.self.view_is)
    ∙ get-from_sorted name_cmp c.self.inside.slots.items name c.self.invariant
    ∙ ap (λ (es : List (Name × FilesetSlot)). find name_cmp name es) (sym c.deref.ensures.value)
    ∙ c.in_default.ensures.gap.absent in
    sym (with_tree-missing c.args.self.now name (limited c.args.who c.args.limits) none)

pub invariant_of-self-2 : goal.invariant_of-self-2
invariant_of-self-2 c =
    let name = c.args.name.now in
    let item = c.index_mut.result.now in
    let place = subst (λ (es : List (Name × FilesetSlot)). IsPlaceOf name_cmp es name c.in-Ok.at) c.deref.ensures.value c.in-Ok.ensures.place in
    sorted_at_place c.self.inside.slots.items name c.in-Ok.at item place c.index_mut.ensures.value name_cmp-total c.self.invariant (record item.1 { tree = c.limit.new.self })

pub returns-clause-ok : goal.returns-clause-ok
returns-clause-ok c =
    let name = c.args.name.now in
    let item = c.index_mut.result.now in
    let place = subst (λ (es : List (Name × FilesetSlot)). IsPlaceOf name_cmp es name c.in-Ok.at) c.deref.ensures.value c.in-Ok.ensures.place in
    tree_at_place c.self.inside.slots.items name c.in-Ok.at item c.limit.new.self (limited c.args.who c.args.limits) c.self.invariant place c.index_mut.ensures.value c.in_ok-limit.ensures.ok
    ∙ ap (λ (all : FilesetMap). with_tree all name (limited c.args.who c.args.limits)) c.self.view_is
