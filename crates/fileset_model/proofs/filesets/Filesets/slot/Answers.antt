use Rattle.std.proofs.Common.{List, ap, sym, ◌∙◌}
use Rattle.std.specs.FinMap.{get}
use Rattle.std.specs.FinMap.Entries.{find}
use Rattle.fileset_values.specs.Orders.{Name, name_cmp}
use Rattle.fileset_model.specs.Filesets.{FilesetMap}
use Rattle.fileset_model.specs.declared.fileset.FilesetSlot.{FilesetSlot}
use Rattle.sorted_sets.proofs.EntryLemmas.{get-from_sorted}
use Rattle.fileset_model.proofs.filesets.Filesets.slot.Goals as goal

pub returns : goal.returns
returns c =
    let name = c.args.name.now in
    c.find.ensures
    ∙ ap (λ (es : List (Name × FilesetSlot)). find name_cmp name es) c.deref.ensures.value
    ∙ sym (get-from_sorted name_cmp c.self.inside.slots.items name c.self.invariant)
    ∙ ap (λ (all : FilesetMap). get all name) c.self.view_is
