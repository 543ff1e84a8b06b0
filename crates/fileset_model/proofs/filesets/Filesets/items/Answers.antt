use Rattle.std.proofs.Common.{◌≡◌, map, take, ap, sym, ◌∙◌, arith}
use Rattle.std.proofs.lemmas.Grind.{common_steps}
use Rattle.std.specs.FinMap.{entries}
use Rattle.fileset_model.specs.Apply.{original_of}
use Rattle.fileset_values.specs.Orders.{Name, name_cmp}
use Rattle.fileset_model.specs.Filesets.{FilesetMap}
use Rattle.fileset_model.specs.declared.fileset.FilesetSlot.{FilesetSlot}
use Rattle.fileset_values.specs.declared.reply.FilesetItem.{FilesetItem}
use Rattle.sorted_sets.proofs.EntryLemmas.{entries-from_sorted}
use Rattle.fileset_model.proofs.filesets.Filesets.items.Goals as goal

abbrev row_of : Name × FilesetSlot → FilesetItem
row_of e = record { fileset = e.0; original = original_of e.1.role }

pub returns : goal.returns
returns c =
    let items = c.deref-name-items.result.now in
    let whole : take c.loop-name.name-index items ≡ items = grind (arith, common_steps) in
    c.loop-name.invariant
    ∙ ap (map row_of) (whole ∙ c.deref-name-items.ensures.value ∙ sym (entries-from_sorted name_cmp c.self.inside.slots.items c.self.invariant) ∙ ap (λ (all : FilesetMap). entries all) c.self.view_is)
