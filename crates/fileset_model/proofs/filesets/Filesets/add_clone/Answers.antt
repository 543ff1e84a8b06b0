use Rattle.std.proofs.Common.{ap, sym, ◌∙◌}
use Rattle.std.specs.FinMap.{from_sorted, insert}
use Rattle.std.specs.FinMap.Entries.{put}
use Rattle.fileset_values.specs.Orders.{Name, name_cmp, name_cmp-total}
use Rattle.fileset_model.specs.Filesets.{FilesetMap}
use Rattle.fileset_model.specs.declared.fileset.FilesetSlot.{FilesetSlot}
use Rattle.sorted_sets.proofs.EntryLemmas.{insert-from_sorted}
use Rattle.fileset_model.proofs.WholeLemmas.{cloned, with_clone-at}
use Rattle.fileset_model.proofs.filesets.Filesets.add_clone.Goals as goal

pub returns-clause-ok : goal.returns-clause-ok
returns-clause-ok c =
    let name = c.args.name.now in
    let new_name = c.args.new_name.now in
    let slots = c.self.inside.slots.items in
    let slot = c.in-Some.slot.now in
    ap from_sorted c.in_ok-put.ensures.ok
    ∙ ap (λ (n : Name). from_sorted {R = name_cmp} (put name_cmp n c.in_ok-clone.clone slots)) c.in_ok-copy.ensures
    ∙ ap (λ (s : FilesetSlot). from_sorted {R = name_cmp} (put name_cmp new_name s slots)) c.in_ok-clone.ensures
    ∙ insert-from_sorted name_cmp-total slots new_name (cloned name slot) c.self.invariant
    ∙ ap (λ (all : FilesetMap). insert all new_name (cloned name slot)) c.self.view_is
    ∙ sym (with_clone-at c.args.self.now name new_name slot (sym c.in-Some.ensures))
