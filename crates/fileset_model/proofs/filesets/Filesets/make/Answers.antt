use Rattle.std.proofs.Common.{ap, ◌∙◌}
use Rattle.std.specs.FinMap.{from_sorted, insert}
use Rattle.std.specs.FinMap.Entries.{put}
use Rattle.fileset_values.specs.Orders.{Name, name_cmp, name_cmp-total}
use Rattle.fileset_model.specs.Fileset.{Fileset}
use Rattle.fileset_model.specs.Filesets.{FilesetMap}
use Rattle.fileset_model.specs.Apply.{empty_fileset}
use Rattle.fileset_model.specs.declared.fileset.FilesetSlot.{FilesetSlot}
use Rattle.fileset_model.specs.declared.fileset.Role.TheVariants.{Original}
use Rattle.sorted_sets.proofs.EntryLemmas.{insert-from_sorted}
use Rattle.fileset_model.proofs.filesets.Filesets.make.Goals as goal

pub returns-clause-ok : goal.returns-clause-ok
returns-clause-ok c =
    let name = c.args.name.now in
    let slots = c.self.inside.slots.items in
    let made : Fileset → FilesetSlot = λ tree. record { tree = tree; role = Original } in
    ap from_sorted c.in_ok-put.ensures.ok
    ∙ ap (λ (n : Name). from_sorted {R = name_cmp} (put name_cmp n (made c.in_ok-tree.tree) slots)) c.in_ok-copy.ensures
    ∙ ap (λ (tree : Fileset). from_sorted {R = name_cmp} (put name_cmp name (made tree) slots)) c.in_ok-tree.ensures
    ∙ insert-from_sorted name_cmp-total slots name (made (empty_fileset 0)) c.self.invariant
    ∙ ap (λ (all : FilesetMap). insert all name (made (empty_fileset 0))) c.self.view_is
