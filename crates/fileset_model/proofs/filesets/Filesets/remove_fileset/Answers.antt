use Rattle.std.proofs.Common.{List, ap, ◌∙◌}
use Rattle.std.specs.FinMap.{from_sorted, remove}
use Rattle.fileset_values.specs.Orders.{Name, name_cmp, name_cmp-total, name_cmp-IsAntisymmetric}
use Rattle.fileset_model.specs.Filesets.{FilesetMap}
use Rattle.fileset_model.specs.declared.fileset.FilesetSlot.{FilesetSlot}
use Rattle.fileset_model.proofs.ChangeLemmas.{remove-from_sorted}
use Rattle.fileset_model.proofs.filesets.Filesets.remove_fileset.Goals as goal

pub returns : goal.returns
returns c =
    let name = c.args.name.now in
    ap (λ (es : List (Name × FilesetSlot)). from_sorted {R = name_cmp} es) c.take_away.ensures.items
    ∙ remove-from_sorted name_cmp-total name_cmp-IsAntisymmetric name c.self.inside.slots.items c.self.invariant
    ∙ ap (λ (all : FilesetMap). remove all name) c.self.view_is
