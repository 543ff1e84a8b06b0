use Rattle.std.proofs.Common.{ap, ◌∙◌}
use Rattle.std.specs.FinMap.{from_sorted, insert}
use Rattle.fileset_values.specs.Orders.{name_cmp-total}
use Rattle.fileset_model.specs.Filesets.{FilesetMap}
use Rattle.sorted_sets.proofs.EntryLemmas.{insert-from_sorted}
use Rattle.fileset_model.proofs.filesets.Filesets.insert.Goals as goal

pub returns-clause-ok : goal.returns-clause-ok
returns-clause-ok c =
    ap from_sorted c.in_ok-put.ensures.ok
    ∙ insert-from_sorted name_cmp-total c.self.inside.slots.items c.args.name c.args.slot c.self.invariant
    ∙ ap (λ (all : FilesetMap). insert all c.args.name c.args.slot) c.self.view_is
