use Rattle.std.proofs.Common.{ℕ, List, ap, sym, ◌∙◌}
use Rattle.std.specs.Ordering.{nat_cmp}
use Rattle.std.specs.FinMap.{get}
use Rattle.std.specs.FinMap.Entries.{find}
use Rattle.fileset_model.specs.Fileset.{Fileset}
use Rattle.fileset_model.specs.declared.node.Node.{Node}
use Rattle.sorted_sets.proofs.EntryLemmas.{get-from_sorted}
use Rattle.fileset_model.proofs.fileset.FilesetTree.node.Goals as goal

pub returns : goal.returns
returns c =
    let number = c.args.number in
    c.find.ensures
    ∙ ap (λ (es : List (ℕ × Node)). find nat_cmp number es) c.deref.ensures.value
    ∙ sym (get-from_sorted nat_cmp c.self.inside.nodes.items number c.self.invariant.1)
    ∙ ap (λ (tree : Fileset). get tree.nodes number) c.self.view_is
