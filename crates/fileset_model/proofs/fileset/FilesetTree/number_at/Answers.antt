use Rattle.std.proofs.Common.{ℕ, List, ap, sym, ◌∙◌}
use Rattle.std.specs.FinMap.{get}
use Rattle.std.specs.FinMap.Entries.{find}
use Rattle.fileset_values.specs.Orders.{Path, path_cmp}
use Rattle.fileset_model.specs.Fileset.{Fileset}
use Rattle.sorted_sets.proofs.EntryLemmas.{get-from_sorted}
use Rattle.fileset_model.proofs.fileset.FilesetTree.number_at.Goals as goal

pub returns : goal.returns
returns c =
    let path = c.args.path.now in
    c.copied.ensures ∙ c.find.ensures
    ∙ ap (λ (es : List (Path × ℕ)). find path_cmp path es) c.deref.ensures.value
    ∙ sym (get-from_sorted path_cmp c.self.inside.paths.items path c.self.invariant.0)
    ∙ ap (λ (tree : Fileset). get tree.paths path) c.self.view_is
