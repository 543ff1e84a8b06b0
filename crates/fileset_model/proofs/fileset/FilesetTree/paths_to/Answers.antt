use Rattle.std.proofs.Common.{ℕ, List, ◌==◌, count_by, ap, sym, ◌∙◌}
use Rattle.std.specs.FinMap.{entries}
use Rattle.fileset_values.specs.Orders.{Path, path_cmp}
use Rattle.fileset_model.specs.Fileset.{Fileset}
use Rattle.sorted_sets.proofs.EntryLemmas.{entries-from_sorted}
use Rattle.fileset_model.proofs.fileset.FilesetTree.paths_to.Goals as goal

pub returns : goal.returns
returns c =
    c.count_paths.ensures
    ∙ ap (λ (es : List (Path × ℕ)). count_by (λ (e : Path × ℕ). e.1 == c.args.number) es)
    (c.deref.ensures.value ∙ sym (entries-from_sorted path_cmp c.self.inside.paths.items c.self.invariant.0) ∙ ap (λ (tree : Fileset). entries tree.paths) c.self.view_is)
