use Rattle.std.proofs.Common.{ℕ, List, ap, sym, ◌∙◌}
use Rattle.std.specs.FinMap.{get}
use Rattle.fileset_values.specs.Orders.{Path, path_cmp-total}
use Rattle.fileset_model.specs.Fileset.{Fileset}
use Rattle.fileset_model.specs.Apply.{linked}
use Rattle.fileset_model.proofs.ChangeLemmas.{linked-at}
use Rattle.sorted_sets.proofs.EntryLemmas.{insert-from_sorted}
use Rattle.fileset_model.proofs.TreeLemmas.{tree_of}
use Rattle.fileset_model.proofs.fileset.FilesetTree.link.Goals as goal

pub returns-clause-ok : goal.returns-clause-ok
returns-clause-ok c =
    let path = c.args.path.now in
    let to = c.args.to in
    let number = c.in-Some.number in
    let old = c.self.inside in
    let tree = tree_of old.paths.items old.nodes.items old.limits.items in
    let leads = ap (λ (t : Fileset). get t.paths path) c.self.view_is ∙ sym c.in-Some.ensures in
    ap (λ (es : List (Path × ℕ)). tree_of es old.nodes.items old.limits.items) c.in_ok-put.ensures.ok
    ∙ ap (λ p. record tree { paths = p }) (insert-from_sorted path_cmp-total old.paths.items to number c.self.invariant.0)
    ∙ sym (linked-at tree path to number leads)
    ∙ ap (linked path to) c.self.view_is
