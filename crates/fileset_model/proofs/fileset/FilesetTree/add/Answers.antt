use Rattle.std.proofs.Common.{◌≡◌, ℕ, List, ap, ◌∙◌}
use Rattle.std.specs.Ordering.{nat_cmp}
use Rattle.std.specs.Cmp.{nat_cmp_total}
use Rattle.std.specs.FinMap.{from_sorted}
use Rattle.std.specs.FinMap.Entries.{put}
use Rattle.fileset_values.specs.Orders.{Path, path_cmp, path_cmp-total}
use Rattle.fileset_model.specs.Apply.{with_node}
use Rattle.fileset_model.specs.declared.node.Node.{Node}
use Rattle.sorted_sets.proofs.EntryLemmas.{insert-from_sorted}
use Rattle.fileset_model.proofs.TreeLemmas.{tree_of}
use Rattle.fileset_model.proofs.fileset.FilesetTree.add.Goals as goal

pub returns-clause-ok : goal.returns-clause-ok
returns-clause-ok c =
    let path = c.args.path in
    let number = c.args.number in
    let node = c.args.node in
    let old = c.self.inside in
    let paths : c.put-2.new.entries.items ≡ put path_cmp path number old.paths.items =
    c.in_ok-put-2.ensures.ok ∙ ap (λ (es : List (Path × ℕ)). put path_cmp path number es) c.reserve.ensures.items in
    let nodes : c.put.new.entries.items ≡ put nat_cmp number node old.nodes.items = c.in_ok-put.ensures.ok in
    ap (λ (es : List (Path × ℕ)). tree_of es c.put.new.entries.items old.limits.items) paths
    ∙ ap (λ (es : List (ℕ × Node)). tree_of (put path_cmp path number old.paths.items) es old.limits.items) nodes
    ∙ (λ i. record {
      paths = insert-from_sorted path_cmp-total old.paths.items path number c.self.invariant.0 i;
      nodes = insert-from_sorted nat_cmp_total old.nodes.items number node c.self.invariant.1 i;
      limits = from_sorted old.limits.items;
    })
    ∙ ap (with_node path number node) c.self.view_is
