use Rattle.std.proofs.Common.{◌≡◌, ℕ, List, [], ◌∷◌, ◌++◌, ap, ◌∙◌}
use Rattle.std.specs.Cmp.{nat_cmp_total}
use Rattle.fileset_values.specs.Orders.{Path, path_cmp-total, owner_cmp}
use Rattle.fileset_values.specs.declared.command.Owner.{Owner}
use Rattle.fileset_model.specs.declared.node.Node.{Node}
use Rattle.fileset_model.specs.declared.node.Node.TheVariants.{Directory}
use Rattle.fileset_model.specs.declared.fileset.Limits.{Limits}
use Rattle.sorted_sets.proofs.EntryLemmas.{from_sorted-empty, from_sorted-one}
use Rattle.fileset_model.proofs.TreeLemmas.{tree_of}
use Rattle.fileset_model.proofs.fileset.FilesetTree.empty.Goals as goal

pub returns : goal.returns
returns c =
    let root = c.args.root in
    let paths : c.push.new.self.items ≡ ([], root) ∷ [] =
    c.in_ok-push.ensures.items ∙ ap (λ (l : List (Path × ℕ)). l ++ (c.root.result, root) ∷ []) c.new-paths.ensures.items ∙ ap (λ (p : Path). (p, root) ∷ []) c.root.ensures in
    let nodes : c.push-2.new.self.items ≡ (root, Directory 0 0) ∷ [] =
    c.in_ok-push-2.ensures.items ∙ ap (λ (l : List (ℕ × Node)). l ++ (root, Directory 0 0) ∷ []) c.new-nodes.ensures.items in
    ap (λ (l : List (Path × ℕ)). tree_of l c.push-2.new.self.items c.new.result.items) paths
    ∙ ap (λ (l : List (ℕ × Node)). tree_of (([], root) ∷ []) l c.new.result.items) nodes
    ∙ ap (λ (l : List (Owner × Limits)). tree_of (([], root) ∷ []) ((root, Directory 0 0) ∷ []) l) c.new.ensures.items
    ∙ (λ i. record {
      paths = from_sorted-one path_cmp-total [] root i;
      nodes = from_sorted-one nat_cmp_total root (Directory 0 0) i;
      limits = from_sorted-empty owner_cmp i;
    })
