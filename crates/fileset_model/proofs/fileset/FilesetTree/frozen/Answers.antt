use Rattle.std.proofs.Common.{◌≡◌, ℕ, List, ap, ◌∙◌}
use Rattle.std.specs.FinMap.{empty, from_sorted}
use Rattle.fileset_values.specs.Orders.{Path, owner_cmp}
use Rattle.fileset_model.specs.Fileset.{Fileset}
use Rattle.fileset_values.specs.declared.command.Owner.{Owner}
use Rattle.fileset_model.specs.declared.fileset.Limits.{Limits}
use Rattle.fileset_model.specs.declared.node.Node.{Node}
use Rattle.sorted_sets.proofs.EntryLemmas.{from_sorted-empty}
use Rattle.fileset_model.proofs.TreeLemmas.{tree_of}
use Rattle.fileset_model.proofs.fileset.FilesetTree.frozen.Goals as goal

pub returns : goal.returns
returns c =
    let old = c.self.inside in
    let paths : c.in_ok-paths.paths.items ≡ old.paths.items = c.in_ok-paths.ensures ∙ c.deref.ensures.value in
    let nodes : c.in_ok-nodes.nodes.items ≡ old.nodes.items = c.in_ok-nodes.ensures ∙ c.deref-2.ensures.value in
    ap (λ (es : List (Path × ℕ)). tree_of es c.in_ok-nodes.nodes.items c.new.result.items) paths
    ∙ ap (λ (es : List (ℕ × Node)). tree_of old.paths.items es c.new.result.items) nodes
    ∙ ap (λ (es : List (Owner × Limits)). tree_of old.paths.items old.nodes.items es) c.new.ensures.items
    ∙ (λ i. record {
      paths = from_sorted old.paths.items;
      nodes = from_sorted old.nodes.items;
      limits = from_sorted-empty owner_cmp i;
    })
    ∙ ap (λ (tree : Fileset). record tree { limits = empty }) c.self.view_is
