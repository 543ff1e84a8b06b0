-- Changes of names leave files as they are.
use Rattle.std.proofs.Common.{◌≡◌, inl, inr, ℕ, Bool, true, false, cond, Option, Some, None, refl, sym, subst, ⊎_elim}
use Rattle.std.specs.Cmp.{nat_cmp_total}
use Rattle.std.specs.FinMap as map
use Rattle.std.specs.Option.{option_map_or}
use Rattle.standing_laws.specs.fileset_model.Apply.{is_named_elsewhere, linked, moved, renamed, with_node, without}
use Rattle.standing_laws.specs.fileset_model.Fileset.{Fileset}
use Rattle.standing_laws.specs.fileset_values.Orders.{Path}
use Rattle.standing_laws.specs.fileset_model.Paths.{names_one}
use Rattle.standing_laws.specs.fileset_model.declared.node.Node.{Node}
use Rattle.standing_laws.proofs.OfFilesetValues.MapLemmas.{got-insert, got-remove}
use Rattle.set_standing.specs.NamesNodes.{IsNewNode, NodesFollow}

some_is : (a b : Node) → Some a ≡ Some b → a ≡ b
some_is a b e = cc

pub same_nodes : (tree : Fileset) → NodesFollow tree tree
same_nodes tree = record { nodes = λ number node there. inl there; limits = refl }

pub node_made : (path : Path) (number : ℕ) (node : Node) (tree : Fileset) → map.get tree.nodes number ≡ None → IsNewNode node → NodesFollow tree (with_node path number node tree)
node_made path number node tree free new = record {
  nodes = λ other found there. ⊎_elim
      (λ same. inr (subst (λ (n : ℕ). map.get tree.nodes n ≡ None) (sym same.0) free, subst IsNewNode (some_is node found (sym same.1)) new))
      (λ else. inl else.1)
      (got-insert nat_cmp_total map.nat_cmp-IsAntisymmetric tree.nodes number node other (Some found) there);
  limits = refl;
}

module _ (path : Path) (tree : Fileset) where
  linked_to : (to : Path) (o : Option ℕ) → NodesFollow tree (option_map_or (λ number. record tree { paths = map.insert tree.paths to number }) o tree)
  linked_to to None = same_nodes tree
  linked_to to (Some number) = record { nodes = λ n node there. inl there; limits = refl }

  left : (number : ℕ) (elsewhere : Bool) → NodesFollow tree (record tree { paths = map.remove tree.paths path; nodes = cond elsewhere tree.nodes (map.remove tree.nodes number) })
  left number true = record { nodes = λ n node there. inl there; limits = refl }
  left number false = record {
    nodes = λ n node there. inl (got-remove nat_cmp_total map.nat_cmp-IsAntisymmetric tree.nodes number n node there).1;
    limits = refl;
  }

  left_by : (o : Option ℕ) → NodesFollow tree (option_map_or (λ number. record tree {
    paths = map.remove tree.paths path;
    nodes = cond (is_named_elsewhere tree path number) tree.nodes (map.remove tree.nodes number);
  }) o tree)
  left_by None = same_nodes tree
  left_by (Some number) = left number (is_named_elsewhere tree path number)

pub path_linked : (path to : Path) (tree : Fileset) → NodesFollow tree (linked path to tree)
path_linked path to tree = linked_to path tree to (map.get tree.paths path)

pub path_left : (path : Path) (tree : Fileset) → NodesFollow tree (without path tree)
path_left path tree = left_by path tree (map.get tree.paths path)

pub path_moved : (from to : Path) (tree : Fileset) → NodesFollow tree (renamed from to tree)
path_moved from to tree = by_same (names_one tree from to)
  where
    by_same : (b : Bool) → NodesFollow tree (cond b tree (moved from to (without to tree)))
    by_same true = same_nodes tree
    by_same false = let gone = path_left to tree in record { nodes = gone.nodes; limits = gone.limits }
