-- A fileset's tree as three sorted lists.
use Rattle.std.proofs.Common.{◌≡◌, ℕ, List, IsTrue, Some, None, get_or, set, sym, ap, ◌∙◌}
use Rattle.std.specs.Option.{option_map_or}
use Rattle.std.specs.Ordering.{nat_cmp}
use Rattle.std.specs.Cmp.{nat_cmp_total}
use Rattle.std.specs.FinMap as map
use Rattle.std.specs.FinMap.Entries.{is_sorted}
use Rattle.fileset_values.specs.Orders.{Path}
use Rattle.sorted_sets.specs.Entries.{IsPlaceOf}
use Rattle.fileset_model.specs.Fileset.{Fileset}
use Rattle.fileset_model.specs.Apply.{with_change}
use Rattle.fileset_values.specs.declared.command.Owner.{Owner}
use Rattle.fileset_model.specs.declared.fileset.Limits.{Limits}
use Rattle.fileset_model.specs.declared.node.Node.{Node}
use Rattle.sorted_sets.proofs.EntryLemmas.{find_at_place, get-from_sorted, insert_at_place}

abbrev pub tree_of : List (Path × ℕ) → List (ℕ × Node) → List (Owner × Limits) → Fileset
tree_of paths nodes limits = record { paths = map.from_sorted paths; nodes = map.from_sorted nodes; limits = map.from_sorted limits }

pub with_change-at : (tree : Fileset) (path : Path) (number : ℕ) (node : Node) (change : Node → Node) → map.get tree.paths path ≡ Some number → map.get tree.nodes number ≡ Some node
    → with_change path change tree ≡ record tree { nodes = map.insert tree.nodes number (change node) }
with_change-at tree path number node change p n =
    ap (λ o. option_map_or (λ k. option_map_or (λ found. record tree { nodes = map.insert tree.nodes k (change found) }) (map.get tree.nodes k) tree) o tree) p
    ∙ ap (λ o. option_map_or (λ found. record tree { nodes = map.insert tree.nodes number (change found) }) o tree) n

pub with_change-missing : (tree : Fileset) (path : Path) (number : ℕ) (change : Node → Node) → map.get tree.paths path ≡ Some number → map.get tree.nodes number ≡ None
    → with_change path change tree ≡ tree
with_change-missing tree path number change p n =
    ap (λ o. option_map_or (λ k. option_map_or (λ found. record tree { nodes = map.insert tree.nodes k (change found) }) (map.get tree.nodes k) tree) o tree) p
    ∙ ap (λ o. option_map_or (λ found. record tree { nodes = map.insert tree.nodes number (change found) }) o tree) n

pub change_at_place : (paths : List (Path × ℕ)) (nodes : List (ℕ × Node)) (limits : List (Owner × Limits)) (path : Path) (number place : ℕ) (item : ℕ × Node) (v : Node) (change : Node → Node)
    → IsTrue (is_sorted nat_cmp nodes) → IsPlaceOf nat_cmp nodes number place → item ≡ get_or nodes place item → map.get (tree_of paths nodes limits).paths path ≡ Some number → v ≡ change item.1
    → tree_of paths (set nodes place (item.0, v)) limits ≡ with_change path change (tree_of paths nodes limits)
change_at_place paths nodes limits path number place item v change sorted at is leads changed =
    let tree = tree_of paths nodes limits in
    ap (λ n. record tree { nodes = n }) (insert_at_place nodes number place item at is nat_cmp_total sorted v)
    ∙ ap (λ w. record tree { nodes = map.insert tree.nodes number w }) changed
    ∙ sym (with_change-at tree path number item.1 change leads (get-from_sorted nat_cmp nodes number sorted ∙ find_at_place nodes number place item at is))
