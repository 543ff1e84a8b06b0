-- The changes of a fileset by which a file or directory comes, changes and goes.
use Rattle.std.proofs.Common.{◌≡◌, ◌∙◌, ℕ, ◌+◌, Bool, true, false, cond, [], ◌∷◌, Some, None, if◌then◌else◌, refl, sym, ap, subst, arith}
use Rattle.std.specs.Option.{option_map_or}
use Rattle.std.specs.FinMap as map
use Rattle.fileset_model.specs.Apply.{is_named_elsewhere, with_change, with_node, without}
use Rattle.fileset_model.specs.Fileset.{Fileset}
use Rattle.fileset_model.specs.fileset_values.Orders.{Path, path_cmp, path_cmp-total}
use Rattle.fileset_model.specs.Usage.{blocks_of, is_owned, is_owners}
use Rattle.fileset_model.specs.fileset_values.declared.command.Owner.{Owner}
use Rattle.fileset_model.specs.declared.node.Node.{Node}
use Rattle.fileset_model.specs.declared.node.Node.TheVariants.{File, Directory}
use Rattle.quota_book.specs.Sums.{ChangesNode, CountsMore, IsNotRoot, gid_of, uid_of}

pub root_kept : (paths : map.FinMap path_cmp ℕ) (path : Path) (number : ℕ) → ¬ path ≡ [] → map.get (map.insert paths path number) [] ≡ map.get paths []
root_kept paths [] number other = absurd (other refl)
root_kept paths (name ∷ names) number other = map.get-insert path_cmp-total paths (name ∷ names) number []

pub root_left : (paths : map.FinMap path_cmp ℕ) (path : Path) → ¬ path ≡ [] → map.get (map.remove paths path) [] ≡ map.get paths []
root_left paths [] other = absurd (other refl)
root_left paths (name ∷ names) other = map.get-remove path_cmp-total paths (name ∷ names) []

pub made : (tree : Fileset) (path : Path) (number : ℕ) (node : Node) → ¬ path ≡ [] → IsNotRoot tree number → map.get tree.nodes number ≡ None
    → ChangesNode number None (Some node) tree (with_node path number node tree)
made tree path number node other not_root unused = record { not_root = not_root; root = root_kept tree.paths path number other; before = unused; after = refl; limits = refl }

pub changed : (tree : Fileset) (path : Path) (number : ℕ) (node : Node) (change : Node → Node) → map.get tree.paths path ≡ Some number → IsNotRoot tree number → map.get tree.nodes number ≡ Some node
    → ChangesNode number (Some node) (Some (change node)) tree (with_change path change tree)
changed tree path number node change at not_root there =
    let is : with_change path change tree ≡ record tree { nodes = map.insert tree.nodes number (change node) } =
    ap (λ o. option_map_or (λ n. option_map_or (λ x. record tree { nodes = map.insert tree.nodes n (change x) }) (map.get tree.nodes n) tree) o tree) at
    ∙ ap (λ o. option_map_or (λ x. record tree { nodes = map.insert tree.nodes number (change x) }) o tree) there in
    subst (ChangesNode number (Some node) (Some (change node)) tree) (sym is) (record { not_root = not_root; root = refl; before = there; after = refl; limits = refl })

pub gone : (tree : Fileset) (path : Path) (number : ℕ) (node : Node) → ¬ path ≡ [] → map.get tree.paths path ≡ Some number → is_named_elsewhere tree path number ≡ false → IsNotRoot tree number
    → map.get tree.nodes number ≡ Some node → ChangesNode number (Some node) None tree (without path tree)
gone tree path number node other at last not_root there =
    let is : without path tree ≡ record tree { paths = map.remove tree.paths path; nodes = map.remove tree.nodes number } =
    ap (λ o. option_map_or (λ n. record tree { paths = map.remove tree.paths path; nodes = if is_named_elsewhere tree path n then tree.nodes else map.remove tree.nodes n }) o tree) at
    ∙ ap (λ b. record tree { paths = map.remove tree.paths path; nodes = if b then tree.nodes else map.remove tree.nodes number }) last in
    subst (ChangesNode number (Some node) None tree) (sym is) (record { not_root = not_root; root = root_left tree.paths path other; before = there; after = refl; limits = refl })

-- ---- what a file or directory counts

owner_is : (who : Owner) (node : Node) → is_owners who node ≡ is_owned who (uid_of node) (gid_of node)
owner_is who (File uid gid size logged pages) = refl
owner_is who (Directory uid gid) = refl

none_more : (b : Bool) → cond b 1 0 ≡ cond b 1 0 + cond b 0 0
none_more true = refl
none_more false = refl

more : (b : Bool) (m n k : ℕ) → m ≡ n + k → cond b m 0 ≡ cond b n 0 + cond b k 0
more true m n k is = is
more false m n k is = refl

nothing_more : (b : Bool) (n : ℕ) → cond b n 0 ≡ 0 + cond b n 0
nothing_more b n = omega arith

pub one : (node : Node) → CountsMore (uid_of node) (gid_of node) 1 (blocks_of node) None (Some node)
one node = record {
  more_files = λ who. ap (λ b. cond b 1 0) (owner_is who node) ∙ nothing_more (is_owned who (uid_of node) (gid_of node)) 1;
  more_blocks = λ who. ap (λ b. cond b (blocks_of node) 0) (owner_is who node) ∙ nothing_more (is_owned who (uid_of node) (gid_of node)) (blocks_of node);
}

pub grown : (node grown : Node) (blocks : ℕ) → uid_of grown ≡ uid_of node → gid_of grown ≡ gid_of node → blocks_of grown ≡ blocks_of node + blocks
    → CountsMore (uid_of node) (gid_of node) 0 blocks (Some node) (Some grown)
grown node after blocks uid gid is = record {
  more_files = λ who. ap (λ b. cond b 1 0) (same who) ∙ none_more (is_owned who (uid_of node) (gid_of node)) ∙ sym (ap (λ b. cond b 1 0 + cond (is_owned who (uid_of node) (gid_of node)) 0 0) (owner_is who node));
  more_blocks = λ who.
      ap (λ b. cond b (blocks_of after) 0) (same who) ∙ more (is_owned who (uid_of node) (gid_of node)) (blocks_of after) (blocks_of node) blocks is
      ∙ sym (ap (λ b. cond b (blocks_of node) 0 + cond (is_owned who (uid_of node) (gid_of node)) blocks 0) (owner_is who node));
}
  where
    same : (who : Owner) → is_owners who after ≡ is_owned who (uid_of node) (gid_of node)
    same who = owner_is who after ∙ (λ i. is_owned who (uid i) (gid i))
