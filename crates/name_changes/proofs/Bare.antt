-- A fileset without the bytes of its files and without limits: one for each set of rows.
use Rattle.std.proofs.Common.{◌≡◌, ◌∙◌, ℕ, Bool, true, false, cond, List, [], ◌∷◌, Option, Some, None, IsSome, IsSomeAnd, IsTrue, map as map_each, refl, sym, ap, subst}
use Rattle.std.specs.Cmp.{nat_cmp_total}
use Rattle.std.specs.FinMap as map
use Rattle.std.specs.FinMap.Entries.{find}
use Rattle.std.specs.Option.{option_and_then, option_map}
use Rattle.std.specs.Ordering.{eq_by_cmp, nat_cmp}
use Rattle.fileset_lending.specs.page_store.Bitfiles.{Bitfiles}
use Rattle.fileset_lending.specs.fileset_model.Fileset.{Fileset}
use Rattle.fileset_lending.specs.fileset_values.Orders.{Path}
use Rattle.fileset_lending.specs.fileset_model.Paths.{is_directory, node_at}
use Rattle.fileset_lending.specs.fileset_model.declared.fileset.FilesetSlot.{FilesetSlot}
use Rattle.fileset_lending.specs.fileset_model.declared.node.Node.{Node}
use Rattle.fileset_lending.specs.fileset_model.declared.node.Node.TheVariants.{Directory, File}
use Rattle.fileset_lending.specs.legal_histories.Valid.{HasWholePages, IsDirectoryAt, IsValidFileset}
use Rattle.fileset_lending.specs.name_space.Changes.{IsOriginal}
use Rattle.fileset_lending.specs.name_space.Laws.{AreLike}
use Rattle.fileset_lending.proofs.OfNameSpace.Likeness.{bytes_free_lem}

abbrev pub bare_node : Node → Node
bare_node (File uid gid size logged pages) = File uid gid 0 false map.empty
bare_node (Directory uid gid) = Directory uid gid

abbrev pub bare : Fileset → Fileset
bare tree = record {
  paths = tree.paths;
  nodes = map.from_entries (map_each (λ (e : ℕ × Node). (e.0, bare_node e.1)) (map.entries tree.nodes));
  limits = map.empty;
}

found_bare : (q : ℕ) (es : List (ℕ × Node)) → find nat_cmp q (map_each (λ (e : ℕ × Node). (e.0, bare_node e.1)) es) ≡ option_map bare_node (find nat_cmp q es)
found_bare q [] = refl
found_bare q (e ∷ es) = by_key (found_bare q es) (eq_by_cmp nat_cmp q e.0)
  where
    by_key : find nat_cmp q (map_each (λ (e : ℕ × Node). (e.0, bare_node e.1)) es) ≡ option_map bare_node (find nat_cmp q es) → (b : Bool)
        → cond b (Some (bare_node e.1)) (find nat_cmp q (map_each (λ (e : ℕ × Node). (e.0, bare_node e.1)) es)) ≡ option_map bare_node (cond b (Some e.1) (find nat_cmp q es))
    by_key later true = refl
    by_key later false = later

pub bare_at : (tree : Fileset) (q : ℕ) → map.get (bare tree).nodes q ≡ option_map bare_node (map.get tree.nodes q)
bare_at tree q = map.get-from_entries nat_cmp_total (map_each (λ (e : ℕ × Node). (e.0, bare_node e.1)) (map.entries tree.nodes)) q ∙ found_bare q (map.entries tree.nodes) ∙ ap (option_map bare_node) (sym (map.get-entries tree.nodes q))

like_bare : (o : Option Node) → AreLike (option_map bare_node o) o
like_bare None = tt
like_bare (Some (File uid gid size logged pages)) = (refl, refl)
like_bare (Some (Directory uid gid)) = (refl, refl)

-- ---- it is a fileset

same_kind : (node : Node) → is_directory (bare_node node) ≡ is_directory node
same_kind (File uid gid size logged pages) = refl
same_kind (Directory uid gid) = refl

module _ (tree : Fileset) where
  node_bare : (path : Path) → node_at (bare tree) path ≡ option_map bare_node (node_at tree path)
  node_bare path = by_number (map.get tree.paths path)
    where
      by_number : (o : Option ℕ) → option_and_then (map.get (bare tree).nodes) o ≡ option_map bare_node (option_and_then (map.get tree.nodes) o)
      by_number None = refl
      by_number (Some n) = bare_at tree n

  to_bare : (o : Option Node) → IsSomeAnd o (λ node. IsTrue (is_directory node)) → IsSomeAnd (option_map bare_node o) (λ node. IsTrue (is_directory node))
  to_bare None is = is
  to_bare (Some (File uid gid size logged pages)) is = is
  to_bare (Some (Directory uid gid)) is = is

  from_bare : (o : Option Node) → IsSomeAnd (option_map bare_node o) (λ node. IsTrue (is_directory node)) → IsSomeAnd o (λ node. IsTrue (is_directory node))
  from_bare None is = is
  from_bare (Some (File uid gid size logged pages)) is = is
  from_bare (Some (Directory uid gid)) is = is

  directory_too : (path : Path) → IsDirectoryAt tree path → IsDirectoryAt (bare tree) path
  directory_too path is = subst (λ o. IsSomeAnd o (λ node. IsTrue (is_directory node))) (sym (node_bare path)) (to_bare (node_at tree path) is)

  directory_was : (path : Path) → IsDirectoryAt (bare tree) path → IsDirectoryAt tree path
  directory_was path is = from_bare (node_at tree path) (subst (λ o. IsSomeAnd o (λ node. IsTrue (is_directory node))) (node_bare path) is)

  some_bare : (o : Option Node) → IsSome o → IsSome (option_map bare_node o)
  some_bare None is = is
  some_bare (Some node) is = refl

  some_was : (o : Option Node) (node : Node) → option_map bare_node o ≡ Some node → (was : Node) × (o ≡ Some was) × (node ≡ bare_node was)
  some_was None node is = absurd cc
  some_was (Some was) node is = (was, refl, some_is (bare_node was) node is)
    where
      some_is : (a b : Node) → Some a ≡ Some b → b ≡ a
      some_is a b e = cc

  whole_bare : (node : Node) → HasWholePages (bare_node node)
  whole_bare (File uid gid size logged pages) = λ q page is. let e : None ≡ Some page = sym (map.get-empty nat_cmp q) ∙ is in absurd cc
  whole_bare (Directory uid gid) = tt

  pub bare_valid : IsValidFileset tree → IsValidFileset (bare tree)
  bare_valid v = record {
    root = directory_too [] v.root;
    parents = λ path name is. directory_too path (v.parents path name is);
    one_path = λ p q number at one other. v.one_path p q number (directory_was p at) one other;
    few_paths = v.few_paths;
    led_to = λ path number is. subst IsSome (sym (bare_at tree number)) (some_bare (map.get tree.nodes number) (v.led_to path number is));
    named = λ number node is. let was = some_was (map.get tree.nodes number) node (sym (bare_at tree number) ∙ is) in v.named number was.0 was.1;
    whole = λ number node is. let was = some_was (map.get tree.nodes number) node (sym (bare_at tree number) ∙ is) in subst HasWholePages (sym was.2) (whole_bare was.0);
    limited = λ who limits is. let e : None ≡ Some limits = sym (map.get-empty _ who) ∙ is in absurd cc;
  }

pub bare_original : (files : Bitfiles) (slot : FilesetSlot) → IsOriginal files slot → IsOriginal files (record slot { tree = bare slot.tree })
bare_original files slot is =
    bytes_free_lem files slot (bare slot.tree) is (record { paths = refl; nodes = λ n. subst (λ o. AreLike o (map.get slot.tree.nodes n)) (sym (bare_at slot.tree n)) (like_bare (map.get slot.tree.nodes n)) }) (bare_valid slot.tree is.valid)

-- without bytes and limits
pub record IsBare (tree : Fileset) : Type 0 where
  pub nodes : (number : ℕ) (node : Node) → map.get tree.nodes number ≡ Some node → node ≡ bare_node node
  pub limits : tree.limits ≡ map.empty

bare_twice : (node : Node) → bare_node node ≡ bare_node (bare_node node)
bare_twice (File uid gid size logged pages) = refl
bare_twice (Directory uid gid) = refl

pub is_bare : (tree : Fileset) → IsBare (bare tree)
is_bare tree = record {
  nodes = λ number node is.
      let was = some_was tree (map.get tree.nodes number) node (sym (bare_at tree number) ∙ is) in
      was.2 ∙ bare_twice was.0 ∙ ap bare_node (sym was.2);
  limits = refl;
}
