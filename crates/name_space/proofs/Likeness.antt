-- What is no part of names: bytes, sizes, flags and limits; and what a clone is at first.
use Rattle.std.proofs.Common.{◌≡◌, ◌≢◌, ◌∙◌, ℕ, ◌==◌, true, false, is_some, Option, Some, None, IsSomeAnd, refl, sym, ap, subst, eqb-true, true≢false}
use Rattle.std.proofs.lemmas.Bool.{eq-eqb}
use Rattle.std.specs.Cmp.{nat_cmp_total}
use Rattle.std.specs.Ordering.{nat_cmp}
use Rattle.std.specs.Option.{option_map_or}
use Rattle.std.specs.FinMap as map
use Rattle.directory_rows.specs.page_store.Bitfiles.{Bitfile}
use Rattle.plain_program.specs.fileset_model.Fileset.{Fileset}
use Rattle.plain_program.specs.fileset_model.Paths.{is_out_of_sync, paths_to}
use Rattle.plain_program.specs.fileset_model.declared.fileset.Role.{Role}
use Rattle.plain_program.specs.fileset_model.declared.node.Node.{Node}
use Rattle.plain_program.specs.fileset_model.declared.node.Node.TheVariants.{File, Directory}
use Rattle.plain_program.proofs.OfFilesetValues.MapLemmas.{get-insert_other, get-insert_same}
use Rattle.plain_program.proofs.OfLegalHistories.LooksLemmas.{looks_like_itself}
use Rattle.plain_program.proofs.OfLegalHistories.ValidSetLemmas.{original≢clone}
use Rattle.plain_program.proofs.OfLegalHistories.ValidTreeLemmas.{without_limits-valid}
use Rattle.name_space.specs.Laws.{AreLike, BytesAreFree, ChangesAreLike, ClonesHaveNames, HasSameNames, IsLike, clone_of}
use Rattle.name_space.specs.Names.{IsNodeOf, number_of}
use Rattle.name_space.proofs.Originals.{all_shown, is_in, original_names, path_at}

-- ---- nodes of one kind and owner

node_like : (file : Bitfile) (node was : Node) → IsLike node was → IsNodeOf file was → IsNodeOf file node
node_like file (File uid gid size logged pages) (File uid' gid' size' logged' pages') like is = (is.0, is.1 ∙ sym like.0, is.2 ∙ sym like.1)
node_like file (Directory uid gid) (Directory uid' gid') like is = (is.0, is.1 ∙ sym like.0, is.2 ∙ sym like.1)
node_like file (File uid gid size logged pages) (Directory uid' gid') like is = absurd like
node_like file (Directory uid gid) (File uid' gid' size' logged' pages') like is = absurd like

node_is : (file : Bitfile) (now was : Option Node) → AreLike now was → IsSomeAnd was (IsNodeOf file) → IsSomeAnd now (IsNodeOf file)
node_is file None None like is = absurd is
node_is file (Some node) (Some other) like is = node_like file node other like is
node_is file None (Some other) like is = absurd like
node_is file (Some node) None like is = absurd like

like_itself : (node : Node) → IsLike node node
like_itself (File uid gid size logged pages) = (refl, refl)
like_itself (Directory uid gid) = (refl, refl)

are_like_itself : (o : Option Node) → AreLike o o
are_like_itself None = tt
are_like_itself (Some node) = like_itself node

-- ---- filesets of the same names

same_paths_to : (tree other : Fileset) → tree.paths ≡ other.paths → (number : ℕ) → paths_to tree number ≡ paths_to other number
same_paths_to tree other same number = ap (λ paths. paths_to (record { paths = paths; nodes = tree.nodes; limits = tree.limits }) number) same

pub bytes_free_lem : BytesAreFree
bytes_free_lem files slot tree original like valid = record {
  names = original_names files (record slot { tree = tree }) original.role
      (λ path. ap (λ paths. map.get paths path) like.paths ∙ path_at files slot original.names original.role path)
      (λ path tag of led.
      let had = is_in files slot original.names original.role path tag of led in
      record {
        file = had.file;
        there = had.there;
        kind = had.kind;
        node = node_is had.file (map.get tree.nodes (number_of tag)) (map.get slot.tree.nodes (number_of tag)) (like.nodes (number_of tag)) had.node;
        links = had.links ∙ sym (same_paths_to tree slot.tree like.paths (number_of tag));
      })
      original.names.directories
      (original.names.live original.role)
      original.names.seq;
  role = original.role;
  valid = valid;
}

same_names : (tree : Fileset) → HasSameNames tree tree
same_names tree = record { paths = refl; nodes = λ number. are_like_itself (map.get tree.nodes number) }

module _ (tree : Fileset) (change : Node → Node) (keeps : (node : Node) → IsLike (change node) node) where
  put_like : (number : ℕ) (node : Node) → map.get tree.nodes number ≡ Some node → HasSameNames (record tree { nodes = map.insert tree.nodes number (change node) }) tree
  put_like number node there = record { paths = refl; nodes = λ k. by_test k (k == number) refl }
    where
      by_test : (k : ℕ) (t : _) → (k == number) ≡ t → AreLike (map.get (map.insert tree.nodes number (change node)) k) (map.get tree.nodes k)
      by_test k true is =
          let same : k ≡ number = eqb-true k number is in
          subst (λ n. AreLike (map.get (map.insert tree.nodes number (change node)) n) (map.get tree.nodes n)) (sym same)
          (subst (λ o. AreLike o (map.get tree.nodes number)) (sym (get-insert_same nat_cmp_total map.nat_cmp-IsAntisymmetric tree.nodes number (change node)))
          (subst (AreLike (Some (change node))) (sym there) (keeps node)))
      by_test k false is =
          let differs : k ≢ number = λ same. true≢false (sym (eq-eqb k number same) ∙ is) in
          subst (λ o. AreLike o (map.get tree.nodes k)) (sym (get-insert_other nat_cmp_total map.nat_cmp-IsAntisymmetric tree.nodes number (change node) k differs)) (are_like_itself (map.get tree.nodes k))

  node_changed : (number : ℕ) (o : Option Node) → map.get tree.nodes number ≡ o → HasSameNames (option_map_or (λ node. record tree { nodes = map.insert tree.nodes number (change node) }) o tree) tree
  node_changed number None there = same_names tree
  node_changed number (Some node) there = put_like number node there

  path_changed : (o : Option ℕ) → HasSameNames (option_map_or (λ number. option_map_or (λ node. record tree { nodes = map.insert tree.nodes number (change node) }) (map.get tree.nodes number) tree) o tree) tree
  path_changed None = same_names tree
  path_changed (Some number) = node_changed number (map.get tree.nodes number) refl

pub changes_like_lem : ChangesAreLike
changes_like_lem tree path change keeps = path_changed tree change keeps (map.get tree.paths path)

-- ---- a new clone

pub clone_names_lem : ClonesHaveNames
clone_names_lem files slot name original = record {
  names = record {
    paths = λ path shown. path_at files slot original.names original.role path;
    shown = λ path tag of shown led.
        let is = original.names.shown path tag of (all_shown files slot original.names original.role path) led in
        record {
          kind = is.kind;
          out = ap is_some (map.get-empty nat_cmp (number_of tag)) ∙ ap (λ (r : Role). is_out_of_sync r (number_of tag)) (sym original.role) ∙ is.out;
          node = is.node;
        };
    directories = original.names.directories;
    live = λ role. absurd (original≢clone name map.empty (sym role));
    seq = original.names.seq;
  };
  valid = record {
    whole = record slot.tree { limits = map.empty };
    valid = without_limits-valid slot.tree original.valid;
    shows = looks_like_itself (clone_of name slot);
  };
}
