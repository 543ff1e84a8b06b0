-- Sorted lists and the maps that they make, if entries are taken away or a file is cut.
use Rattle.std.proofs.Common.{◌≡◌, ℕ, ◌-◌, ◌*◌, ◌/◌, ◌%◌, ◌==◌, ◌&&◌, nat_lt, Bool, true, false, cond, if◌then◌else◌, not, List, IsTrue, Option, Some, None, length, take, take_all, drop, length-drop, arith, refl, sym, ap, ◌∙◌}
use Rattle.std.proofs.lemmas.List.{drop-replicate}
use Rattle.std.specs.declared.cmp.Ordering.{Ordering}
use Rattle.std.specs.declared.cmp.Ordering.TheVariants.{Equal}
use Rattle.std.specs.List.{list_any}
use Rattle.std.specs.Option.{option_map_or}
use Rattle.std.specs.Ordering.{eq_by_cmp, is_eq, nat_cmp}
use Rattle.std.specs.Cmp.{IsTotalOrder, alike_right, eq_by_cmp_equiv, nat_cmp_total}
use Rattle.std.specs.FinMap as map
use Rattle.std.specs.FinMap.Entries.{find, put, is_sorted, where_key, find-where_key}
use Rattle.fileset_values.specs.domain_base.Page.{overwritten, zero_bytes}
use Rattle.fileset_values.specs.Orders.{Path, path_cmp, path_cmp-total, path_cmp-IsAntisymmetric}
use Rattle.fileset_model.specs.Fileset.{Fileset}
use Rattle.fileset_model.specs.Pages.{truncated}
use Rattle.fileset_model.specs.Paths.{same_path}
use Rattle.fileset_model.specs.Apply.{is_named_elsewhere, linked, without}
use Rattle.fileset_values.specs.declared.command.Owner.{Owner}
use Rattle.fileset_model.specs.declared.fileset.Limits.{Limits}
use Rattle.fileset_model.specs.declared.node.Node.{Node}
use Rattle.sorted_sets.proofs.EntryLemmas.{entries-from_sorted, get-from_sorted, insert-from_sorted, is_sorted_where}
use Rattle.fileset_model.proofs.TreeLemmas.{tree_of}

turned : {A : Type 0} (b : Bool) (x y : A) → cond (not b) x y ≡ cond b y x
turned true x y = refl
turned false x y = refl

module _ {K X : Type 0} {R : K → K → Ordering} (o : IsTotalOrder R) (same : map.IsAntisymmetric R) where
  pub retain-from_sorted : (p : K → Bool) (es : List (K × X)) → ((q x : K) → R q x ≡ Equal → p x ≡ p q) → IsTrue (is_sorted R es)
      → map.from_sorted (where_key R p es) ≡ map.retain_keys (map.from_sorted {R = R} es) p
  retain-from_sorted p es alike h =
      map.same_map o same _ _ (λ q.
      get-from_sorted R (where_key R p es) q (is_sorted_where R p es h)
      ∙ find-where_key R p q (alike q) es
      ∙ ap (λ (v : Option X). cond (p q) v None) (sym (get-from_sorted R es q h))
      ∙ sym (map.get-retain_keys (map.from_sorted es) p q (alike q)))

  pub remove-from_sorted : (key : K) (es : List (K × X)) → IsTrue (is_sorted R es)
      → map.from_sorted (where_key R (λ x. not (eq_by_cmp R key x)) es) ≡ map.remove (map.from_sorted {R = R} es) key
  remove-from_sorted key es h =
      let other : K → Bool = λ x. not (eq_by_cmp R key x) in
      map.same_map o same _ _ (λ q.
      get-from_sorted R (where_key R other es) q (is_sorted_where R other es h)
      ∙ find-where_key R other q (λ x t. ap (λ r. not (is_eq r)) (sym (alike_right o q x key t))) es
      ∙ turned (eq_by_cmp R key q) (find R q es) None
      ∙ ap (λ b. cond b None (find R q es)) ((eq_by_cmp_equiv o).symm key q)
      ∙ ap (λ (v : Option X). cond (eq_by_cmp R q key) None v) (sym (get-from_sorted R es q h))
      ∙ sym (map.get-remove o (map.from_sorted es) key q))

-- the tree without a path, and without its number where that goes with it
abbrev pub left_without : Fileset → Path → ℕ → Bool → Fileset
left_without tree path number stays = record tree { paths = map.remove tree.paths path; nodes = if stays then tree.nodes else map.remove tree.nodes number }

pub without-at : (tree : Fileset) (path : Path) (number : ℕ) → map.get tree.paths path ≡ Some number → without path tree ≡ left_without tree path number (is_named_elsewhere tree path number)
without-at tree path number is = ap (λ (found : Option ℕ). option_map_or (λ n. left_without tree path n (is_named_elsewhere tree path n)) found tree) is

pub without-missing : (tree : Fileset) (path : Path) → map.get tree.paths path ≡ None → without path tree ≡ tree
without-missing tree path is = ap (λ (found : Option ℕ). option_map_or (λ n. left_without tree path n (is_named_elsewhere tree path n)) found tree) is

pub linked-at : (tree : Fileset) (path to : Path) (number : ℕ) → map.get tree.paths path ≡ Some number → linked path to tree ≡ record tree { paths = map.insert tree.paths to number }
linked-at tree path to number is = ap (λ (found : Option ℕ). option_map_or (λ n. record tree { paths = map.insert tree.paths to n }) found tree) is

pub linked-missing : (tree : Fileset) (path to : Path) → map.get tree.paths path ≡ None → linked path to tree ≡ tree
linked-missing tree path to is = ap (λ (found : Option ℕ). option_map_or (λ n. record tree { paths = map.insert tree.paths to n }) found tree) is

-- whether a path other than this one leads to a number, in a list of entries
abbrev pub named_elsewhere : Path → ℕ → List (Path × ℕ) → Bool
named_elsewhere path number es = list_any (λ e. e.1 == number && not (same_path e.0 path)) es

module _ (paths : List (Path × ℕ)) (nodes : List (ℕ × Node)) (limits : List (Owner × Limits)) (path : Path) (number : ℕ) (by_path : IsTrue (is_sorted path_cmp paths))
    (leads : map.get (tree_of paths nodes limits).paths path ≡ Some number) where
  -- the lists without a path, whose number keeps what it has
  pub kept-from_sorted : named_elsewhere path number paths ≡ true
      → tree_of (where_key path_cmp (λ x. not (eq_by_cmp path_cmp path x)) paths) nodes limits ≡ without path (tree_of paths nodes limits)
  kept-from_sorted stays =
      let tree = tree_of paths nodes limits in
      (λ i. record {
        paths = remove-from_sorted path_cmp-total path_cmp-IsAntisymmetric path paths by_path i;
        nodes = map.from_sorted nodes;
        limits = map.from_sorted limits;
      })
      ∙ ap (left_without tree path number) (sym (ap (named_elsewhere path number) (entries-from_sorted path_cmp paths by_path) ∙ stays))
      ∙ sym (without-at tree path number leads)

  -- and the lists without a path and its number
  pub gone-from_sorted : IsTrue (is_sorted nat_cmp nodes) → named_elsewhere path number paths ≡ false
      → tree_of (where_key path_cmp (λ x. not (eq_by_cmp path_cmp path x)) paths) (where_key nat_cmp (λ x. not (eq_by_cmp nat_cmp number x)) nodes) limits
      ≡ without path (tree_of paths nodes limits)
  gone-from_sorted by_number goes =
      let tree = tree_of paths nodes limits in
      (λ i. record {
        paths = remove-from_sorted path_cmp-total path_cmp-IsAntisymmetric path paths by_path i;
        nodes = remove-from_sorted nat_cmp_total map.nat_cmp-IsAntisymmetric number nodes by_number i;
        limits = map.from_sorted limits;
      })
      ∙ ap (left_without tree path number) (sym (ap (named_elsewhere path number) (entries-from_sorted path_cmp paths by_path) ∙ goes))
      ∙ sym (without-at tree path number leads)

-- the page in which a size falls, with zeros from there on
abbrev pub cut_page : ℕ → List ℕ → List ℕ
cut_page size page = overwritten page (size % 8192) (zero_bytes (8192 - size % 8192))

-- the entries with that page cut, if it is there
abbrev pub cut_entries : ℕ → List (ℕ × List ℕ) → List (ℕ × List ℕ)
cut_entries size es = option_map_or (λ page. put nat_cmp (size / 8192) (cut_page size page) es) (find nat_cmp (size / 8192) es) es

abbrev pub begins_below : ℕ → ℕ → Bool
begins_below size q = nat_lt (q * 8192) size

cut-from_sorted : (size : ℕ) (es : List (ℕ × List ℕ)) → IsTrue (is_sorted nat_cmp es) → (found : Option (List ℕ))
    → map.from_sorted {R = nat_cmp} (option_map_or (λ page. put nat_cmp (size / 8192) (cut_page size page) es) found es)
    ≡ option_map_or (λ page. map.insert (map.from_sorted es) (size / 8192) (cut_page size page)) found (map.from_sorted es)
cut-from_sorted size es h None = refl
cut-from_sorted size es h (Some page) = insert-from_sorted nat_cmp_total es (size / 8192) (cut_page size page) h

pub truncated-from_sorted : (size : ℕ) (es : List (ℕ × List ℕ)) → IsTrue (is_sorted nat_cmp es)
    → map.from_sorted {R = nat_cmp} (cut_entries size (where_key nat_cmp (begins_below size) es)) ≡ truncated (map.from_sorted es) size
truncated-from_sorted size es h =
    let kept = where_key nat_cmp (begins_below size) es in
    let sorted = is_sorted_where nat_cmp (begins_below size) es h in
    cut-from_sorted size kept sorted (find nat_cmp (size / 8192) kept)
    ∙ ap (λ (found : Option (List ℕ)). option_map_or (λ page. map.insert (map.from_sorted {R = nat_cmp} kept) (size / 8192) (cut_page size page)) found (map.from_sorted kept))
    (sym (get-from_sorted nat_cmp kept (size / 8192) sorted))
    ∙ ap (λ (m : map.FinMap nat_cmp (List ℕ)). option_map_or (λ page. map.insert m (size / 8192) (cut_page size page)) (map.get m (size / 8192)) m)
    (retain-from_sorted nat_cmp_total map.nat_cmp-IsAntisymmetric (begins_below size) es (λ q x t. ap (begins_below size) (sym (map.nat_cmp-IsAntisymmetric q x t))) h)

pub drop-zero_bytes : (n at : ℕ) → drop at (zero_bytes n) ≡ zero_bytes (n - at)
unfolding zero_bytes
drop-zero_bytes n at = drop-replicate at n 0

-- all that is left from a place on
pub take-rest : (bytes : List ℕ) (at : ℕ) → take (length bytes - at) (drop at bytes) ≡ drop at bytes
take-rest bytes at = take_all (length bytes - at) (drop at bytes) (omega (arith, length-drop at bytes))
