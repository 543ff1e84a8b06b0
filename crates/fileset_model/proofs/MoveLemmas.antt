-- The paths of a tree after a move.
use Rattle.std.proofs.Common.{◌≡◌, ℕ, ◌+◌, ◌<◌, Bool, true, false, cond, not, List, [], ◌∷◌, length, map as map_each, drop, get_or, refl, sym, ap, subst, ◌∙◌, T, IsTrue, Some, None, arith}
use Rattle.std.proofs.lemmas.List.{drop_all, drop_more}
use Rattle.std.specs.declared.cmp.Ordering.{Ordering}
use Rattle.std.specs.declared.cmp.Ordering.TheVariants.{Less, Equal, Greater}
use Rattle.std.specs.Ordering.{eq_by_cmp, is_eq}
use Rattle.std.specs.Cmp.{IsTotalOrder, eq_by_cmp_equiv}
use Rattle.std.specs.Cmp.Lexicographic.{lists_ties, texts_ties}
use Rattle.std.specs.Option.{option_map_or}
use Rattle.std.specs.FinMap as map
use Rattle.std.specs.FinMap.Entries.{is_sorted, put, where_key}
use Rattle.fileset_values.specs.Orders.{Path, name_cmp, path_cmp, path_cmp-total, path_cmp-IsAntisymmetric}
use Rattle.fileset_model.specs.Paths.{same_path}
use Rattle.fileset_model.specs.Fileset.{Fileset}
use Rattle.fileset_model.specs.Apply.{is_named_elsewhere, moved, moved_path, without}
use Rattle.fileset_model.proofs.ChangeLemmas.{left_without, remove-from_sorted}
use Rattle.sorted_sets.proofs.EntryLemmas.{entries-from_sorted, from_T, from_sorted-empty, is_sorted_where}

-- the entries without a key
abbrev pub without_key : {K X : Type 0} (R : K → K → Ordering) → K → List (K × X) → List (K × X)
without_key R k es = where_key R (λ x. not (eq_by_cmp R k x)) es

missing : {K X : Type 0} {R : K → K → Ordering} → IsTotalOrder R → (m : map.FinMap R X) (k q : K) (b : Bool) → eq_by_cmp R q k ≡ b → map.get m k ≡ None → cond b None (map.get m q) ≡ map.get m q
missing {R = R} o m k q true t none = sym (sym (map.get_tied o m q k (tied (R q k) t)) ∙ none)
  where
    tied : (r : Ordering) → is_eq r ≡ true → r ≡ Equal
    tied Equal t = refl
    tied Less t = absurd (subst T (sym t) tt)
    tied Greater t = absurd (subst T (sym t) tt)
missing o m k q false t none = refl

remove-missing : {K X : Type 0} {R : K → K → Ordering} → IsTotalOrder R → map.IsAntisymmetric R → (m : map.FinMap R X) (k : K) → map.get m k ≡ None → map.remove m k ≡ m
remove-missing {R = R} o same m k none = map.same_map o same (map.remove m k) m (λ q. map.get-remove o m k q ∙ missing o m k q _ refl none)

pub from_sorted-entries : {K X : Type 0} {R : K → K → Ordering} (m : map.FinMap R X) → map.from_sorted (map.entries m) ≡ m
from_sorted-entries {R = R} m = map.same_entries_map _ m (map.entries-from_sorted R _ (map.entries_sorted m))

pub sorted_entries : {K X : Type 0} {R : K → K → Ordering} (m : map.FinMap R X) → IsTrue (is_sorted R (map.entries m))
sorted_entries {R = R} m = from_T (is_sorted R (map.entries m)) (map.entries_sorted m)

pub entries-empty : {K X : Type 0} (R : K → K → Ordering) → map.entries (map.empty {X = X} {R = R}) ≡ []
entries-empty R = ap map.entries (sym (from_sorted-empty R)) ∙ map.entries-from_sorted R [] tt

-- the paths but for `to`, moved
abbrev pub moved_map : Path → Path → List (Path × ℕ) → map.FinMap path_cmp ℕ
moved_map from to es = map.from_entries (map_each (λ e. (moved_path from to e.0, e.1)) (without_key path_cmp to es))

-- whether a path is the one that is replaced
is_replaced : (path to : Path) → same_path path to ≡ eq_by_cmp path_cmp to path
is_replaced path to = lists_ties name_cmp texts_ties path to ∙ (eq_by_cmp_equiv path_cmp-total).symm path to

-- no paths are moved to none
pub moved_map-none : (from to : Path) (es : List (Path × ℕ)) → [] ≡ map.entries (moved_map from to (drop (length es) es))
moved_map-none from to es = sym (ap (λ l. map.entries (moved_map from to l)) (drop_all (length es) es (omega arith)) ∙ entries-empty path_cmp)

pub moved_map-skip : (from to : Path) (es : List (Path × ℕ)) (i : ℕ) (e : Path × ℕ) → i < length es → e ≡ get_or es i e → same_path e.0 to ≡ true
    → map.entries (moved_map from to (drop (i + 1) es)) ≡ map.entries (moved_map from to (drop i es))
moved_map-skip from to es i e within is test =
    let rest = drop (i + 1) es in
    let each : List (Path × ℕ) → map.FinMap path_cmp ℕ = λ l. map.from_entries (map_each (λ e. (moved_path from to e.0, e.1)) l) in
    ap (λ b. map.entries (each (cond (not b) (e ∷ without_key path_cmp to rest) (without_key path_cmp to rest)))) (sym test ∙ is_replaced e.0 to)
    ∙ ap (λ x. map.entries (moved_map from to (x ∷ rest))) is
    ∙ ap (λ l. map.entries (moved_map from to l)) (sym (drop_more es i e within))

pub moved_map-step : (from to : Path) (es : List (Path × ℕ)) (i : ℕ) (e : Path × ℕ) → i < length es → e ≡ get_or es i e → same_path e.0 to ≡ false
    → put path_cmp (moved_path from to e.0) e.1 (map.entries (moved_map from to (drop (i + 1) es))) ≡ map.entries (moved_map from to (drop i es))
moved_map-step from to es i e within is test =
    let rest = drop (i + 1) es in
    let each : List (Path × ℕ) → map.FinMap path_cmp ℕ = λ l. map.from_entries (map_each (λ e. (moved_path from to e.0, e.1)) l) in
    sym (map.entries-insert path_cmp-total (moved_map from to rest) (moved_path from to e.0) e.1)
    ∙ ap (λ b. map.entries (each (cond (not b) (e ∷ without_key path_cmp to rest) (without_key path_cmp to rest)))) (sym test ∙ is_replaced e.0 to)
    ∙ ap (λ x. map.entries (moved_map from to (x ∷ rest))) is
    ∙ ap (λ l. map.entries (moved_map from to l)) (sym (drop_more es i e within))

-- what is moved is what a map has but for `to`
moved_from : (from to : Path) (es : List (Path × ℕ)) (m : map.FinMap path_cmp ℕ) → IsTrue (is_sorted path_cmp es) → map.remove (map.from_sorted {R = path_cmp} es) to ≡ m
    → map.from_sorted {R = path_cmp} (map.entries (moved_map from to es)) ≡ map.from_entries {R = path_cmp} (map_each (λ e. (moved_path from to e.0, e.1)) (map.entries m))
moved_from from to es m h is =
    let left : map.from_sorted {R = path_cmp} (without_key path_cmp to es) ≡ m = remove-from_sorted path_cmp-total path_cmp-IsAntisymmetric to es h ∙ is in
    from_sorted-entries (moved_map from to es)
    ∙ ap (λ (l : List (Path × ℕ)). map.from_entries {R = path_cmp} (map_each (λ e. (moved_path from to e.0, e.1)) l))
    (sym (entries-from_sorted path_cmp (without_key path_cmp to es) (is_sorted_where path_cmp _ es h)) ∙ ap map.entries left)

without-paths : (tree : Fileset) (path : Path) → (without path tree).paths ≡ map.remove tree.paths path
without-paths tree path =
    elim (map.get tree.paths path) as (λ found. map.get tree.paths path ≡ found
    → (option_map_or (λ n. left_without tree path n (is_named_elsewhere tree path n)) found tree).paths ≡ map.remove tree.paths path) [
      | None ↦ λ none. sym (remove-missing path_cmp-total path_cmp-IsAntisymmetric tree.paths path none)
      | Some number ↦ λ is. refl
    ] refl

-- a move, in place of what stands at the second path
pub moved-over : (tree : Fileset) (paths : List (Path × ℕ)) (from to : Path) → IsTrue (is_sorted path_cmp paths) → map.from_sorted paths ≡ tree.paths
    → record (without to tree) { paths = map.from_sorted {R = path_cmp} (map.entries (moved_map from to paths)) } ≡ moved from to (without to tree)
moved-over tree paths from to h is =
    ap (λ p. record (without to tree) { paths = p }) (moved_from from to paths (without to tree).paths h (ap (λ m. map.remove m to) is ∙ sym (without-paths tree to)))
