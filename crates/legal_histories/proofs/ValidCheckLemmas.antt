-- What the checks of a command that is not refused say of a valid tree.
use Rattle.std.proofs.Common.{◌≡◌, ◌≢◌, ℕ, suc, zero, ◌+◌, ◌<◌, ◌==◌, true, false, cond, not, ◌||◌, is_some, List, [], ◌∷◌, ◌++◌, map as map_each, take, length, length-append, get_or, IsTrue, IsSomeAnd, Option, Some, None, refl, sym, ap, subst, ◌∙◌, true≢false, eqb-true, arith}
use Rattle.std.proofs.lemmas.Bool.{not-false, or_parts}
use Rattle.std.proofs.lemmas.List.{drop_at, take_at}
use Rattle.std.proofs.lemmas.List.FromFn.{get_or-map-range_with_len, length-map-range_with_len}
use Rattle.std.specs.List.{cons_option, filter_map, range_with_len}
use Rattle.std.specs.Option.{option_and_then, option_map_or}
use Rattle.std.specs.Ordering.{eq_by_cmp}
use Rattle.std.specs.Cmp.{Equal-is}
use Rattle.std.specs.FinMap as map
use Rattle.std.specs.FinMap.Entries.{find}
use Rattle.fileset_model.specs.fileset_values.Orders.{Name, Path, path_cmp, path_cmp-IsAntisymmetric}
use Rattle.fileset_model.specs.Fileset.{Fileset}
use Rattle.fileset_model.specs.Paths.{directory_here, directory_refusal, first_refusal, is_directory, is_out_of_sync_at, name_below, node_at, refuse_if, rows_of, target_refusal, walk_refusal}
use Rattle.legal_histories.specs.Valid.{IsDirectoryAt, IsValidFileset}
use Rattle.fileset_model.specs.Apply.{not_empty, path_taken}
use Rattle.fileset_model.specs.declared.fileset.FilesetSlot.{FilesetSlot}
use Rattle.fileset_model.specs.fileset_values.declared.reply.NameItem.{NameItem}
use Rattle.fileset_model.specs.fileset_values.declared.reply.Refusal.{Refusal}
use Rattle.fileset_model.specs.fileset_values.declared.reply.Refusal.TheVariants.{Exists, IsDirectory, NoPath, NotDirectory, NotEmpty, OutOfSync}
use Rattle.fileset_model.proofs.RowsLemmas.{row_of}
use Rattle.legal_histories.proofs.ValidLemmas.{passed, passed_test}
use Rattle.legal_histories.proofs.ValidMoveLemmas.{begins_of}
use Rattle.legal_histories.proofs.ValidTreeLemmas.{some≢none}

pub absent : {X : Type 0} (o : Option X) → is_some o ≡ false → o ≡ None
absent None h = refl
absent (Some x) h = absurd (true≢false h)

-- ---- the way to a path's last name

passed_each : {A : Type 0} (check : A → Option Refusal) (xs : List A) → first_refusal (map_each check xs) ≡ None → (i : ℕ) (d : A) → i < length xs → check (get_or xs i d) ≡ None
passed_each check [] h i d within = absurd (omega arith)
passed_each check (x ∷ xs) h zero d within = (passed (check x) (map_each check xs) h).0
passed_each check (x ∷ xs) h (suc i) d within = passed_each check xs (passed (check x) (map_each check xs) h).1 i d (omega arith)

passed_directory : (slot : FilesetSlot) (path : Path) → directory_refusal slot path ≡ None → IsDirectoryAt slot.tree path
passed_directory slot path h =
    elim (node_at slot.tree path) as (λ o. option_map_or (λ node. first_refusal (refuse_if (not (is_directory node)) NotDirectory ∷ refuse_if (is_out_of_sync_at slot path) OutOfSync ∷ [])) o (Some NoPath) ≡ None
    → IsSomeAnd o (λ node. IsTrue (is_directory node))) [
      | None ↦ λ none. absurd (some≢none NoPath none)
      | Some node ↦ λ none. not-false (is_directory node) (passed_test (not (is_directory node)) NotDirectory (passed (refuse_if (not (is_directory node)) NotDirectory) (refuse_if (is_out_of_sync_at slot path) OutOfSync ∷ []) none).0)
    ] h

pub passed_walk : (slot : FilesetSlot) (path front : Path) (name : Name) → walk_refusal slot path ≡ None → front ++ name ∷ [] ≡ path → IsDirectoryAt slot.tree front
passed_walk slot path front name h e =
    let n = length path in
    let long : n ≡ length front + 1 = ap length (sym e) ∙ length-append front (name ∷ []) in
    let ways : List Path = map_each (λ count. take count path) (range_with_len 0 n) in
    let many : length ways ≡ n = length-map-range_with_len (λ count. take count path) 0 n in
    let at : get_or ways (length front) [] ≡ front = get_or-map-range_with_len (λ count. take count path) 0 n (length front) (length front) [] (omega arith) (omega arith)
    ∙ ap (take (length front)) (sym e) ∙ take_at front (name ∷ []) (length front) refl in
    passed_directory slot front (ap (directory_refusal slot) (sym at) ∙ passed_each (directory_refusal slot) ways h (length front) [] (omega (arith, many, long)))

-- ---- a path that is there, and one that is not

pub passed_target : (slot : FilesetSlot) (path : Path) → target_refusal slot path ≡ None → IsTrue (map.contains_key slot.tree.paths path)
passed_target slot path h =
    let test = not (map.contains_key slot.tree.paths path) in
    let rest = (passed (walk_refusal slot path) (refuse_if test NoPath ∷ []) h).1 in
    not-false (map.contains_key slot.tree.paths path) (passed_test test NoPath (passed (refuse_if test NoPath) [] rest).0)

pub passed_free : (slot : FilesetSlot) (path : Path) → path_taken slot path ≡ None → map.get slot.tree.paths path ≡ None
passed_free slot path h = absent (map.get slot.tree.paths path) (passed_test (map.contains_key slot.tree.paths path) Exists h)

-- ---- a path that leads to no directory

is_no_directory : (tree : Fileset) (path : Path) → option_map_or is_directory (node_at tree path) false ≡ false → IsDirectoryAt tree path → ⊥
is_no_directory tree path h there =
    elim (node_at tree path) as (λ o. option_map_or is_directory o false ≡ false → IsSomeAnd o (λ node. IsTrue (is_directory node)) → ⊥) [
      | None ↦ λ test directory. directory
      | Some node ↦ λ test directory. true≢false (sym directory ∙ test)
    ] h there

-- where no directory stands there is no path below
childless : (tree : Fileset) (path : Path) → IsValidFileset tree → (IsDirectoryAt tree path → ⊥) → (name : Name) → map.get tree.paths (path ++ name ∷ []) ≡ None
childless tree path v none name =
    elim (map.get tree.paths (path ++ name ∷ [])) as (λ o. map.get tree.paths (path ++ name ∷ []) ≡ o → o ≡ None) [
      | None ↦ λ is. refl
      | Some number ↦ λ is. absurd (none (v.parents path name (ap is_some is)))
    ] refl

-- a path that can be taken away: not the root, and with none below it
pub record IsLeaf (tree : Fileset) (path : Path) : Type 0 where
  pub no_root : path ≢ []
  pub alone : (name : Name) → map.get tree.paths (path ++ name ∷ []) ≡ None

pub leaf_file : (slot : FilesetSlot) (path : Path) → IsValidFileset slot.tree → directory_here slot path ≡ None → IsLeaf slot.tree path
leaf_file slot path v h =
    let none = is_no_directory slot.tree path (passed_test (option_map_or is_directory (node_at slot.tree path) false) IsDirectory h) in
    record { no_root = λ e. none (subst (IsDirectoryAt slot.tree) (sym e) v.root); alone = childless slot.tree path v none }

-- ---- a directory with no row

below_is : (parent : Path) (name : Name) → name_below parent (parent ++ name ∷ []) ≡ Some name
below_is parent name = rw (begins_of (parent ++ name ∷ []) parent (name ∷ []) refl, drop_at parent (name ∷ []) (length parent) refl)

has_row : (tree : Fileset) (parent : Path) (name : Name) (es : List (Path × ℕ)) (number : ℕ) → find path_cmp (parent ++ name ∷ []) es ≡ Some number → length (filter_map (row_of tree parent) es) ≢ 0
has_row tree parent name [] number found none = some≢none number (sym found)
has_row tree parent name (e ∷ es) number found none =
    elim (eq_by_cmp path_cmp (parent ++ name ∷ []) e.0) as (λ b. eq_by_cmp path_cmp (parent ++ name ∷ []) e.0 ≡ b → (b ≡ false → find path_cmp (parent ++ name ∷ []) es ≡ Some number) → ⊥) [
      | true ↦ λ t rest.
          let key : parent ++ name ∷ [] ≡ e.0 = path_cmp-IsAntisymmetric (parent ++ name ∷ []) e.0 ((Equal-is (path_cmp (parent ++ name ∷ []) e.0)).0 t) in
          let named : name_below parent e.0 ≡ Some name = ap (name_below parent) (sym key) ∙ below_is parent name in
          let row : Name → Option NameItem = λ n. Some (record { name = n; directory = option_map_or is_directory (map.get tree.nodes e.1) false }) in
          let first : length (cons_option (option_and_then row (Some name)) (filter_map (row_of tree parent) es)) ≡ 0 =
          ap (λ o. length (cons_option (option_and_then row o) (filter_map (row_of tree parent) es))) (sym named) ∙ none in
          absurd (cc)
      | false ↦ λ t rest. has_row tree parent name es number (rest refl)
          (elim (row_of tree parent e) as (λ o. length (cons_option o (filter_map (row_of tree parent) es)) ≡ 0 → length (filter_map (row_of tree parent) es) ≡ 0) [
            | None ↦ λ h. h
            | Some row ↦ λ h. absurd (cc)
          ] none)
    ] refl (λ other. ap (λ b. cond b (Some e.1) (find path_cmp (parent ++ name ∷ []) es)) (sym other) ∙ found)

pub leaf_empty : (slot : FilesetSlot) (path : Path) → not_empty slot path ≡ None → IsLeaf slot.tree path
leaf_empty slot path h =
    let tests = or_parts (length path == 0) (not (length (rows_of slot.tree path) == 0)) (passed_test (length path == 0 || not (length (rows_of slot.tree path) == 0)) NotEmpty h) in
    let rows : length (rows_of slot.tree path) ≡ 0 = eqb-true (length (rows_of slot.tree path)) 0 (not-false (length (rows_of slot.tree path) == 0) tests.1) in
    record {
      no_root = λ e. true≢false (ap (λ (p : Path). length p == 0) (sym e) ∙ tests.0);
      alone = λ name. elim (map.get slot.tree.paths (path ++ name ∷ [])) as (λ o. map.get slot.tree.paths (path ++ name ∷ []) ≡ o → o ≡ None) [
        | None ↦ λ is. refl
        | Some number ↦ λ is. absurd (has_row slot.tree path name (map.entries slot.tree.paths) number (sym (map.get-entries slot.tree.paths (path ++ name ∷ [])) ∙ is) rows)
      ] refl;
    }
