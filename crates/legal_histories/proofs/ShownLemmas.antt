-- Filesets that look alike refuse and answer alike.
use Rattle.std.proofs.Common.{◌≡◌, ℕ, zero, suc, ◌+◌, ◌<◌, ◌≤◌, Bool, true, false, not, cond, if◌then◌else◌, List, [], ◌∷◌, ◌++◌, length, take, drop, nat_le, nat_lt, ◌||◌, is_some, map as map_each, Option, Some, None, refl, sym, ap, subst, ◌∙◌, arith, length-append, length-take, take_at, take-take}
use Rattle.std.proofs.lemmas.List.{length-map, take-append-le}
use Rattle.std.proofs.lemmas.Bool.{ltb-true, ltb-false}
use Rattle.std.specs.List.{cons_option, filter_map, list_any, range_with_len}
use Rattle.std.specs.Option.{option_and_then, option_map, option_map_or}
use Rattle.std.specs.FinMap as map
use Rattle.fileset_model.specs.Apply.{answer_of, filesets_full, has_clone, in_fileset, is_clone, is_clone_of, links_full, links_of, move_checks, original_of, read_of, stat_of, name_taken, not_empty, out_of_sync, path_taken, read_checks, read_only, refusal_of, write_quota}
use Rattle.fileset_model.specs.Usage.{quota_refusal}
use Rattle.fileset_model.specs.domain_base.Limits.{file_bytes}
use Rattle.fileset_model.specs.LooksLike.{IsShown, LooksLike, LooksLikeSlot, LooksLikeThere}
use Rattle.fileset_model.specs.Fileset.{Fileset}
use Rattle.fileset_model.specs.fileset_values.Orders.{Name, Path, name_cmp, name_cmp-total, name_cmp-IsAntisymmetric, path_cmp, path_cmp-total, path_cmp-IsAntisymmetric}
use Rattle.fileset_model.specs.Paths.{begins_with, directory_here, directory_refusal, file_here, first_refusal, is_directory, is_out_of_sync, is_out_of_sync_at, name_below, names_one, node_at, paths_to, refuse_if, rows_of, same_name, target_refusal, walk_refusal}
use Rattle.fileset_model.specs.Filesets.{FilesetMap}
use Rattle.fileset_model.specs.fileset_values.declared.command.Command.{Command}
use Rattle.fileset_model.specs.fileset_values.declared.command.Command.TheVariants as command
use Rattle.fileset_model.specs.declared.fileset.FilesetSlot.{FilesetSlot}
use Rattle.fileset_model.specs.declared.fileset.Role.{Role}
use Rattle.fileset_model.specs.declared.fileset.Role.TheVariants.{Original, CloneOf}
use Rattle.fileset_model.specs.declared.node.Node.{Node}
use Rattle.fileset_model.specs.declared.node.Node.TheVariants.{File, Directory}
use Rattle.fileset_model.specs.fileset_values.declared.reply.Refusal.{Refusal}
use Rattle.fileset_model.specs.fileset_values.declared.reply.Refusal.TheVariants.{CloneOfClone, FilesetExists, FilesetsFull, HasClone, IsDirectory, NoFileset, NoPath, NotDirectory, OutOfSync, ReadOnly, TooFar}
use Rattle.fileset_model.specs.fileset_values.declared.reply.Reply.TheVariants.{Count, DirStat, Done, Filesets, Names}
use Rattle.legal_histories.proofs.ImageLemmas.{images, same_images, where_all}
use Rattle.fileset_model.proofs.RowsLemmas.{row_of}
use Rattle.legal_histories.proofs.ValidMoveLemmas.{begins}
use Rattle.std.specs.FinMap.Entries.{where_key}
use Rattle.fileset_model.specs.fileset_values.declared.reply.NameItem.{NameItem}
use Rattle.legal_histories.proofs.ValidLemmas.{passed, passed_test, passed_in}

false≢true : false ≡ true → ⊥
false≢true e = cc

-- what is asked of a node's kind alone
by_kind : {B : Type 0} (f : Bool → B) (o : Option Node) (d : B) → option_map_or (λ node. f (is_directory node)) o d ≡ option_map_or f (option_map is_directory o) d
by_kind f None d = refl
by_kind f (Some node) d = refl

-- a directory that a walk passes is not out of sync
passed_directory : (slot : FilesetSlot) (path : Path) → directory_refusal slot path ≡ None → is_out_of_sync_at slot path ≡ false
passed_directory slot path none =
    elim (node_at slot.tree path) as (λ o. option_map_or (λ node. first_refusal (refuse_if (not (is_directory node)) NotDirectory ∷ refuse_if (is_out_of_sync_at slot path) OutOfSync ∷ [])) o (Some NoPath) ≡ None → is_out_of_sync_at slot path ≡ false) [
      | None ↦ λ h. absurd (cc)
      | Some node ↦ λ h.
          let rest = (passed (refuse_if (not (is_directory node)) NotDirectory) (refuse_if (is_out_of_sync_at slot path) OutOfSync ∷ []) h).1 in
          passed_test (is_out_of_sync_at slot path) OutOfSync (passed (refuse_if (is_out_of_sync_at slot path) OutOfSync) [] rest).0
    ] none

-- the fronts of a path, from one on
abbrev fronts : Path → ℕ → ℕ → List Path
fronts path k n = map_each (λ count. take count path) (range_with_len k n)

-- what is refused on them
abbrev walk_on : FilesetSlot → Path → ℕ → ℕ → Option Refusal
walk_on slot path k n = first_refusal (map_each (directory_refusal slot) (fronts path k n))

module _ (slot : FilesetSlot) (path : Path) where
  -- a walk that is not refused passes no directory that is out of sync
  passed_fronts : (n k : ℕ) → walk_on slot path k n ≡ None → (count : ℕ) → k ≤ count → count < k + n → is_out_of_sync_at slot (take count path) ≡ false
  passed_fronts zero k none count from below = absurd (omega arith)
  passed_fronts (suc n) k none count from below =
      let both = passed (directory_refusal slot (take k path)) (map_each (directory_refusal slot) (fronts path (k + 1) n)) none in
      elim (nat_lt k count) as (λ b. nat_lt k count ≡ b → is_out_of_sync_at slot (take count path) ≡ false) [
        | true ↦ λ is. passed_fronts n (k + 1) both.1 count (omega (arith, ltb-true k count is)) (omega arith)
        | false ↦ λ is. let same : count ≡ k = omega (arith, ltb-false k count is) in rw same (passed_directory slot (take k path) both.0)
      ] refl

  pub passed_walk : walk_refusal slot path ≡ None → IsShown slot path
  passed_walk none count below = passed_fronts (length path) 0 none count (omega arith) (omega arith)

module _ (slot other : FilesetSlot) (alike : LooksLikeSlot slot other) where
  -- at a path that is shown
  pub same_mark : (path : Path) → IsShown slot path → is_out_of_sync_at other path ≡ is_out_of_sync_at slot path
  same_mark path shown = alike.out path shown

  -- both are clones, or none is
  pub same_clone : is_clone other.role ≡ is_clone slot.role
  same_clone = clone_of other.role ∙ ap is_some alike.of ∙ sym (clone_of slot.role)
    where
      clone_of : (role : Role) → is_clone role ≡ is_some (original_of role)
      clone_of Original = refl
      clone_of (CloneOf original out) = refl

  same_kind : {B : Type 0} (f : Bool → B) (d : B) (path : Path) → IsShown slot path
      → option_map_or (λ node. f (is_directory node)) (node_at other.tree path) d ≡ option_map_or (λ node. f (is_directory node)) (node_at slot.tree path) d
  same_kind f d path shown =
      by_kind f (node_at other.tree path) d ∙ ap (λ o. option_map_or f o d) (alike.kinds path shown) ∙ sym (by_kind f (node_at slot.tree path) d)

  same_directory : (path : Path) → IsShown slot path → directory_refusal other path ≡ directory_refusal slot path
  same_directory path shown =
      ap (λ m. option_map_or (λ node. first_refusal (refuse_if (not (is_directory node)) NotDirectory ∷ refuse_if m OutOfSync ∷ [])) (node_at other.tree path) (Some NoPath)) (same_mark path shown)
      ∙ same_kind (λ d. first_refusal (refuse_if (not d) NotDirectory ∷ refuse_if (is_out_of_sync_at slot path) OutOfSync ∷ [])) (Some NoPath) path shown

  -- the same walk from one front on, if none before is out of sync
  same_walk_on : (path : Path) (n k : ℕ) → k + n ≡ length path → ((count : ℕ) → count < k → is_out_of_sync_at slot (take count path) ≡ false)
      → walk_on other path k n ≡ walk_on slot path k n
  same_walk_on path zero k whole before = refl
  same_walk_on path (suc n) k whole before =
      let shown : IsShown slot (take k path) = λ count below.
      let short : count < k = omega (arith, below, length-take k path) in
      subst (λ p. is_out_of_sync_at slot p ≡ false) (sym (take-take count k path (omega (arith, short)))) (before count short) in
      ap (λ o. first_refusal (o ∷ map_each (directory_refusal other) (fronts path (k + 1) n))) (same_directory (take k path) shown)
      ∙ elim (directory_refusal slot (take k path)) as (λ o. directory_refusal slot (take k path) ≡ o
      → first_refusal (o ∷ map_each (directory_refusal other) (fronts path (k + 1) n)) ≡ first_refusal (o ∷ map_each (directory_refusal slot) (fronts path (k + 1) n))) [
        | Some refusal ↦ λ is. refl
        | None ↦ λ is. same_walk_on path n (k + 1) (omega arith) (λ count below.
            elim (nat_lt count k) as (λ b. nat_lt count k ≡ b → is_out_of_sync_at slot (take count path) ≡ false) [
              | true ↦ λ less. before count (ltb-true count k less)
              | false ↦ λ less. let same : count ≡ k = omega (arith, below, ltb-false count k less) in rw same (passed_directory slot (take k path) is)
            ] refl)
      ] refl

  same_walk : (path : Path) → walk_refusal other path ≡ walk_refusal slot path
  same_walk path = same_walk_on path (length path) 0 (omega arith) (λ count below. absurd (omega arith))

  -- the same checks after a target that is there and shown
  pub same_behind_target : (path : Path) (checks : FilesetSlot → List (Option Refusal))
      → (IsShown slot path → first_refusal (checks other) ≡ first_refusal (checks slot))
      → first_refusal (target_refusal other path ∷ checks other) ≡ first_refusal (target_refusal slot path ∷ checks slot)
  same_behind_target path checks same =
      ap (λ w. first_refusal (first_refusal (w ∷ refuse_if (not (map.contains_key other.tree.paths path)) NoPath ∷ []) ∷ checks other)) (same_walk path)
      ∙ elim (walk_refusal slot path) as (λ w. walk_refusal slot path ≡ w
      → first_refusal (first_refusal (w ∷ refuse_if (not (map.contains_key other.tree.paths path)) NoPath ∷ []) ∷ checks other)
      ≡ first_refusal (first_refusal (w ∷ refuse_if (not (map.contains_key slot.tree.paths path)) NoPath ∷ []) ∷ checks slot)) [
        | Some refusal ↦ λ is. refl
        | None ↦ λ is.
            let shown = passed_walk slot path is in
            ap (λ o. first_refusal (first_refusal (None ∷ refuse_if (not (is_some o)) NoPath ∷ []) ∷ checks other)) (alike.paths path shown)
            ∙ elim (not (map.contains_key slot.tree.paths path)) as (λ b. first_refusal (first_refusal (None ∷ refuse_if b NoPath ∷ []) ∷ checks other)
            ≡ first_refusal (first_refusal (None ∷ refuse_if b NoPath ∷ []) ∷ checks slot)) [
              | true ↦ refl
              | false ↦ same shown
            ]
      ] refl

  same_directory_here : (path : Path) → IsShown slot path → directory_here other path ≡ directory_here slot path
  same_directory_here path shown = ap (λ b. refuse_if b IsDirectory) (same_kind (λ d. d) false path shown)

  same_file_here : (path : Path) → IsShown slot path → file_here other path ≡ file_here slot path
  same_file_here path shown = ap (λ b. refuse_if b NotDirectory) (same_kind not false path shown)

  same_out_of_sync : (path : Path) → IsShown slot path → out_of_sync other path ≡ out_of_sync slot path
  same_out_of_sync path shown = ap (λ b. refuse_if b OutOfSync) (same_mark path shown)

-- ---- rows

-- whether a path is a row of a directory
abbrev is_row : Path → Path → Bool
is_row parent path = is_some (name_below parent path)

-- whether a number is a directory's
abbrev kind : Fileset → ℕ → Bool
kind tree number = option_map_or is_directory (map.get tree.nodes number) false

-- the row of a path with what stands there
abbrev named : Path → Path × Bool → Option NameItem
named parent e = option_and_then (λ name. Some (record { name = name; directory = e.1 })) (name_below parent e.0)

-- a row's path is one name longer than its directory's
row_path : (parent path : Path) → is_row parent path ≡ true → (name : Name) × (path ≡ parent ++ name ∷ [])
row_path parent path row =
    elim (begins_with path parent) as (λ b. begins_with path parent ≡ b → (name : Name) × (path ≡ parent ++ name ∷ [])) [
      | false ↦ λ is. absurd (false≢true (rw is at row))
      | true ↦ λ is.
          elim (drop (length parent) path) as (λ d. drop (length parent) path ≡ d → (name : Name) × (path ≡ parent ++ name ∷ [])) [
            | [] ↦ λ end. absurd (false≢true (rw (is, end) at row))
            | name ∷ rest ↦ elim rest as (λ r. drop (length parent) path ≡ name ∷ r → (name : Name) × (path ≡ parent ++ name ∷ [])) [
              | [] ↦ λ end. (name, begins path parent is ∙ ap (λ d. parent ++ d) end)
              | next ∷ more ↦ λ end. absurd (false≢true (rw (is, end) at row))
            ]
          ] refl
    ] refl

rows_by_kind : (tree : Fileset) (parent : Path) (es : List (Path × ℕ))
    → filter_map (row_of tree parent) es ≡ filter_map (named parent) (images path_cmp (kind tree) (where_key path_cmp (is_row parent) es))
rows_by_kind tree parent [] = refl
rows_by_kind tree parent (e ∷ es) =
    let rest = rows_by_kind tree parent es in
    elim (name_below parent e.0) as (λ o. name_below parent e.0 ≡ o
    → cons_option (option_and_then (λ name. Some (record { name = name; directory = kind tree e.1 })) o) (filter_map (row_of tree parent) es)
    ≡ filter_map (named parent) (images path_cmp (kind tree) (cond (is_some o) (e ∷ where_key path_cmp (is_row parent) es) (where_key path_cmp (is_row parent) es)))) [
      | None ↦ λ is. rest
      | Some name ↦ λ is.
          ap (cons_option (Some (record { name = name; directory = kind tree e.1 }))) rest
          ∙ sym (ap (λ o. cons_option (option_and_then (λ name. Some (record { name = name; directory = kind tree e.1 })) o) (filter_map (named parent) (images path_cmp (kind tree) (where_key path_cmp (is_row parent) es)))) is)
    ] refl

module _ (slot other : FilesetSlot) (alike : LooksLikeSlot slot other) (path : Path) (shown : IsShown slot path) (in_sync : is_out_of_sync_at slot path ≡ false) where
  row_shown : (q : Path) → is_row path q ≡ true → IsShown slot q
  row_shown q row count below =
      let r = row_path path q row in
      elim (nat_lt count (length path)) as (λ b. nat_lt count (length path) ≡ b → is_out_of_sync_at slot (take count q) ≡ false) [
        | true ↦ λ less.
            let front : take count q ≡ take count path = ap (take count) r.1 ∙ take-append-le count path (r.0 ∷ []) (omega (arith, ltb-true count (length path) less)) in
            rw front (shown count (ltb-true count (length path) less))
        | false ↦ λ less.
            let longer : length q ≡ length path + 1 = ap length r.1 ∙ length-append path (r.0 ∷ []) in
            let whole : take count q ≡ path = ap (take count) r.1 ∙ take_at path (r.0 ∷ []) count (omega (arith, below, longer, ltb-false count (length path) less)) in
            rw whole in_sync
      ] refl

  row_kind : (q : Path) → is_row path q ≡ true → option_map (kind slot.tree) (map.get slot.tree.paths q) ≡ option_map (kind other.tree) (map.get other.tree.paths q)
  row_kind q row =
      let seen = row_shown q row in
      elim (map.get slot.tree.paths q) as (λ o. map.get slot.tree.paths q ≡ o → option_map (kind slot.tree) o ≡ option_map (kind other.tree) (map.get other.tree.paths q)) [
        | None ↦ λ is. sym (ap (option_map (kind other.tree)) (alike.paths q seen ∙ is))
        | Some number ↦ λ is.
            let there : map.get other.tree.paths q ≡ Some number = alike.paths q seen ∙ is in
            let kinds : option_map is_directory (map.get other.tree.nodes number) ≡ option_map is_directory (map.get slot.tree.nodes number) =
            sym (ap (λ o. option_map is_directory (option_and_then (map.get other.tree.nodes) o)) there) ∙ alike.kinds q seen
            ∙ ap (λ o. option_map is_directory (option_and_then (map.get slot.tree.nodes) o)) is in
            ap Some (by_kind (λ d. d) (map.get slot.tree.nodes number) false ∙ ap (λ k. option_map_or (λ d. d) k false) (sym kinds) ∙ sym (by_kind (λ d. d) (map.get other.tree.nodes number) false))
            ∙ sym (ap (option_map (kind other.tree)) there)
      ] refl

  pub same_rows : rows_of other.tree path ≡ rows_of slot.tree path
  same_rows =
      rows_by_kind other.tree path (map.entries other.tree.paths)
      ∙ ap (filter_map (named path)) (sym (same_images path_cmp path_cmp-total path_cmp-IsAntisymmetric (kind slot.tree) (kind other.tree) (is_row path) slot.tree.paths other.tree.paths row_kind))
      ∙ sym (rows_by_kind slot.tree path (map.entries slot.tree.paths))

-- ---- commands

-- what a command that reads a place asks of a fileset
module _ (slot other : FilesetSlot) (alike : LooksLikeSlot slot other) where
  same_read : (path : Path) → first_refusal (read_checks path other) ≡ first_refusal (read_checks path slot)
  same_read path = same_behind_target slot other alike path (λ s. directory_here s path ∷ out_of_sync s path ∷ [])
      (λ shown. rw (same_directory_here slot other alike path shown, same_out_of_sync slot other alike path shown) refl)

  same_list : (path : Path) → first_refusal (target_refusal other path ∷ file_here other path ∷ out_of_sync other path ∷ []) ≡ first_refusal (target_refusal slot path ∷ file_here slot path ∷ out_of_sync slot path ∷ [])
  same_list path = same_behind_target slot other alike path (λ s. file_here s path ∷ out_of_sync s path ∷ [])
      (λ shown. rw (same_file_here slot other alike path shown, same_out_of_sync slot other alike path shown) refl)

  same_stat : (path : Path) → first_refusal (target_refusal other path ∷ out_of_sync other path ∷ []) ≡ first_refusal (target_refusal slot path ∷ out_of_sync slot path ∷ [])
  same_stat path = same_behind_target slot other alike path (λ s. out_of_sync s path ∷ [])
      (λ shown. rw (same_out_of_sync slot other alike path shown) refl)

  -- checks that begin with read-only: a clone refuses, and an original is the same
  same_changing : (checks : FilesetSlot → List (Option Refusal))
      → first_refusal (read_only other ∷ checks other) ≡ first_refusal (read_only slot ∷ checks slot)
  same_changing checks = elim slot.role as (λ r. slot.role ≡ r → first_refusal (read_only other ∷ checks other) ≡ first_refusal (read_only slot ∷ checks slot)) [
    | Original ↦ λ is. ap (λ s. first_refusal (read_only s ∷ checks s)) (alike.original is)
    | CloneOf original out ↦ λ is.
        let here : read_only slot ≡ Some ReadOnly = ap (λ r. refuse_if (is_clone r) ReadOnly) is in
        let there : read_only other ≡ Some ReadOnly = ap (λ b. refuse_if b ReadOnly) (same_clone slot other alike ∙ ap is_clone is) in
        ap (λ o. first_refusal (o ∷ checks other)) there ∙ sym (ap (λ o. first_refusal (o ∷ checks slot)) here)
  ] refl

module _ (all other : FilesetMap) (alike : LooksLike all other) where
  -- the checks in a fileset, which are no-fileset in both or the same
  same_in : (name : Name) (checks checks' : FilesetSlot → List (Option Refusal))
      → ((slot slot' : FilesetSlot) → LooksLikeSlot slot slot' → first_refusal (checks' slot') ≡ first_refusal (checks slot))
      → in_fileset other name checks' ≡ in_fileset all name checks
  same_in name checks checks' same = at (map.get all name) (map.get other name) (alike name)
    where
      at : (o o' : Option FilesetSlot) → LooksLikeThere o o'
          → option_map_or (λ slot. first_refusal (checks' slot)) o' (Some NoFileset) ≡ option_map_or (λ slot. first_refusal (checks slot)) o (Some NoFileset)
      at None o' none = ap (λ o. option_map_or (λ slot. first_refusal (checks' slot)) o (Some NoFileset)) none
      at (Some slot) None there = absurd there
      at (Some slot) (Some slot') there = same slot slot' there

  pub same_role : (name : Name) → option_map (λ (s : FilesetSlot). original_of s.role) (map.get all name) ≡ option_map (λ (s : FilesetSlot). original_of s.role) (map.get other name)
  same_role name = at (map.get all name) (map.get other name) (alike name)
    where
      at : (o o' : Option FilesetSlot) → LooksLikeThere o o' → option_map (λ (s : FilesetSlot). original_of s.role) o ≡ option_map (λ (s : FilesetSlot). original_of s.role) o'
      at None o' none = sym (ap (option_map (λ (s : FilesetSlot). original_of s.role)) none)
      at (Some slot) None there = absurd there
      at (Some slot) (Some slot') there = ap Some (sym there.of)

  -- both have the same names, and the clones among them are of the same originals
  same_roles : images name_cmp (λ (s : FilesetSlot). original_of s.role) (map.entries all) ≡ images name_cmp (λ (s : FilesetSlot). original_of s.role) (map.entries other)
  same_roles =
      sym (ap (images name_cmp (λ (s : FilesetSlot). original_of s.role)) (where_all name_cmp (map.entries all)))
      ∙ same_images name_cmp name_cmp-total name_cmp-IsAntisymmetric (λ (s : FilesetSlot). original_of s.role) (λ (s : FilesetSlot). original_of s.role) (λ _. true) all other (λ name _. same_role name)
      ∙ ap (images name_cmp (λ (s : FilesetSlot). original_of s.role)) (where_all name_cmp (map.entries other))

  pub same_len : map.len other ≡ map.len all
  same_len = map.len-entries other ∙ sym (length-map (map.entries other) (λ (e : Name × FilesetSlot). (e.0, original_of e.1.role))) ∙ sym (ap length same_roles)
      ∙ length-map (map.entries all) (λ (e : Name × FilesetSlot). (e.0, original_of e.1.role)) ∙ sym (map.len-entries all)

  same_name_taken : (name : Name) → name_taken other name ≡ name_taken all name
  same_name_taken name = ap (λ b. refuse_if b FilesetExists) (sym (has other name) ∙ sym (ap is_some (same_role name)) ∙ has all name)
    where
      has : (m : FilesetMap) (name : Name) → is_some (option_map (λ (s : FilesetSlot). original_of s.role) (map.get m name)) ≡ map.contains_key m name
      has m name = elim (map.get m name) as (λ o. is_some (option_map (λ (s : FilesetSlot). original_of s.role) o) ≡ is_some o) [ None ↦ refl | Some slot ↦ refl ]

  same_full : filesets_full other ≡ filesets_full all
  same_full = ap (λ n. refuse_if (nat_le 16 n) FilesetsFull) same_len

  clone_among : (name : Name) (es : List (Name × FilesetSlot)) → list_any (λ (s : FilesetSlot). is_clone_of name s.role) (map_each (λ e. e.1) es)
      ≡ list_any (λ (e : Name × Option Name). option_map_or (same_name name) e.1 false) (images name_cmp (λ (s : FilesetSlot). original_of s.role) es)
  clone_among name [] = refl
  clone_among name (e ∷ es) = ap (λ rest. is_clone_of name e.1.role || rest) (clone_among name es)

  same_has_clone : (name : Name) → has_clone other name ≡ has_clone all name
  same_has_clone name =
      clone_among name (map.entries other) ∙ sym (ap (list_any (λ (e : Name × Option Name). option_map_or (same_name name) e.1 false)) same_roles) ∙ sym (clone_among name (map.entries all))

  -- a command that changes a fileset
  same_change : (name : Name) (checks : FilesetSlot → List (Option Refusal))
      → in_fileset other name (λ s. read_only s ∷ checks s) ≡ in_fileset all name (λ s. read_only s ∷ checks s)
  same_change name checks = same_in name (λ s. read_only s ∷ checks s) (λ s. read_only s ∷ checks s) (λ slot slot' like. same_changing slot slot' like checks)

  pub same_refusal : (c : Command) → refusal_of other c ≡ refusal_of all c
  same_refusal (command.Mkfset fileset) = rw (same_name_taken fileset, same_full) refl
  same_refusal (command.Rmfset fileset) = same_in fileset (λ slot. refuse_if (has_clone all fileset) HasClone ∷ []) (λ slot. refuse_if (has_clone other fileset) HasClone ∷ [])
      (λ slot slot' like. rw (same_has_clone fileset) refl)
  same_refusal (command.Clonefset fileset new_name) =
      same_in fileset (λ slot. refuse_if (is_clone slot.role) CloneOfClone ∷ refuse_if (has_clone all fileset) HasClone ∷ name_taken all new_name ∷ filesets_full all ∷ [])
      (λ slot. refuse_if (is_clone slot.role) CloneOfClone ∷ refuse_if (has_clone other fileset) HasClone ∷ name_taken other new_name ∷ filesets_full other ∷ [])
      (λ slot slot' like. rw (same_clone slot slot' like, same_has_clone fileset, same_name_taken new_name, same_full) refl)
  same_refusal (command.Setquota fileset who files blocks) = same_change fileset (λ s. [])
  same_refusal (command.Showquota fileset who) = same_change fileset (λ s. [])
  same_refusal (command.Create place uid gid) = same_change place.fileset (λ s. walk_refusal s place.path ∷ path_taken s place.path ∷ quota_refusal s.tree uid gid 1 0 ∷ [])
  same_refusal (command.Mkdir place uid gid) = same_change place.fileset (λ s. walk_refusal s place.path ∷ path_taken s place.path ∷ quota_refusal s.tree uid gid 1 0 ∷ [])
  same_refusal (command.Write place offset bytes) = same_change place.fileset (λ s. target_refusal s place.path ∷ directory_here s place.path ∷ refuse_if (nat_lt file_bytes (offset + length bytes)) TooFar
      ∷ option_map_or (write_quota s.tree offset bytes) (node_at s.tree place.path) None ∷ [])
  same_refusal (command.Truncate place size) = same_change place.fileset (λ s. target_refusal s place.path ∷ directory_here s place.path ∷ refuse_if (nat_lt file_bytes size) TooFar ∷ [])
  same_refusal (command.Rename place to) = same_change place.fileset (λ s. target_refusal s place.path ∷ walk_refusal s to
      ∷ (if names_one s.tree place.path to then None else first_refusal (move_checks place.path to s)) ∷ [])
  same_refusal (command.Link place to) = same_change place.fileset (λ s. target_refusal s place.path ∷ directory_here s place.path ∷ walk_refusal s to ∷ path_taken s to ∷ links_full s place.path ∷ [])
  same_refusal (command.Links place) = same_in place.fileset (read_checks place.path) (read_checks place.path) (λ slot slot' like. same_read slot slot' like place.path)
  same_refusal (command.Unlink place) = same_change place.fileset (λ s. target_refusal s place.path ∷ directory_here s place.path ∷ [])
  same_refusal (command.Rmdir place) = same_change place.fileset (λ s. target_refusal s place.path ∷ file_here s place.path ∷ not_empty s place.path ∷ [])
  same_refusal (command.Fsync place) = same_change place.fileset (λ s. target_refusal s place.path ∷ [])
  same_refusal (command.Chfile place logged) = same_change place.fileset (λ s. target_refusal s place.path ∷ directory_here s place.path ∷ [])
  same_refusal (command.Read place offset count) = same_in place.fileset (read_checks place.path) (read_checks place.path) (λ slot slot' like. same_read slot slot' like place.path)
  same_refusal (command.List place) = same_in place.fileset (λ s. target_refusal s place.path ∷ file_here s place.path ∷ out_of_sync s place.path ∷ [])
      (λ s. target_refusal s place.path ∷ file_here s place.path ∷ out_of_sync s place.path ∷ []) (λ slot slot' like. same_list slot slot' like place.path)
  same_refusal (command.Stat place) = same_in place.fileset (λ s. target_refusal s place.path ∷ out_of_sync s place.path ∷ [])
      (λ s. target_refusal s place.path ∷ out_of_sync s place.path ∷ []) (λ slot slot' like. same_stat slot slot' like place.path)
  same_refusal c = refl

  -- ---- answers

  -- a fileset that is there stands in the other too, and looks like it
  in_other : (name : Name) (slot : FilesetSlot) → map.get all name ≡ Some slot → (slot' : FilesetSlot) × (map.get other name ≡ Some slot') × LooksLikeSlot slot slot'
  in_other name slot is = at (map.get other name) refl (rw is at (alike name))
    where
      at : (o : Option FilesetSlot) → map.get other name ≡ o → LooksLikeThere (Some slot) o → (slot' : FilesetSlot) × (map.get other name ≡ Some slot') × LooksLikeSlot slot slot'
      at None is there = absurd there
      at (Some slot') is there = (slot', is, there)

-- the same node at a path that is shown and in sync
same_node : (slot other : FilesetSlot) → LooksLikeSlot slot other → (path : Path) → IsShown slot path → is_out_of_sync_at slot path ≡ false
    → node_at other.tree path ≡ node_at slot.tree path
same_node slot other alike path shown in_sync =
    elim (map.get slot.tree.paths path) as (λ o. map.get slot.tree.paths path ≡ o → option_and_then (map.get other.tree.nodes) (map.get other.tree.paths path) ≡ option_and_then (map.get slot.tree.nodes) o) [
      | None ↦ λ is. ap (option_and_then (map.get other.tree.nodes)) (alike.paths path shown ∙ is)
      | Some number ↦ λ is.
          let unmarked : is_out_of_sync slot.role number ≡ false = sym (ap (λ o. option_map_or (is_out_of_sync slot.role) o false) is) ∙ in_sync in
          ap (option_and_then (map.get other.tree.nodes)) (alike.paths path shown ∙ is) ∙ alike.nodes path number (record { shown = shown; leads = is; in_sync = unmarked })
    ] refl

-- what checks that begin with the target, and end with the mark, say when all of them pass
module _ (slot : FilesetSlot) (path : Path) where
  passed_target : (checks : List (Option Refusal)) → first_refusal (target_refusal slot path ∷ checks) ≡ None → IsShown slot path × (first_refusal checks ≡ None)
  passed_target checks none =
      let both = passed (target_refusal slot path) checks none in
      let walk = passed (walk_refusal slot path) (refuse_if (not (map.contains_key slot.tree.paths path)) NoPath ∷ []) both.0 in
      (passed_walk slot path walk.0, both.1)

  passed_mark : first_refusal (out_of_sync slot path ∷ []) ≡ None → is_out_of_sync_at slot path ≡ false
  passed_mark none = passed_test (is_out_of_sync_at slot path) OutOfSync (passed (out_of_sync slot path) [] none).0

same_links : (slot other : FilesetSlot) → LooksLikeSlot slot other → (path : Path) → IsShown slot path → is_out_of_sync_at slot path ≡ false → links_of path other.tree ≡ links_of path slot.tree
same_links slot other alike path shown in_sync =
    elim (map.get slot.tree.paths path) as (λ o. map.get slot.tree.paths path ≡ o → links_of path other.tree ≡ option_map_or (λ number. Count (paths_to slot.tree number)) o Done) [
      | None ↦ λ is. ap (λ o. option_map_or (λ number. Count (paths_to other.tree number)) o Done) (alike.paths path shown ∙ is)
      | Some number ↦ λ is.
          let unmarked : is_out_of_sync slot.role number ≡ false = sym (ap (λ o. option_map_or (is_out_of_sync slot.role) o false) is) ∙ in_sync in
          ap (λ o. option_map_or (λ number. Count (paths_to other.tree number)) o Done) (alike.paths path shown ∙ is)
          ∙ ap Count (alike.links path number (record { shown = shown; leads = is; in_sync = unmarked }))
    ] refl

same_stat_of : (slot other : FilesetSlot) (path : Path) → rows_of other.tree path ≡ rows_of slot.tree path → (node : Node) → stat_of other.tree path node ≡ stat_of slot.tree path node
same_stat_of slot other path rows (File uid gid size logged pages) = refl
same_stat_of slot other path rows (Directory uid gid) = ap (λ r. DirStat uid gid (length r)) rows

is_original : (role : Role) → is_clone role ≡ false → role ≡ Original
is_original Original none = refl
is_original (CloneOf original out) none = absurd (cc)

images_then : {Y : Type 0} (f : Name × Option Name → Y) (es : List (Name × FilesetSlot))
    → map_each (λ e. f (e.0, original_of e.1.role)) es ≡ map_each f (images name_cmp (λ (s : FilesetSlot). original_of s.role) es)
images_then f [] = refl
images_then f (e ∷ es) = ap (λ rest. f (e.0, original_of e.1.role) ∷ rest) (images_then f es)

module _ (all other : FilesetMap) (alike : LooksLike all other) where
  pub same_answer : (c : Command) → refusal_of all c ≡ None → answer_of other c ≡ answer_of all c
  same_answer command.Showfsets none =
      ap Filesets (images_then (λ (e : Name × Option Name). record { fileset = e.0; original = e.1 }) (map.entries other)
      ∙ ap (map_each (λ (e : Name × Option Name). record { fileset = e.0; original = e.1 })) (sym (same_roles all other alike))
      ∙ sym (images_then (λ (e : Name × Option Name). record { fileset = e.0; original = e.1 }) (map.entries all)))
  same_answer (command.Showquota fileset who) none =
      let here = passed_in all fileset (λ s. read_only s ∷ []) none in
      let there = in_other all other alike fileset here.0 here.1 in
      let same : there.0 ≡ here.0 = there.2.original (is_original here.0.role (passed_test (is_clone here.0.role) ReadOnly (passed (read_only here.0) [] here.2).0)) in
      rw (here.1, there.1, same) refl
  same_answer (command.Read place offset count) none =
      let here = passed_in all place.fileset (read_checks place.path) none in
      let there = in_other all other alike place.fileset here.0 here.1 in
      let target = passed_target here.0 place.path (directory_here here.0 place.path ∷ out_of_sync here.0 place.path ∷ []) here.2 in
      let mark = passed_mark here.0 place.path (passed (directory_here here.0 place.path) (out_of_sync here.0 place.path ∷ []) target.1).1 in
      rw (here.1, there.1) (ap (λ o. option_map_or (read_of offset count) o Done) (same_node here.0 there.0 there.2 place.path target.0 mark))
  same_answer (command.Links place) none =
      let here = passed_in all place.fileset (read_checks place.path) none in
      let there = in_other all other alike place.fileset here.0 here.1 in
      let target = passed_target here.0 place.path (directory_here here.0 place.path ∷ out_of_sync here.0 place.path ∷ []) here.2 in
      let mark = passed_mark here.0 place.path (passed (directory_here here.0 place.path) (out_of_sync here.0 place.path ∷ []) target.1).1 in
      rw (here.1, there.1) (same_links here.0 there.0 there.2 place.path target.0 mark)
  same_answer (command.List place) none =
      let here = passed_in all place.fileset (λ s. target_refusal s place.path ∷ file_here s place.path ∷ out_of_sync s place.path ∷ []) none in
      let there = in_other all other alike place.fileset here.0 here.1 in
      let target = passed_target here.0 place.path (file_here here.0 place.path ∷ out_of_sync here.0 place.path ∷ []) here.2 in
      let mark = passed_mark here.0 place.path (passed (file_here here.0 place.path) (out_of_sync here.0 place.path ∷ []) target.1).1 in
      rw (here.1, there.1) (ap Names (same_rows here.0 there.0 there.2 place.path target.0 mark))
  same_answer (command.Stat place) none =
      let here = passed_in all place.fileset (λ s. target_refusal s place.path ∷ out_of_sync s place.path ∷ []) none in
      let there = in_other all other alike place.fileset here.0 here.1 in
      let target = passed_target here.0 place.path (out_of_sync here.0 place.path ∷ []) here.2 in
      let mark = passed_mark here.0 place.path target.1 in
      let rows = same_rows here.0 there.0 there.2 place.path target.0 mark in
      rw (here.1, there.1) (ap (λ o. option_map_or (stat_of there.0.tree place.path) o Done) (same_node here.0 there.0 there.2 place.path target.0 mark)
      ∙ elim (node_at here.0.tree place.path) as (λ o. option_map_or (stat_of there.0.tree place.path) o Done ≡ option_map_or (stat_of here.0.tree place.path) o Done) [
        | None ↦ refl
        | Some node ↦ same_stat_of here.0 there.0 place.path rows node
      ])
  same_answer c none = refl
