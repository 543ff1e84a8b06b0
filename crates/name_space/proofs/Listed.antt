-- The rows of a directory, and the paths that are one name longer than one to it.
use Rattle.std.proofs.Common.{◌≡◌, ◌∙◌, ℕ, ◌&&◌, Bool, true, false, cond, not, is_some, List, [], ◌∷◌, ◌++◌, Option, Some, None, IsSomeAnd, length, length-append, map as map_each, take, drop, nat_lt, IsTrue, refl, sym, ap, subst, arith, suc, ltb-true, ltb-false}
use Rattle.std.proofs.lemmas.List.{drop_at, take-append-le, take_at}
use Rattle.std.specs.List.{cons_option, filter_map}
use Rattle.std.specs.List.Sorted.{IsPermutation, IsSortedByKey}
use Rattle.std.specs.declared.cmp.Ordering.{Ordering}
use Rattle.std.specs.declared.cmp.Ordering.TheVariants.{Less, Equal, Greater}
use Rattle.std.specs.Ordering.{eq_by_cmp, is_eq, is_lt, ordering_then}
use Rattle.std.specs.Cmp.{Equal-is, first_so, second_so, tied_itself}
use Rattle.std.specs.Option.{option_and_then, option_map, option_map_or}
use Rattle.std.specs.FinMap as map
use Rattle.std.specs.FinMap.Entries.{below_all, find, is_sorted}
use Rattle.plain_program.specs.domain_base.declared.place.Kind.{Kind}
use Rattle.plain_program.specs.domain_base.declared.place.Kind.TheVariants.{Directory}
use Rattle.plain_program.specs.domain_base.declared.place.Tag.{Tag}
use Rattle.directory_rows.specs.page_store.Bitfiles.{Bitfile, Bitfiles, IsDirectory}
use Rattle.directory_rows.specs.directory_pages.declared.row.Row.{Row}
use Rattle.directory_rows.specs.directory_pages.Rows.{found}
use Rattle.directory_rows.specs.Directory.{NamesOnce, rows_in}
use Rattle.plain_program.specs.fileset_model.Fileset.{Fileset}
use Rattle.plain_program.specs.fileset_model.LooksLike.{IsShown}
use Rattle.plain_program.specs.fileset_values.Orders.{Name, Path, name_cmp, name_cmp-total, name_cmp-IsAntisymmetric, path_cmp, path_cmp-IsAntisymmetric}
use Rattle.plain_program.specs.fileset_model.Paths.{begins_with, is_directory, is_out_of_sync, is_out_of_sync_at, name_below, rows_of}
use Rattle.plain_program.specs.fileset_model.declared.fileset.FilesetSlot.{FilesetSlot}
use Rattle.plain_program.specs.fileset_model.declared.node.Node.{Node}
use Rattle.plain_program.specs.fileset_values.declared.reply.NameItem.{NameItem}
use Rattle.plain_program.proofs.OfFilesetModel.MoveLemmas.{sorted_entries}
use Rattle.plain_program.proofs.OfFilesetModel.RowsLemmas.{row_of}
use Rattle.plain_program.proofs.OfLegalHistories.ValidMoveLemmas.{begins, begins_of}
use Rattle.plain_program.proofs.OfSortedSets.EntryLemmas.{entries-from_sorted, get-from_sorted}
use Rattle.name_space.specs.Lists.{AreRowsOf, IsRowCount, item_of}
use Rattle.name_space.specs.Names.{Names, is_directory_kind, led_to, number_of}
use Rattle.name_space.proofs.Keyed.{entries_once, entry_of, found_kind, keyed_map, sorted_entries_of}
use Rattle.name_space.proofs.Leads.{led-name}

-- ---- names below a directory

below_is : (parent : Path) (name : Name) → name_below parent (parent ++ name ∷ []) ≡ Some name
below_is parent name = rw (begins_of (parent ++ name ∷ []) parent (name ∷ []) refl, drop_at parent (name ∷ []) (length parent) refl)

-- a path below a directory is one name longer
below_path : (parent path : Path) (name : Name) → name_below parent path ≡ Some name → path ≡ parent ++ name ∷ []
below_path parent path name below =
    elim (begins_with path parent) as (λ b. begins_with path parent ≡ b → path ≡ parent ++ name ∷ []) [
      | false ↦ λ is. absurd (none_some (rw is at below))
      | true ↦ λ is.
          elim (drop (length parent) path) as (λ d. drop (length parent) path ≡ d → path ≡ parent ++ name ∷ []) [
            | [] ↦ λ end. absurd (none_some (rw (is, end) at below))
            | first ∷ rest ↦ elim rest as (λ r. drop (length parent) path ≡ first ∷ r → path ≡ parent ++ name ∷ []) [
              | [] ↦ λ end. begins path parent is ∙ ap (λ d. parent ++ d) end ∙ ap (λ n. parent ++ n ∷ []) (same_some (rw (is, end) at below))
              | next ∷ more ↦ λ end. absurd (none_some (rw (is, end) at below))
            ]
          ] refl
    ] refl
  where
    none_some : (¬ None ≡ Some name)
    none_some e = cc

    same_some : {n : Name} → Some n ≡ Some name → n ≡ name
    same_some {n = n} e = ap (λ o. option_map_or (λ x. x) o n) e

then_equal : (o : Ordering) → ordering_then o Equal ≡ o
then_equal Less = refl
then_equal Equal = refl
then_equal Greater = refl

-- paths below one directory stand in the order of their last names
path_order : (parent : Path) (m n : Name) → path_cmp (parent ++ m ∷ []) (parent ++ n ∷ []) ≡ name_cmp m n
path_order [] m n = then_equal (name_cmp m n)
path_order (x ∷ parent) m n = ap (λ o. ordering_then o (path_cmp (parent ++ m ∷ []) (parent ++ n ∷ []))) (tied_itself name_cmp-total x) ∙ path_order parent m n

module _ (tree : Fileset) (parent : Path) where
  abbrev kind_there : ℕ → Bool
  kind_there number = option_map_or is_directory (map.get tree.nodes number) false

  abbrev entry_below : Path × ℕ → Option (Name × Bool)
  entry_below e = option_map (λ name. (name, kind_there e.1)) (name_below parent e.0)

  -- the rows as entries by their names
  abbrev keyed : List (Path × ℕ) → List (Name × Bool)
  keyed es = filter_map entry_below es

  abbrev item : Name × Bool → NameItem
  item e = record { name = e.0; directory = e.1 }

  items_keyed : (es : List (Path × ℕ)) → filter_map (row_of tree parent) es ≡ map_each item (keyed es)
  items_keyed [] = refl
  items_keyed (e ∷ es) = by_name (name_below parent e.0) (items_keyed es)
    where
      by_name : (o : Option Name) → filter_map (row_of tree parent) es ≡ map_each item (keyed es)
          → cons_option (option_and_then (λ name. Some (record { name = name; directory = kind_there e.1 })) o) (filter_map (row_of tree parent) es)
          ≡ map_each item (cons_option (option_map (λ name. (name, kind_there e.1)) o) (keyed es))
      by_name None rest = rest
      by_name (Some name) rest = ap (λ l. record { name = name; directory = kind_there e.1 } ∷ l) rest

  keyed_below : (name : Name) (es : List (Path × ℕ)) → IsTrue (below_all path_cmp (parent ++ name ∷ []) es) → IsTrue (below_all name_cmp name (keyed es))
  keyed_below name [] below = refl
  keyed_below name (e ∷ es) below =
      let rest = keyed_below name es (second_so _ _ below) in
      elim (name_below parent e.0) as (λ o. name_below parent e.0 ≡ o → IsTrue (below_all name_cmp name (cons_option (option_map (λ n. (n, kind_there e.1)) o) (keyed es)))) [
        | None ↦ λ is. rest
        | Some n ↦ λ is.
            let lt : is_lt (name_cmp name n) ≡ true =
            ap is_lt (sym (path_order parent name n)) ∙ ap (λ p. is_lt (path_cmp (parent ++ name ∷ []) p)) (sym (below_path parent e.0 n is)) ∙ first_so _ _ below in
            ap (λ b. b && below_all name_cmp name (keyed es)) lt ∙ rest
      ] refl

  keyed_sorted : (es : List (Path × ℕ)) → IsTrue (is_sorted path_cmp es) → IsTrue (is_sorted name_cmp (keyed es))
  keyed_sorted [] sorted = refl
  keyed_sorted (e ∷ es) sorted =
      let rest = keyed_sorted es (second_so _ _ sorted) in
      elim (name_below parent e.0) as (λ o. name_below parent e.0 ≡ o → IsTrue (is_sorted name_cmp (cons_option (option_map (λ n. (n, kind_there e.1)) o) (keyed es)))) [
        | None ↦ λ is. rest
        | Some n ↦ λ is.
            let low = keyed_below n es (subst (λ p. IsTrue (below_all path_cmp p es)) (below_path parent e.0 n is) (first_so _ _ sorted)) in
            ap (λ b. b && is_sorted name_cmp (keyed es)) low ∙ rest
      ] refl

  keyed_find : (q : Name) (es : List (Path × ℕ)) → find name_cmp q (keyed es) ≡ option_map kind_there (find path_cmp (parent ++ q ∷ []) es)
  keyed_find q [] = refl
  keyed_find q (e ∷ es) =
      let rest = keyed_find q es in
      elim (name_below parent e.0) as (λ o. name_below parent e.0 ≡ o → find name_cmp q (cons_option (option_map (λ n. (n, kind_there e.1)) o) (keyed es))
      ≡ option_map kind_there (cond (eq_by_cmp path_cmp (parent ++ q ∷ []) e.0) (Some e.1) (find path_cmp (parent ++ q ∷ []) es))) [
        | None ↦ λ is. rest ∙ ap (λ b. option_map kind_there (cond b (Some e.1) (find path_cmp (parent ++ q ∷ []) es))) (sym (other e.0 is))
        | Some n ↦ λ is.
            let same : eq_by_cmp name_cmp q n ≡ eq_by_cmp path_cmp (parent ++ q ∷ []) e.0 = ap is_eq (sym (path_order parent q n)) ∙ ap (eq_by_cmp path_cmp (parent ++ q ∷ [])) (sym (below_path parent e.0 n is)) in
            ap (λ b. cond b (Some (kind_there e.1)) (find name_cmp q (keyed es))) same
            ∙ ap (cond (eq_by_cmp path_cmp (parent ++ q ∷ []) e.0) (Some (kind_there e.1))) rest
            ∙ inside (eq_by_cmp path_cmp (parent ++ q ∷ []) e.0) (find path_cmp (parent ++ q ∷ []) es) e.1
      ] refl
    where
      other : (p : Path) → name_below parent p ≡ None → eq_by_cmp path_cmp (parent ++ q ∷ []) p ≡ false
      other p none =
          elim (eq_by_cmp path_cmp (parent ++ q ∷ []) p) as (λ b. eq_by_cmp path_cmp (parent ++ q ∷ []) p ≡ b → b ≡ false) [
            | false ↦ λ t. refl
            | true ↦ λ t.
                let key : parent ++ q ∷ [] ≡ p = path_cmp-IsAntisymmetric (parent ++ q ∷ []) p ((Equal-is (path_cmp (parent ++ q ∷ []) p)).0 t) in
                let named : Some q ≡ None = sym (below_is parent q) ∙ ap (name_below parent) key ∙ none in
                absurd (cc)
          ] refl

      inside : (b : Bool) (o : Option ℕ) (n : ℕ) → cond b (Some (kind_there n)) (option_map kind_there o) ≡ option_map kind_there (cond b (Some n) o)
      inside true o n = refl
      inside false o n = refl

-- ---- the rows of a directory that a path leads to

module _ (files : Bitfiles) (slot : FilesetSlot) (names : Names files slot) (dir : Tag) (path : Path) (there : IsDirectory files dir) (shown : IsShown slot path)
    (led : led_to files path ≡ Some (dir, Directory)) where
  -- a directory that the set has is in sync
  in_sync : is_out_of_sync_at slot path ≡ false
  in_sync =
      ap (λ (o : Option ℕ). option_map_or (is_out_of_sync slot.role) o false) (names.paths path shown ∙ ap (option_map (λ (led : Tag × Kind). number_of led.0)) led)
      ∙ (names.shown path dir Directory shown led).out ∙ live (files dir) there
    where
      live : (o : Option Bitfile) → IsSomeAnd o (λ file. file.kind ≡ Directory) → not (is_some o) ≡ false
      live None there = absurd there
      live (Some file) there = refl

  row_shown : (name : Name) → IsShown slot (path ++ name ∷ [])
  row_shown name count below =
      elim (nat_lt count (length path)) as (λ b. nat_lt count (length path) ≡ b → is_out_of_sync_at slot (take count (path ++ name ∷ [])) ≡ false) [
        | true ↦ λ less.
            let front : take count (path ++ name ∷ []) ≡ take count path = take-append-le count path (name ∷ []) (omega (arith, ltb-true count (length path) less)) in
            ap (is_out_of_sync_at slot) front ∙ shown count (ltb-true count (length path) less)
        | false ↦ λ less.
            let whole : take count (path ++ name ∷ []) ≡ path = take_at path (name ∷ []) count (omega (arith, below, length-append path (name ∷ []), ltb-false count (length path) less)) in
            ap (is_out_of_sync_at slot) whole ∙ in_sync
      ] refl

  led_row : (name : Name) → led_to files (path ++ name ∷ []) ≡ found name (rows_in files dir)
  led_row name = led-name files path name ∙ ap (option_and_then (λ (led : Tag × Kind). found name (rows_in files led.0))) led

  -- a name's row and its path are of one kind
  same_kind : (name : Name) → option_map (λ (led : Tag × Kind). is_directory_kind led.1) (found name (rows_in files dir)) ≡ option_map (kind_there slot.tree path) (map.get slot.tree.paths (path ++ name ∷ []))
  same_kind name =
      by_row (found name (rows_in files dir)) (led_row name)
      ∙ ap (option_map (kind_there slot.tree path)) (ap (option_map (λ (led : Tag × Kind). number_of led.0)) (sym (led_row name)) ∙ sym (names.paths (path ++ name ∷ []) (row_shown name)))
    where
      of_node : (o : Option Node) (b : Bool) → IsSomeAnd o (λ node. is_directory node ≡ b) → b ≡ option_map_or is_directory o false
      of_node None b is = absurd is
      of_node (Some node) b is = sym is

      by_row : (o : Option (Tag × Kind)) → led_to files (path ++ name ∷ []) ≡ o
          → option_map (λ (led : Tag × Kind). is_directory_kind led.1) o ≡ option_map (kind_there slot.tree path) (option_map (λ (led : Tag × Kind). number_of led.0) o)
      by_row None is = refl
      by_row (Some row) is = ap Some (of_node (map.get slot.tree.nodes (number_of row.0)) (is_directory_kind row.1) (names.shown (path ++ name ∷ []) row.0 row.1 (row_shown name) is).kind)

  entries : List (Name × Bool)
  entries = keyed slot.tree path (map.entries slot.tree.paths)

  order : IsTrue (is_sorted name_cmp entries)
  unfolding entries
  order = keyed_sorted slot.tree path (map.entries slot.tree.paths) (sorted_entries slot.tree.paths)

  same_entries : map.entries (keyed_map (rows_in files dir)) ≡ entries
  unfolding entries
  same_entries =
      ap map.entries (map.same_map name_cmp-total name_cmp-IsAntisymmetric (keyed_map (rows_in files dir)) (map.from_sorted entries) (λ q.
      map.get-from_entries name_cmp-total (map_each entry_of (rows_in files dir)) q ∙ found_kind q (rows_in files dir) ∙ same_kind q
      ∙ ap (option_map (kind_there slot.tree path)) (map.get-entries slot.tree.paths (path ++ q ∷ []))
      ∙ sym (keyed_find slot.tree path q (map.entries slot.tree.paths)) ∙ sym (get-from_sorted name_cmp entries q order)))
      ∙ entries-from_sorted name_cmp entries order

  rows_entries : rows_of slot.tree path ≡ map_each (item slot.tree path) entries
  unfolding entries
  rows_entries = items_keyed slot.tree path (map.entries slot.tree.paths)

  -- they are its rows in the order of their names
  rows_listed : (list : List Row) → NamesOnce (rows_in files dir) → IsPermutation (rows_in files dir) list → IsSortedByKey (λ (row : Row). row.name) name_cmp list → map_each item_of list ≡ rows_of slot.tree path
  rows_listed list once same sorted =
      items list
      ∙ ap (map_each (item slot.tree path)) (sym (sorted_entries_of (rows_in files dir) list once same sorted) ∙ same_entries)
      ∙ sym rows_entries
    where
      items : (l : List Row) → map_each item_of l ≡ map_each (item slot.tree path) (map_each entry_of l)
      items [] = refl
      items (row ∷ l) = ap (λ rest. item_of row ∷ rest) (items l)

  -- and as many
  rows_counted : NamesOnce (rows_in files dir) → length (rows_in files dir) ≡ length (rows_of slot.tree path)
  rows_counted once =
      sym (entries_once (rows_in files dir) once) ∙ map.len-entries (keyed_map (rows_in files dir)) ∙ ap length same_entries
      ∙ sym (ap length rows_entries ∙ long entries)
    where
      long : (es : List (Name × Bool)) → length (map_each (item slot.tree path) es) ≡ length es
      long [] = refl
      long (e ∷ es) = ap suc (long es)

pub are_rows : (files : Bitfiles) (slot : FilesetSlot) (dir : Tag) (list : List Row) → Names files slot → IsDirectory files dir → NamesOnce (rows_in files dir)
    → IsPermutation (rows_in files dir) list → IsSortedByKey (λ (row : Row). row.name) name_cmp list → AreRowsOf files slot dir (map_each item_of list)
are_rows files slot dir list names there once same sorted path shown led = rows_listed files slot names dir path there shown led list once same sorted

pub row_count_is : (files : Bitfiles) (slot : FilesetSlot) (dir : Tag) → Names files slot → IsDirectory files dir → NamesOnce (rows_in files dir) → IsRowCount files slot dir (length (rows_in files dir))
row_count_is files slot dir names there once path shown led = rows_counted files slot names dir path there shown led once
