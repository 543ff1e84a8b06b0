-- A new file or directory, and the row that names it.
use Rattle.std.proofs.Common.{◌≡◌, ◌≢◌, ◌⊎◌, ◌∙◌, ℕ, ◌+◌, ◌-◌, ◌^◌, ◌<◌, ◌≤◌, length, length-append, take, take_all, List, ◌==◌, ◌&&◌, true, false, cond, is_some, eqb-true, [], ◌∷◌, ◌++◌, Option, Some, None, IsSome, IsSomeAnd, inl, inr, refl, sym, ap, subst, arith, true≢false}
use Rattle.std.proofs.lemmas.Bool.{eq-eqb}
use Rattle.std.proofs.lemmas.List.{take_at, take_more}
use Rattle.std.specs.Ordering.{nat_cmp}
use Rattle.std.specs.Cmp.{nat_cmp_total}
use Rattle.std.specs.Option.{option_and_then, option_map, option_map_or}
use Rattle.std.specs.FinMap as map
use Rattle.plain_program.specs.domain_base.declared.place.Kind.{Kind}
use Rattle.plain_program.specs.domain_base.declared.place.Kind.TheVariants as kinds
use Rattle.plain_program.specs.domain_base.declared.place.Tag.{Tag}
use Rattle.directory_rows.specs.page_store.Bitfiles.{Bitfile, Bitfiles, IsDirectory, count_index, new_file, same_tag, with_file}
use Rattle.directory_rows.specs.directory_pages.declared.row.Row.{Row}
use Rattle.directory_rows.specs.directory_pages.Rows.{found, is_named}
use Rattle.directory_rows.proofs.Entered.{named_found}
use Rattle.directory_rows.specs.Directory.{IsWellFormed, all_rows, rows_in}
use Rattle.directory_rows.specs.Laws.{IsSameNode, LeavesOthers}
use Rattle.directory_rows.specs.RowChanges.{AddsRow}
use Rattle.directory_rows.proofs.Outside.{empty_is_well_formed_lem, others_stay_lem, rows_decide_lem}
use Rattle.plain_program.specs.fileset_model.Apply.{with_node}
use Rattle.plain_program.specs.fileset_values.Orders.{Name, Path, path_cmp-total, path_cmp-IsAntisymmetric}
use Rattle.plain_program.specs.fileset_model.Paths.{first_refusal, paths_to}
use Rattle.plain_program.specs.fileset_model.declared.fileset.FilesetSlot.{FilesetSlot}
use Rattle.plain_program.specs.fileset_model.declared.fileset.Role.TheVariants.{Original}
use Rattle.plain_program.proofs.OfFilesetValues.MapLemmas.{get-insert_other, get-insert_same}
use Rattle.plain_program.specs.legal_histories.Valid.{HasWholePages, IsDirectoryAt, IsValidFileset}
use Rattle.plain_program.proofs.OfLegalHistories.ValidCountLemmas.{no_paths}
use Rattle.plain_program.proofs.OfLegalHistories.ValidLemmas.{from_some_and, some_inj, to_some_and}
use Rattle.plain_program.proofs.OfLegalHistories.ValidTreeLemmas.{with_node-valid}
use Rattle.name_space.specs.Changes.{Creates, IndexesFollow, IsMade, IsOriginal, free_checks, last_name, new_node}
use Rattle.name_space.specs.Walks.{IsWayTo}
use Rattle.name_space.specs.Names.{IsNodeOf, Names, led_from, led_to, number_of}
use Rattle.name_space.proofs.Leads.{led-name}
use Rattle.name_space.proofs.Leaves.{LeafAt, found_new, found_past, leaf_changed, leaf_names, same_node}
use Rattle.name_space.proofs.Originals.{IsIn, all_shown, directory_at, fresh_number, is_in, number_at, one_way, tags_same}
use Rattle.name_space.proofs.PathCounts.{count-new}

-- which of two tags
pub by_tag : (P : Type 0) (a b : Tag) → (a ≡ b → P) → (same_tag a b ≡ false → P) → P
by_tag P a b same other = elim (same_tag a b) as (λ t. same_tag a b ≡ t → P) [
  | true ↦ λ is. same (tags_same a b is)
  | false ↦ λ is. other is
] refl

abbrev pub led_as : Tag → Kind → Option (Tag × Kind)
led_as tag of = Some (tag, of)

-- rows stand on a tag's pages alone
pub same_rows : (a b : Option Bitfile) → a ≡ b → all_rows (option_map_or (λ (file : Bitfile). file.pages) a []) ≡ all_rows (option_map_or (λ (file : Bitfile). file.pages) b [])
same_rows a b is = ap (λ (o : Option Bitfile). all_rows (option_map_or (λ (file : Bitfile). file.pages) o [])) is

-- how many index pages a tag's file has
pub same_count : (a b : Option Bitfile) → a ≡ b → option_map_or (λ (file : Bitfile). length file.index) a 0 ≡ option_map_or (λ (file : Bitfile). length file.index) b 0
same_count a b is = ap (λ (o : Option Bitfile). option_map_or (λ (file : Bitfile). length file.index) o 0) is

-- a row came to a directory whose index was as it had been
pub row_indexes : (dir : Tag) (row : Row) (old mid new : Bitfiles) → AddsRow dir row mid new → count_index mid dir ≡ count_index old dir
    → ((tag : Tag) → same_tag tag dir ≡ false → IsSome (new tag) → count_index new tag ≡ count_index old tag) → IndexesFollow dir old new
row_indexes dir row old mid new adds same others = record {
  indexed = adds.indexed;
  kept = λ had. adds.kept (omega (arith, had, same));
  bare = λ none outside. adds.bare (same ∙ none) outside;
  others = others;
}

-- a directory is as it was where a file was made
other_there : (old : Bitfiles) (dir tag : Tag) (file : Bitfile) → old tag ≡ None → IsDirectory old dir → with_file tag file old dir ≡ old dir
other_there old dir tag file fresh there = by_tag (with_file tag file old dir ≡ old dir) dir tag
    (λ same. absurd (subst (λ (o : Option Bitfile). IsSomeAnd o (λ f. f.kind ≡ kinds.Directory)) (ap old same ∙ fresh) there))
    (λ other. ap (λ b. cond b (Some file) (old dir)) other)

-- a path is its front and its last name
pub whole_path : (path : Path) → 1 ≤ length path → take (length path - 1) path ++ last_name path ∷ [] ≡ path
whole_path path some =
    sym (take_more path (length path - 1) [] (omega (arith, some))) ∙ take_all (length path - 1 + 1) path (omega (arith, some))

-- what is before a last name
pub fore : (front : Path) (name : Name) → take (length (front ++ name ∷ []) - 1) (front ++ name ∷ []) ≡ front
fore front name =
    ap (λ n. take n (front ++ name ∷ [])) (omega (arith, length-append front (name ∷ [])))
    ∙ take_at front (name ∷ []) (length front) refl

module _ (old new : Bitfiles) (slot : FilesetSlot) (names : Names old slot) (role : slot.role ≡ Original) (valid : IsValidFileset slot.tree) (dir : Tag) (place : Path) (name : Name)
    (led : led_to old place ≡ Some (dir, kinds.Directory)) (free : found name (rows_in old dir) ≡ None) (tag : Tag) (kind : Kind) (uid gid : ℕ) (low : tag.seq < 2 ^ 16) (fresh : old tag ≡ None)
    (adds : AddsRow dir (record { tag = tag; kind = kind; name = name }) (with_file tag (new_file kind uid gid) old) new) where
  abbrev mid : Bitfiles
  mid = with_file tag (new_file kind uid gid) old

  abbrev path : Path
  path = place ++ name ∷ []

  dir_file : (file : Bitfile) × (old dir ≡ Some file)
  dir_file = let had = is_in old slot names role place dir kinds.Directory led in (had.file, had.there)

  not_fresh : (t : Tag) (file : Bitfile) → old t ≡ Some file → same_tag t tag ≡ false
  not_fresh t file there = by_tag (same_tag t tag ≡ false) t tag (λ same. absurd (none_some (sym fresh ∙ sym (ap old same) ∙ there))) (λ other. other)
    where
      none_some : (¬ None ≡ Some file)
      none_some e = cc

  new_not_dir : same_tag tag dir ≡ false
  new_not_dir = by_tag (same_tag tag dir ≡ false) tag dir
      (λ same. absurd (true≢false (sym (ap is_some (ap old same ∙ dir_file.1)) ∙ ap is_some fresh))) (λ other. other)

  mid_old : (t : Tag) → same_tag t tag ≡ false → mid t ≡ old t
  mid_old t other = ap (λ b. cond b (Some (new_file kind uid gid)) (old t)) other

  mid_new : mid tag ≡ Some (new_file kind uid gid)
  mid_new = ap (λ b. cond b (Some (new_file kind uid gid)) (old tag)) (itself tag)
    where
      itself : (t : Tag) → same_tag t t ≡ true
      itself t = ap (λ a. a && (t.seq == t.seq)) (eq-eqb t.slot t.slot refl) ∙ eq-eqb t.seq t.seq refl

  stay : LeavesOthers dir mid new
  stay = others_stay_lem dir mid new adds.others

  new_there : new tag ≡ Some (new_file kind uid gid)
  new_there = stay.others tag new_not_dir ∙ mid_new

  -- what was there is there, with its owner and its links
  kept : (t : Tag) (file : Bitfile) → old t ≡ Some file → (now : Bitfile) × (new t ≡ Some now) × IsSameNode now file
  kept t file there =
      let before : mid t ≡ Some file = mid_old t (not_fresh t file there) ∙ there in
      by_tag ((now : Bitfile) × (new t ≡ Some now) × IsSameNode now file) t dir
      (λ same. let it = stay.itself file (sym (ap mid same) ∙ before) in (it.0, ap new same ∙ it.1, it.2))
      (λ other. (file, stay.others t other ∙ before, record { kind = refl; uid = refl; gid = refl; links = refl }))

  was : (t : Tag) (now : Bitfile) → new t ≡ Some now → same_tag t tag ≡ false → (file : Bitfile) × (old t ≡ Some file) × (now.kind ≡ file.kind)
  was t now there other = by_tag ((file : Bitfile) × (old t ≡ Some file) × (now.kind ≡ file.kind)) t dir
      (λ same.
      let it = kept dir dir_file.0 dir_file.1 in
      (dir_file.0, ap old same ∙ dir_file.1, ap (λ (f : Bitfile). f.kind) (some_inj (sym there ∙ ap new same ∙ it.1)) ∙ it.2.kind))
      (λ away. (now, sym (mid_old t other) ∙ sym (stay.others t away) ∙ there, refl))

  -- ---- rows

  rows_mid : rows_in mid dir ≡ rows_in old dir
  rows_mid = same_rows (mid dir) (old dir) (mid_old dir (not_fresh dir dir_file.0 dir_file.1))

  rows_others : (t : Tag) → same_tag t dir ≡ false → rows_in new t ≡ rows_in old t
  rows_others t away =
      same_rows (new t) (mid t) (stay.others t away)
      ∙ by_tag (rows_in mid t ≡ rows_in old t) t tag
      (λ same. same_rows (mid t) (Some (new_file kind uid gid)) (ap mid same ∙ mid_new) ∙ sym (same_rows (old t) None (ap old same ∙ fresh)))
      (λ other. same_rows (mid t) (old t) (mid_old t other))

  rows_rest : (n : Name) → n ≢ name → found n (rows_in new dir) ≡ found n (rows_in old dir)
  rows_rest n other =
      ap (found n) adds.are ∙ found_past n adds.front (record { tag = tag; kind = kind; name = name }) adds.back other
      ∙ ap (found n) (sym adds.were ∙ rows_mid)

  row_new : found name (rows_in new dir) ≡ Some (tag, kind)
  row_new =
      ap (found name) adds.are
      ∙ found_new adds.front (record { tag = tag; kind = kind; name = name }) adds.back (ap (found name) (sym adds.were ∙ rows_mid) ∙ free)

  no_rows : rows_in new tag ≡ []
  no_rows = same_rows (new tag) (Some (new_file kind uid gid)) new_there

  leads : LeafAt old new path (Some (tag, kind))
  leads = leaf_changed old new dir place name led (one_way old slot names role valid place dir led) rows_others rows_rest (Some (tag, kind)) row_new
      (λ next tail. ap (λ rows. option_and_then (λ row. led_from new row tail) (found next rows)) no_rows)
      (λ next tail. ap (option_and_then (λ row. led_from old row (next ∷ tail))) free)

  -- ---- nodes

  no_node : map.get slot.tree.nodes (number_of tag) ≡ None
  no_node = fresh_number old slot names role valid tag low fresh

  path_free : map.get slot.tree.paths path ≡ None
  path_free =
      names.paths path (all_shown old slot names role path)
      ∙ ap (option_map (λ (led : Tag × Kind). number_of led.0)) (led-name old place name ∙ ap (option_and_then (λ (led : Tag × Kind). found name (rows_in old led.0))) led ∙ free)

  unled : (q : Path) → map.get slot.tree.paths q ≢ Some (number_of tag)
  unled q is = true≢false (sym (valid.led_to q (number_of tag) is) ∙ ap is_some no_node)

  abbrev after : FilesetSlot
  after = record slot { tree = with_node path (number_of tag) (new_node kind uid gid) slot.tree }

  counts : (k : ℕ) → paths_to after.tree k ≡ cond (number_of tag == k) 1 0 + paths_to slot.tree k
  counts k = count-new slot.tree.paths path (number_of tag) k path_free

  in_new : IsIn new after.tree tag kind
  in_new = record {
    file = new_file kind uid gid;
    there = new_there;
    kind = refl;
    node = to_some_and (IsNodeOf (new_file kind uid gid)) _ (new_node kind uid gid) (get-insert_same nat_cmp_total map.nat_cmp-IsAntisymmetric slot.tree.nodes (number_of tag) (new_node kind uid gid)) (by_kind kind);
    links =
        let one : paths_to after.tree (number_of tag) ≡ 1 + paths_to slot.tree (number_of tag) =
        counts (number_of tag) ∙ ap (λ b. cond b 1 0 + paths_to slot.tree (number_of tag)) (eq-eqb (number_of tag) (number_of tag) refl) in
        let none : paths_to slot.tree (number_of tag) ≡ 0 = no_paths slot.tree.paths (number_of tag) unled in
        omega (arith, one, none);
  }
    where
      by_kind : (k : Kind) → IsNodeOf (new_file k uid gid) (new_node k uid gid)
      by_kind kinds.File = (refl, refl, refl)
      by_kind kinds.Directory = (refl, refl, refl)

  in_old : (q : Path) (t : Tag) (of : Kind) → q ≢ path → led_to old q ≡ Some (t, of) → IsIn new after.tree t of
  in_old q t of differs led =
      let had = is_in old slot names role q t of led in
      let now = kept t had.file had.there in
      let node = from_some_and (IsNodeOf had.file) (map.get slot.tree.nodes (number_of t)) had.node in
      let other : number_of t ≢ number_of tag = λ same. true≢false (sym (ap is_some node.1) ∙ ap is_some (ap (map.get slot.tree.nodes) same ∙ no_node)) in
      record {
        file = now.0;
        there = now.1;
        kind = now.2.kind ∙ had.kind;
        node = to_some_and (IsNodeOf now.0) _ node.0 (get-insert_other nat_cmp_total map.nat_cmp-IsAntisymmetric slot.tree.nodes (number_of tag) (new_node kind uid gid) (number_of t) other ∙ node.1) (same_node now.0 had.file node.0 now.2 node.2);
        links =
            let same : paths_to after.tree (number_of t) ≡ paths_to slot.tree (number_of t) =
            counts (number_of t) ∙ ap (λ b. cond b 1 0 + paths_to slot.tree (number_of t)) (not_equal (number_of tag) (number_of t) (λ e. other (sym e))) ∙ omega arith in
            now.2.links ∙ had.links ∙ sym same;
      }
    where
      not_equal : (a b : ℕ) → a ≢ b → (a == b) ≡ false
      not_equal a b other = elim (a == b) as (λ t. (a == b) ≡ t → t ≡ false) [
        | true ↦ λ is. absurd (other (eqb-true a b is))
        | false ↦ λ is. refl
      ] refl

  directories : (d : Tag) → IsDirectory new d → IsWellFormed new d
  directories d there = by_tag (IsWellFormed new d) d dir
      (λ same. subst (IsWellFormed new) (sym same) adds.good)
      (λ away. by_tag (IsWellFormed new d) d tag
      (λ same.
      let is : new d ≡ Some (new_file kind uid gid) = ap new same ∙ new_there in
      empty_is_well_formed_lem new d (new_file kind uid gid) is (subst (λ (o : Option Bitfile). IsSomeAnd o (λ file. file.kind ≡ kinds.Directory)) is there) refl refl)
      (λ other.
      let back : new d ≡ old d = stay.others d away ∙ mid_old d other in
      let file = from_some_and (λ (f : Bitfile). f.kind ≡ kinds.Directory) (new d) there in
      rows_decide_lem old new d d file.0 file.0 (sym back ∙ file.1) file.1 (record { kind = refl; pages = refl; index = refl })
      (names.directories d (subst (λ (o : Option Bitfile). IsSomeAnd o (λ file. file.kind ≡ kinds.Directory)) back there))))

  live : (t : Tag) (now : Bitfile) → new t ≡ Some now → (led_as tag kind ≡ led_as t now.kind) ⊎ ((q : Path) × (q ≢ path) × (led_to old q ≡ Some (t, now.kind)))
  live t now there = by_tag ((led_as tag kind ≡ led_as t now.kind) ⊎ ((q : Path) × (q ≢ path) × (led_to old q ≡ Some (t, now.kind)))) t tag
      (λ same.
      let is : new_file kind uid gid ≡ now = some_inj (sym new_there ∙ sym (ap new same) ∙ there) in
      inl (ap (λ t. led_as t kind) (sym same) ∙ ap (λ (f : Bitfile). led_as t f.kind) is))
      (λ other.
      let file = was t now there other in
      let at = names.live role t file.0 file.1 in
      inr (at.0, (λ here. none_some (sym path_none ∙ sym (ap (led_to old) here) ∙ at.1)), at.1 ∙ ap (led_as t) (sym file.2)))
    where
      path_none : led_to old path ≡ None
      path_none = led-name old place name ∙ ap (option_and_then (λ (led : Tag × Kind). found name (rows_in old led.0))) led ∙ free

      none_some : {x : Tag × Kind} → (¬ None ≡ Some x)
      none_some e = cc

  seq : (t : Tag) (now : Bitfile) → new t ≡ Some now → t.seq < 2 ^ 16
  seq t now there = by_tag (t.seq < 2 ^ 16) t tag
      (λ same. subst (λ (t : Tag). t.seq < 2 ^ 16) (sym same) low)
      (λ other. let file = was t now there other in names.seq t file.0 file.1)

  pub created_names : Names new after
  created_names = leaf_names old new slot after names role refl path (Some (tag, kind)) leads
      (get-insert_same path_cmp-total path_cmp-IsAntisymmetric slot.tree.paths path (number_of tag))
      (λ q differs. get-insert_other path_cmp-total path_cmp-IsAntisymmetric slot.tree.paths path (number_of tag) q differs)
      (λ t of is. subst (λ (led : Tag × Kind). IsIn new after.tree led.0 led.1) (some_inj is) in_new)
      in_old directories live seq

  pub created_valid : IsValidFileset after.tree
  created_valid = with_node-valid slot.tree path (number_of tag) (new_node kind uid gid) valid path_free no_node (by_kind kind)
      (λ front n e. subst (IsDirectoryAt slot.tree) (sym (same_front front n e)) (directory_at old slot names role place dir led))
    where
      by_kind : (k : Kind) → HasWholePages (new_node k uid gid)
      by_kind kinds.File = λ q page at. absurd (none_some (sym (map.get-empty nat_cmp q) ∙ at))
        where
          none_some : {x : List ℕ} → (¬ None ≡ Some x)
          none_some e = cc
      by_kind kinds.Directory = tt

      same_front : (front : Path) (n : Name) → front ++ n ∷ [] ≡ path → front ≡ place
      same_front front n e = sym (fore front n) ∙ ap (λ p. take (length p - 1) p) e ∙ fore place name

  pub created_indexes : IndexesFollow dir old new
  created_indexes = row_indexes dir (record { tag = tag; kind = kind; name = name }) old mid new adds
      (same_count (mid dir) (old dir) (mid_old dir (not_fresh dir dir_file.0 dir_file.1)))
      (λ t away there. same_count (new t) (mid t) (stay.others t away)
      ∙ by_tag (count_index mid t ≡ count_index old t) t tag
      (λ same. same_count (mid t) (Some (new_file kind uid gid)) (ap mid same ∙ mid_new) ∙ sym (same_count (old t) None (ap old same ∙ fresh)))
      (λ other. same_count (mid t) (old t) (mid_old t other)))

  pub created_fresh : map.get slot.tree.nodes (number_of tag) ≡ None
  created_fresh = no_node

-- a set with a file made and its row added has the names of the fileset with its node
pub creates : (old new : Bitfiles) (slot : FilesetSlot) → IsOriginal old slot → (path : Path) → 1 ≤ length path → (dir : Tag) → IsWayTo old path (length path - 1) dir
    → found (last_name path) (rows_in old dir) ≡ None → first_refusal (free_checks path slot) ≡ None → (tag : Tag) (kind : Kind) (uid gid : ℕ) → tag.seq < 2 ^ 16
    → IsMade dir (last_name path) (new_file kind uid gid) old new tag → Creates path (new_node kind uid gid) slot old new (record { tag = tag; dir = dir })
creates old new slot original path some dir way free allowed tag kind uid gid low made =
    let place = take (length path - 1) path in
    record {
      allowed = allowed;
      fresh = created_fresh old new slot original.names original.role original.valid dir place (last_name path) way.led free tag kind uid gid low made.fresh made.adds;
      makes = subst (λ p. IsOriginal new (record slot { tree = with_node p (number_of tag) (new_node kind uid gid) slot.tree })) (whole_path path some) (record {
        names = created_names old new slot original.names original.role original.valid dir place (last_name path) way.led free tag kind uid gid low made.fresh made.adds;
        role = original.role;
        valid = created_valid old new slot original.names original.role original.valid dir place (last_name path) way.led free tag kind uid gid low made.fresh made.adds;
      });
      into = number_at old slot original.names original.role place dir kinds.Directory way.led;
      indexes = created_indexes old new slot original.names original.role original.valid dir place (last_name path) way.led free tag kind uid gid low made.fresh made.adds;
    }

-- what a directory was before a file was made
pub good_before : (old : Bitfiles) (dir tag : Tag) (file : Bitfile) → old tag ≡ None → IsWellFormed old dir → IsWellFormed (with_file tag file old) dir
good_before old dir tag file fresh good =
    let was = from_some_and (λ (f : Bitfile). f.kind ≡ kinds.Directory) (old dir) good.directory in
    rows_decide_lem old (with_file tag file old) dir dir was.0 was.0 was.1 (other_there old dir tag file fresh good.directory ∙ was.1) (record { kind = refl; pages = refl; index = refl }) good

pub free_before : (old : Bitfiles) (dir tag : Tag) (file : Bitfile) (name : Name) → old tag ≡ None → IsDirectory old dir → found name (rows_in old dir) ≡ None → is_named name (rows_in (with_file tag file old) dir) ≡ false
free_before old dir tag file name fresh there free =
    named_found name (rows_in (with_file tag file old) dir)
    ∙ ap (λ rows. is_some (found name rows)) (same_rows (with_file tag file old dir) (old dir) (other_there old dir tag file fresh there))
    ∙ ap is_some free
