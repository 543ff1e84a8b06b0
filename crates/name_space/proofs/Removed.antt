-- A row that went, and what it named: the last row takes it along, and else it has one link less.
use Rattle.std.proofs.Common.{◌≡◌, ◌≢◌, ◌⊎◌, ◌∙◌, ℕ, ◌+◌, ◌^◌, ◌<◌, ◌==◌, ◌||◌, Bool, true, false, cond, is_some, List, [], ◌∷◌, ◌++◌, Option, Some, None, IsSomeAnd, inr, refl, sym, ap, subst, arith, eqb-true, true≢false}
use Rattle.std.proofs.lemmas.Bool.{eq-eqb, or_parts}
use Rattle.std.specs.Cmp.{nat_cmp_total, tied_itself}
use Rattle.std.specs.Ordering.{is_eq}
use Rattle.std.specs.Option.{option_and_then, option_map, option_map_or}
use Rattle.std.specs.List.{flat_map}
use Rattle.std.specs.FinMap as map
use Rattle.plain_program.specs.domain_base.declared.place.Kind.{Kind}
use Rattle.plain_program.specs.domain_base.declared.place.Kind.TheVariants as kinds
use Rattle.plain_program.specs.domain_base.declared.place.Tag.{Tag}
use Rattle.directory_rows.specs.page_store.Bitfiles.{Bitfile, Bitfiles, IsDirectory, same_tag}
use Rattle.directory_rows.specs.directory_pages.declared.row.Row.{Row}
use Rattle.directory_rows.specs.directory_pages.RowPage.{rows_of}
use Rattle.directory_rows.specs.directory_pages.Rows.{found, has_name, is_named}
use Rattle.directory_rows.proofs.OfDirectoryPages.Places.{is_named_so, named_is}
use Rattle.directory_rows.specs.Directory.{IsWellFormed, NamesOnce, rows_in}
use Rattle.directory_rows.specs.Laws.{HasSameRows, IsSameNode, LeavesOthers}
use Rattle.directory_rows.specs.RowChanges.{RemovesRow}
use Rattle.directory_rows.proofs.Entered.{named_found}
use Rattle.directory_rows.proofs.Outside.{others_stay_lem, rows_decide_lem}
use Rattle.plain_program.specs.fileset_model.Apply.{is_named_elsewhere, without}
use Rattle.plain_program.specs.fileset_values.Orders.{Name, Path, path_cmp-total, path_cmp-IsAntisymmetric}
use Rattle.plain_program.specs.fileset_model.Paths.{paths_to}
use Rattle.plain_program.specs.fileset_model.declared.fileset.FilesetSlot.{FilesetSlot}
use Rattle.plain_program.specs.fileset_model.declared.fileset.Role.TheVariants.{Original}
use Rattle.plain_program.specs.fileset_model.declared.node.Node.{Node}
use Rattle.plain_program.specs.fileset_model.declared.node.Node.TheVariants.{File, Directory as DirectoryNode}
use Rattle.plain_program.proofs.OfFilesetModel.ChangeLemmas.{left_without, without-at}
use Rattle.plain_program.proofs.OfFilesetValues.MapLemmas.{get-remove_other}
use Rattle.plain_program.specs.legal_histories.Valid.{IsValidFileset}
use Rattle.plain_program.proofs.OfLegalHistories.ValidCountLemmas.{another_path, named_by}
use Rattle.plain_program.proofs.OfLegalHistories.ValidLemmas.{from_some_and, some_inj, to_some_and}
use Rattle.name_space.specs.Names.{IsNodeOf, Names, led_from, led_to, number_of}
use Rattle.name_space.proofs.CreatedNames.{by_tag, led_as, same_rows}
use Rattle.name_space.proofs.Leads.{led-name}
use Rattle.name_space.proofs.Leaves.{LeafAt, found_past, leaf_changed, leaf_names, same_node}
use Rattle.name_space.proofs.Originals.{IsIn, is_in, number_at, one_tag, one_way, path_at, tag_itself}
use Rattle.name_space.proofs.PathCounts.{count-gone}

-- ---- rows without one

pub not_named : (name : Name) (rows : List Row) → is_named name rows ≡ false → found name rows ≡ None
not_named name rows none = by_found (found name rows) (sym (named_found name rows) ∙ none)
  where
    by_found : (o : Option (Tag × Kind)) → is_some o ≡ false → o ≡ None
    by_found None is = refl
    by_found (Some row) is = absurd (true≢false is)

pub alone_here : (front : List Row) (row : Row) (back : List Row) → NamesOnce (front ++ row ∷ back) → is_named row.name (front ++ back) ≡ false
alone_here [] row back names = names.0
alone_here (r ∷ front) row back names =
    ap (λ b. b || is_named row.name (front ++ back)) (apart r (split front names.0)) ∙ alone_here front row back names.1
  where
    split : (fs : List Row) → is_named r.name (fs ++ row ∷ back) ≡ false → has_name r.name row ≡ false
    split [] none = (or_parts (has_name r.name row) (is_named r.name back) none).0
    split (f ∷ fs) none = split fs (or_parts (has_name r.name f) (is_named r.name (fs ++ row ∷ back)) none).1

    apart : (r : Row) → has_name r.name row ≡ false → has_name row.name r ≡ false
    apart r other = elim (has_name row.name r) as (λ b. has_name row.name r ≡ b → b ≡ false) [
      | true ↦ λ same. absurd (true≢false (sym (is_named_so r.name row (sym (named_is row.name r same))) ∙ other))
      | false ↦ λ is. refl
    ] refl

-- ---- what is left of the file or directory that the row named

-- it has gone with its last path, or it has one link less than paths
abbrev pub IsLeft : Bool → Bitfile → Option Bitfile → Type 0
IsLeft false was now = now ≡ None
IsLeft true was now = IsSomeAnd now (λ file. HasSameRows file was × (file.uid ≡ was.uid) × (file.gid ≡ was.gid) × (1 + file.links ≡ was.links))

module _ (old mid new : Bitfiles) (slot : FilesetSlot) (names : Names old slot) (role : slot.role ≡ Original) (valid : IsValidFileset slot.tree) (dir : Tag) (place : Path) (name : Name)
    (led : led_to old place ≡ Some (dir, kinds.Directory)) (tag : Tag) (of : Kind) (named : found name (rows_in old dir) ≡ Some (tag, of)) (no_rows : rows_in old tag ≡ [])
    (file : Bitfile) (there : old tag ≡ Some file) (removes : RemovesRow dir name old mid) (others : (t : Tag) → same_tag t tag ≡ false → new t ≡ mid t)
    (left : IsLeft (is_named_elsewhere slot.tree (place ++ name ∷ []) (number_of tag)) file (new tag)) where
  abbrev path : Path
  path = place ++ name ∷ []

  abbrev stays : Bool
  stays = is_named_elsewhere slot.tree path (number_of tag)

  led_path : led_to old path ≡ led_as tag of
  led_path = led-name old place name ∙ ap (option_and_then (λ (led : Tag × Kind). found name (rows_in old led.0))) led ∙ named

  at_path : map.get slot.tree.paths path ≡ Some (number_of tag)
  at_path = number_at old slot names role path tag of led_path

  dir_there : IsIn old slot.tree dir kinds.Directory
  dir_there = is_in old slot names role place dir kinds.Directory led

  not_dir : same_tag dir tag ≡ false
  not_dir = by_tag (same_tag dir tag ≡ false) dir tag (λ same. absurd (none_some (ap (found name) (sym no_rows ∙ sym (ap (rows_in old) same)) ∙ named))) (λ other. other)
    where
      none_some : (¬ None ≡ led_as tag of)
      none_some e = cc

  tag_not_dir : same_tag tag dir ≡ false
  tag_not_dir = by_tag (same_tag tag dir ≡ false) tag dir (λ same. absurd (true≢false (sym (ap (λ t. same_tag t tag) (sym same) ∙ tag_itself tag) ∙ not_dir))) (λ other. other)

  outside : LeavesOthers dir old mid
  outside = others_stay_lem dir old mid removes.others

  -- a path that is another one of the tag
  two : (q : Path) (t : Tag) (k : Kind) → q ≢ path → led_to old q ≡ led_as t k → t ≡ tag → stays ≡ true
  two q t k differs led same = another_path slot.tree path (number_of tag) q (number_at old slot names role q t k led ∙ ap (λ t. Some (number_of t)) same) differs

  -- ---- rows

  rows_others : (t : Tag) → same_tag t dir ≡ false → rows_in new t ≡ rows_in old t
  rows_others t away = by_tag (rows_in new t ≡ rows_in old t) t tag
      (λ same. ap (rows_in new) same ∙ gone stays left ∙ sym (ap (rows_in old) same ∙ no_rows))
      (λ other. same_rows (new t) (old t) (others t other ∙ outside.others t away))
    where
      gone : (b : Bool) → IsLeft b file (new tag) → rows_in new tag ≡ []
      gone false none = same_rows (new tag) None none
      gone true is =
          let now = from_some_and (λ (f : Bitfile). HasSameRows f file × (f.uid ≡ file.uid) × (f.gid ≡ file.gid) × (1 + f.links ≡ file.links)) (new tag) is in
          same_rows (new tag) (Some now.0) now.1 ∙ ap (flat_map rows_of) now.2.0.pages ∙ sym (same_rows (old tag) (Some file) there) ∙ no_rows

  rows_dir : rows_in new dir ≡ removes.front ++ removes.back
  rows_dir = same_rows (new dir) (mid dir) (others dir not_dir) ∙ removes.are

  rows_rest : (n : Name) → n ≢ name → found n (rows_in new dir) ≡ found n (rows_in old dir)
  rows_rest n other =
      ap (found n) rows_dir
      ∙ sym (found_past n removes.front removes.row removes.back (λ same. other (same ∙ removes.named)))
      ∙ ap (found n) (sym removes.were)

  row_gone : found name (rows_in new dir) ≡ None
  row_gone =
      let once = (names.directories dir (to_some_and (λ (f : Bitfile). f.kind ≡ kinds.Directory) (old dir) dir_there.file dir_there.there dir_there.kind)).names in
      ap (found name) rows_dir ∙ ap (λ n. found n (removes.front ++ removes.back)) (sym removes.named)
      ∙ not_named removes.row.name (removes.front ++ removes.back) (alone_here removes.front removes.row removes.back (subst NamesOnce removes.were once))

  pub leads : LeafAt old new path None
  leads = leaf_changed old new dir place name led (one_way old slot names role valid place dir led) rows_others rows_rest None row_gone
      (λ next tail. refl)
      (λ next tail. ap (option_and_then (λ row. led_from old row (next ∷ tail))) named ∙ ap (λ rows. option_and_then (λ row. led_from old row tail) (found next rows)) no_rows)

  -- ---- nodes

  abbrev after : FilesetSlot
  after = record slot { tree = left_without slot.tree path (number_of tag) stays }

  counts : (k : ℕ) → paths_to slot.tree k ≡ cond (number_of tag == k) 1 0 + paths_to after.tree k
  counts k = count-gone slot.tree.paths path (number_of tag) k at_path

  not_equal : (a b : ℕ) → a ≢ b → (a == b) ≡ false
  not_equal a b other = elim (a == b) as (λ t. (a == b) ≡ t → t ≡ false) [
    | true ↦ λ is. absurd (other (eqb-true a b is))
    | false ↦ λ is. refl
  ] refl

  kept : (t : Tag) (was : Bitfile) → same_tag t tag ≡ false → old t ≡ Some was → (now : Bitfile) × (new t ≡ Some now) × IsSameNode now was
  kept t was other is = by_tag ((now : Bitfile) × (new t ≡ Some now) × IsSameNode now was) t dir
      (λ same.
      let it = outside.itself was (sym (ap old same) ∙ is) in
      (it.0, others t other ∙ ap mid same ∙ it.1, it.2))
      (λ away. (was, others t other ∙ outside.others t away ∙ is, record { kind = refl; uid = refl; gid = refl; links = refl }))

  in_other : (t : Tag) (k : Kind) → same_tag t tag ≡ false → IsIn old slot.tree t k → IsIn new after.tree t k
  in_other t k other had =
      let now = kept t had.file other had.there in
      let node = from_some_and (IsNodeOf had.file) (map.get slot.tree.nodes (number_of t)) had.node in
      let differs : number_of t ≢ number_of tag = λ same. true≢false (sym (itself (one_tag t tag (names.seq t had.file had.there) (names.seq tag file there) same)) ∙ other) in
      record {
        file = now.0;
        there = now.1;
        kind = now.2.kind ∙ had.kind;
        node = to_some_and (IsNodeOf now.0) _ node.0 (nodes stays differs ∙ node.1) (same_node now.0 had.file node.0 now.2 node.2);
        links =
            let same : paths_to slot.tree (number_of t) ≡ paths_to after.tree (number_of t) =
            counts (number_of t) ∙ ap (λ b. cond b 1 0 + paths_to after.tree (number_of t)) (not_equal (number_of tag) (number_of t) (λ e. differs (sym e))) ∙ omega arith in
            now.2.links ∙ had.links ∙ same;
      }
    where
      itself : t ≡ tag → same_tag t tag ≡ true
      itself same = ap (λ s. same_tag s tag) same ∙ tag_itself tag

      nodes : (b : Bool) → number_of t ≢ number_of tag → map.get (cond b slot.tree.nodes (map.remove slot.tree.nodes (number_of tag))) (number_of t) ≡ map.get slot.tree.nodes (number_of t)
      nodes true differs = refl
      nodes false differs = get-remove_other nat_cmp_total map.nat_cmp-IsAntisymmetric slot.tree.nodes (number_of tag) (number_of t) differs

  in_left : (k : Kind) → (b : Bool) → stays ≡ b → IsLeft b file (new tag) → b ≡ true → IsIn old slot.tree tag k → IsIn new after.tree tag k
  in_left k false is at sure had = absurd (true≢false (sym sure))
  in_left k true is at sure had =
      let now = from_some_and (λ (f : Bitfile). HasSameRows f file × (f.uid ≡ file.uid) × (f.gid ≡ file.gid) × (1 + f.links ≡ file.links)) (new tag) at in
      let same : had.file ≡ file = some_inj (sym had.there ∙ there) in
      let node = from_some_and (IsNodeOf had.file) (map.get slot.tree.nodes (number_of tag)) had.node in
      record {
        file = now.0;
        there = now.1;
        kind = now.2.0.kind ∙ ap (λ (f : Bitfile). f.kind) (sym same) ∙ had.kind;
        node = to_some_and (IsNodeOf now.0) _ node.0 (ap (λ b. map.get (cond b slot.tree.nodes (map.remove slot.tree.nodes (number_of tag))) (number_of tag)) is ∙ node.1)
            (same_owner now.0 node.0 (subst (λ f. IsNodeOf f node.0) same node.2) now.2.0.kind now.2.1 now.2.2);
        links =
            let one : paths_to slot.tree (number_of tag) ≡ 1 + paths_to after.tree (number_of tag) =
            counts (number_of tag) ∙ ap (λ b. cond b 1 0 + paths_to after.tree (number_of tag)) (eq-eqb (number_of tag) (number_of tag) refl) in
            omega (arith, one, now.2.3, had.links, ap (λ (f : Bitfile). f.links) same);
      }
    where
      same_owner : (now : Bitfile) (node : Node) → IsNodeOf file node → now.kind ≡ file.kind → now.uid ≡ file.uid → now.gid ≡ file.gid → IsNodeOf now node
      same_owner now (File uid gid size logged pages) is kind same_uid same_gid = (kind ∙ is.0, same_uid ∙ is.1, same_gid ∙ is.2)
      same_owner now (DirectoryNode uid gid) is kind same_uid same_gid = (kind ∙ is.0, same_uid ∙ is.1, same_gid ∙ is.2)

  in_old : (q : Path) (t : Tag) (k : Kind) → q ≢ path → led_to old q ≡ Some (t, k) → IsIn new after.tree t k
  in_old q t k differs led =
      let had = is_in old slot names role q t k led in
      by_tag (IsIn new after.tree t k) t tag
      (λ same. subst (λ t. IsIn new after.tree t k) (sym same) (in_left k stays refl left (two q t k differs led same) (subst (λ t. IsIn old slot.tree t k) same had)))
      (λ other. in_other t k other had)

  directories : (d : Tag) → IsDirectory new d → IsWellFormed new d
  directories d is = by_tag (IsWellFormed new d) d tag
      (λ same. subst (IsWellFormed new) (sym same) (of_tag stays left (subst (IsDirectory new) same is)))
      (λ other. by_tag (IsWellFormed new d) d dir
      (λ same.
      let now = from_some_and (λ (f : Bitfile). f.kind ≡ kinds.Directory) (new d) is in
      let at_mid : mid d ≡ Some now.0 = sym (others d other) ∙ now.1 in
      rows_decide_lem mid new d d now.0 now.0 at_mid now.1 (record { kind = refl; pages = refl; index = refl }) (subst (IsWellFormed mid) (sym same) removes.good))
      (λ away.
      let now = from_some_and (λ (f : Bitfile). f.kind ≡ kinds.Directory) (new d) is in
      let at_old : old d ≡ Some now.0 = sym (outside.others d away) ∙ sym (others d other) ∙ now.1 in
      rows_decide_lem old new d d now.0 now.0 at_old now.1 (record { kind = refl; pages = refl; index = refl })
      (names.directories d (to_some_and (λ (f : Bitfile). f.kind ≡ kinds.Directory) (old d) now.0 at_old now.2))))
    where
      of_tag : (b : Bool) → IsLeft b file (new tag) → IsDirectory new tag → IsWellFormed new tag
      of_tag false none is = absurd (subst (λ (o : Option Bitfile). IsSomeAnd o (λ f. f.kind ≡ kinds.Directory)) none is)
      of_tag true at is =
          let now = from_some_and (λ (f : Bitfile). HasSameRows f file × (f.uid ≡ file.uid) × (f.gid ≡ file.gid) × (1 + f.links ≡ file.links)) (new tag) at in
          let kind : now.0.kind ≡ kinds.Directory = subst (λ (o : Option Bitfile). IsSomeAnd o (λ f. f.kind ≡ kinds.Directory)) now.1 is in
          rows_decide_lem old new tag tag file now.0 there now.1 now.2.0
          (names.directories tag (to_some_and (λ (f : Bitfile). f.kind ≡ kinds.Directory) (old tag) file there (sym now.2.0.kind ∙ kind)))

  -- what is there now was there, and of that kind
  before : (t : Tag) (now : Bitfile) → same_tag t tag ≡ false → new t ≡ Some now → (was : Bitfile) × (old t ≡ Some was) × (now.kind ≡ was.kind)
  before t now other is = by_tag ((was : Bitfile) × (old t ≡ Some was) × (now.kind ≡ was.kind)) t dir
      (λ same.
      let it = kept t dir_there.file other (ap old same ∙ dir_there.there) in
      (dir_there.file, ap old same ∙ dir_there.there, ap (λ (f : Bitfile). f.kind) (some_inj (sym is ∙ it.1)) ∙ it.2.kind))
      (λ away. (now, sym (outside.others t away) ∙ sym (others t other) ∙ is, refl))

  live : (t : Tag) (now : Bitfile) → new t ≡ Some now → (None ≡ led_as t now.kind) ⊎ ((q : Path) × (q ≢ path) × (led_to old q ≡ led_as t now.kind))
  live t now is = by_tag ((None ≡ led_as t now.kind) ⊎ ((q : Path) × (q ≢ path) × (led_to old q ≡ led_as t now.kind))) t tag
      (λ same. inr (of_tag t now is same stays refl left))
      (λ other.
      let was = before t now other is in
      let at = names.live role t was.0 was.1 in
      inr (at.0, (λ here. true≢false (sym (same_of t (some_fst (sym at.1 ∙ ap (led_to old) here ∙ led_path))) ∙ other)), at.1 ∙ ap (led_as t) (sym was.2)))
    where
      some_fst : {a b : Tag} {j k : Kind} → led_as a j ≡ led_as b k → a ≡ b
      some_fst {a = a} e = ap (λ (o : Option (Tag × Kind)). option_map_or (λ (led : Tag × Kind). led.0) o a) e

      same_of : (t : Tag) → t ≡ tag → same_tag t tag ≡ true
      same_of t same = ap (λ s. same_tag s tag) same ∙ tag_itself tag

      at_number : (q : Path) (o : Option (Tag × Kind)) → led_to old q ≡ o → option_map (λ (led : Tag × Kind). number_of led.0) o ≡ Some (number_of tag) → o ≡ led_as tag file.kind
      at_number q None led is = absurd cc
      at_number q (Some row) led is =
          let had = is_in old slot names role q row.0 row.1 led in
          let same : row.0 ≡ tag = one_tag row.0 tag (names.seq row.0 had.file had.there) (names.seq tag file there) (some_inj is) in
          let kind : file.kind ≡ row.1 = ap (λ (f : Bitfile). f.kind) (some_inj (sym there ∙ sym (ap old same) ∙ had.there)) ∙ had.kind in
          ap (λ t. led_as t row.1) same ∙ ap (led_as tag) (sym kind)

      -- another path of the tag
      of_tag : (t : Tag) (now : Bitfile) → new t ≡ Some now → t ≡ tag → (b : Bool) → stays ≡ b → IsLeft b file (new tag) → (q : Path) × (q ≢ path) × (led_to old q ≡ led_as t now.kind)
      of_tag t now is same false gone none = absurd (true≢false (sym (ap is_some is) ∙ ap is_some (ap new same ∙ none)))
      of_tag t now is same true stands at =
          let it = from_some_and (λ (f : Bitfile). HasSameRows f file × (f.uid ≡ file.uid) × (f.gid ≡ file.gid) × (1 + f.links ≡ file.links)) (new tag) at in
          let q = named_by slot.tree path (number_of tag) stands in
          let kind : now.kind ≡ file.kind = ap (λ (f : Bitfile). f.kind) (some_inj (sym is ∙ ap new same ∙ it.1)) ∙ it.2.0.kind in
          (q.0, q.1, at_number q.0 (led_to old q.0) refl (sym (path_at old slot names role q.0) ∙ q.2) ∙ ap (λ k. led_as tag k) (sym kind) ∙ ap (λ t. led_as t now.kind) (sym same))

  seq : (t : Tag) (now : Bitfile) → new t ≡ Some now → t.seq < 2 ^ 16
  seq t now is = by_tag (t.seq < 2 ^ 16) t tag
      (λ same. subst (λ (t : Tag). t.seq < 2 ^ 16) (sym same) (names.seq tag file there))
      (λ other. let was = before t now other is in names.seq t was.0 was.1)

  -- the set's rows make the fileset without the path
  pub removed_names : Names new (record slot { tree = without path slot.tree })
  removed_names = subst (λ tree. Names new (record slot { tree = tree })) (sym (without-at slot.tree path (number_of tag) at_path))
      (leaf_names old new slot after names role refl path None leads
      (map.get-remove path_cmp-total slot.tree.paths path path ∙ ap (λ r. cond (is_eq r) None (map.get slot.tree.paths path)) (tied_itself path_cmp-total path))
      (λ q differs. get-remove_other path_cmp-total path_cmp-IsAntisymmetric slot.tree.paths path q differs)
      (λ t k is. absurd cc)
      in_old directories live seq)
