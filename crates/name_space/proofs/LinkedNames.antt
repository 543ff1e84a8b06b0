-- The names of a set in which a row more names a file.
use Rattle.std.proofs.Common.{◌≡◌, ◌≢◌, ◌⊎◌, ◌∙◌, ℕ, ◌+◌, ◌-◌, ◌^◌, ◌<◌, ◌≤◌, ◌==◌, true, false, cond, length, take, [], ◌∷◌, ◌++◌, Option, Some, None, Ok, IsSomeAnd, inl, inr, refl, sym, ap, subst, arith, eqb-true, true≢false}
use Rattle.std.proofs.lemmas.Bool.{eq-eqb}
use Rattle.std.specs.Option.{option_and_then, option_map, option_map_or}
use Rattle.std.specs.FinMap as map
use Rattle.plain_program.specs.domain_base.Limits.{max_links}
use Rattle.plain_program.specs.domain_base.declared.place.Kind.{Kind}
use Rattle.plain_program.specs.domain_base.declared.place.Kind.TheVariants as kinds
use Rattle.plain_program.specs.domain_base.declared.place.Tag.{Tag}
use Rattle.directory_rows.specs.page_store.Bitfiles.{Bitfile, Bitfiles, IsDirectory, count_index, linked, links_at, same_tag, with_change, with_file}
use Rattle.directory_rows.specs.directory_pages.Rows.{found}
use Rattle.directory_rows.specs.Directory.{IsWellFormed, rows_in}
use Rattle.directory_rows.specs.RowChanges.{AddsRow, GetsNoIndex, IsIndexedWhereSmall, KeepsIndex}
use Rattle.directory_rows.proofs.Outside.{others_stay_lem, rows_decide_lem}
use Rattle.plain_program.specs.fileset_model.Apply.{linked as with_path}
use Rattle.plain_program.specs.fileset_values.Orders.{Name, Path, path_cmp-total, path_cmp-IsAntisymmetric}
use Rattle.plain_program.specs.fileset_model.Paths.{paths_to}
use Rattle.plain_program.specs.fileset_model.declared.fileset.FilesetSlot.{FilesetSlot}
use Rattle.plain_program.specs.fileset_model.declared.node.Node.{Node}
use Rattle.plain_program.specs.fileset_model.declared.node.Node.TheVariants.{File, Directory as DirectoryNode}
use Rattle.plain_program.proofs.OfFilesetModel.ChangeLemmas.{linked-at}
use Rattle.plain_program.proofs.OfFilesetValues.MapLemmas.{get-insert_other, get-insert_same}
use Rattle.plain_program.specs.legal_histories.Valid.{IsDirectoryAt}
use Rattle.plain_program.proofs.OfLegalHistories.ValidLemmas.{from_some_and, some_inj, to_some_and}
use Rattle.plain_program.proofs.OfLegalHistories.ValidTreeLemmas.{linked-valid}
use Rattle.name_space.specs.Changes.{AddsLink, IndexesFollow, IsLinkPlace, IsOriginal, Links, last_name}
use Rattle.name_space.specs.declared.link.LinkPlace.{LinkPlace}
use Rattle.name_space.specs.Names.{IsNodeOf, Names, led_from, led_to, number_of}
use Rattle.name_space.proofs.CreatedNames.{by_tag, fore, led_as, same_count, same_rows, whole_path}
use Rattle.name_space.proofs.Leads.{led-name}
use Rattle.name_space.proofs.Leaves.{LeafAt, leaf_changed, leaf_names, same_node}
use Rattle.name_space.proofs.Originals.{IsIn, directory_at, is_in, number_at, one_tag, one_way, path_at, tag_itself}
use Rattle.name_space.proofs.PathCounts.{count-new}
use Rattle.name_space.proofs.RowFacts.{added_rest, added_row, before, good_kept, rows_kept, still}
use Rattle.name_space.proofs.Spots.{directory_is}

-- how many pages and index pages a directory has
abbrev pages_in : Option Bitfile → ℕ
pages_in o = option_map_or (λ (f : Bitfile). length f.pages) o 0

abbrev index_in : Option Bitfile → ℕ
index_in o = option_map_or (λ (f : Bitfile). length f.index) o 0

-- what is said of the index of a directory that got a row, by what it had and is
abbrev HasIndex : ℕ → Option Bitfile → Type 0
HasIndex had o =
    (2 ≤ pages_in o → pages_in o ≤ 4 → 1 ≤ index_in o) × (1 ≤ had → 1 ≤ index_in o)
    × (had ≡ 0 → (pages_in o ≤ 1) ⊎ (5 ≤ pages_in o) → index_in o ≡ 0)

module _ (old mid new : Bitfiles) (slot : FilesetSlot) (original : IsOriginal old slot) (source : Path) (tag : Tag) (source_led : led_to old source ≡ led_as tag kinds.File) (no_rows : rows_in old tag ≡ [])
    (dir : Tag) (place : Path) (name : Name) (led : led_to old place ≡ led_as dir kinds.Directory) (free : found name (rows_in old dir) ≡ None)
    (adds : AddsRow dir (record { tag = tag; kind = kinds.File; name = name }) old mid) (counted : new ≡ with_change tag (linked (links_at mid tag + 1)) mid) where
  abbrev path : Path
  path = place ++ name ∷ []

  had : IsIn old slot.tree tag kinds.File
  had = is_in old slot original.names original.role source tag kinds.File source_led

  dir_had : IsIn old slot.tree dir kinds.Directory
  dir_had = is_in old slot original.names original.role place dir kinds.Directory led

  dir_there : IsDirectory old dir
  dir_there = to_some_and (λ (f : Bitfile). f.kind ≡ kinds.Directory) (old dir) dir_had.file dir_had.there dir_had.kind

  two_kinds : tag ≡ dir → ⊥
  two_kinds same = differ (sym had.kind ∙ ap (λ (f : Bitfile). f.kind) (some_inj (sym had.there ∙ ap old same ∙ dir_had.there)) ∙ dir_had.kind)
    where
      differ : (¬ kinds.File ≡ kinds.Directory)
      differ e = cc

  apart : same_tag tag dir ≡ false
  apart = by_tag (same_tag tag dir ≡ false) tag dir (λ same. absurd (two_kinds same)) (λ other. other)

  dir_apart : same_tag dir tag ≡ false
  dir_apart = by_tag (same_tag dir tag ≡ false) dir tag (λ same. absurd (two_kinds (sym same))) (λ other. other)

  at_mid : mid tag ≡ Some had.file
  at_mid = (others_stay_lem dir old mid adds.others).others tag apart ∙ had.there

  abbrev now : Bitfile
  now = linked (links_at mid tag + 1) had.file

  changed : (t : Tag) → new t ≡ cond (same_tag t tag) (Some now) (mid t)
  changed t =
      ap (λ (fs : Bitfiles). fs t) counted
      ∙ ap (λ (o : Option Bitfile). (option_map_or (λ (f : Bitfile). with_file tag (linked (links_at mid tag + 1) f) mid) o mid) t) at_mid

  itself : new tag ≡ Some now
  itself = changed tag ∙ ap (λ b. cond b (Some now) (mid tag)) (tag_itself tag)

  others : (t : Tag) → same_tag t tag ≡ false → new t ≡ mid t
  others t other = changed t ∙ ap (λ b. cond b (Some now) (mid t)) other

  -- ---- rows

  new_no_rows : rows_in new tag ≡ []
  new_no_rows = same_rows (new tag) (Some now) itself ∙ sym (same_rows (old tag) (Some had.file) had.there) ∙ no_rows

  rows_others : (t : Tag) → same_tag t dir ≡ false → rows_in new t ≡ rows_in old t
  rows_others t away = by_tag (rows_in new t ≡ rows_in old t) t tag
      (λ same. ap (rows_in new) same ∙ new_no_rows ∙ sym (ap (rows_in old) same ∙ no_rows))
      (λ other. same_rows (new t) (mid t) (others t other) ∙ rows_kept old mid dir adds.others t away)

  rows_dir : rows_in new dir ≡ rows_in mid dir
  rows_dir = same_rows (new dir) (mid dir) (others dir dir_apart)

  leads : LeafAt old new path (led_as tag kinds.File)
  leads = leaf_changed old new dir place name led (one_way old slot original.names original.role original.valid place dir led) rows_others
      (λ n other. ap (found n) rows_dir ∙ added_rest old mid dir _ adds n other) (led_as tag kinds.File)
      (ap (found name) rows_dir ∙ added_row old mid dir _ adds free)
      (λ next tail. ap (λ rows. option_and_then (λ row. led_from new row tail) (found next rows)) new_no_rows)
      (λ next tail. ap (option_and_then (λ row. led_from old row (next ∷ tail))) free)

  -- ---- nodes

  lost : led_to old path ≡ None
  lost = led-name old place name ∙ ap (option_and_then (λ (led : Tag × Kind). found name (rows_in old led.0))) led ∙ free

  path_free : map.get slot.tree.paths path ≡ None
  path_free = path_at old slot original.names original.role path ∙ ap (option_map (λ (led : Tag × Kind). number_of led.0)) lost

  abbrev after : FilesetSlot
  after = record slot { tree = record slot.tree { paths = map.insert slot.tree.paths path (number_of tag) } }

  counts : (k : ℕ) → paths_to after.tree k ≡ cond (number_of tag == k) 1 0 + paths_to slot.tree k
  counts k = count-new slot.tree.paths path (number_of tag) k path_free

  in_tag : (of : Kind) → had.file.kind ≡ of → IsIn new after.tree tag of
  in_tag of kind =
      let node = from_some_and (IsNodeOf had.file) (map.get slot.tree.nodes (number_of tag)) had.node in
      record {
        file = now;
        there = itself;
        kind = kind;
        node = to_some_and (IsNodeOf now) (map.get slot.tree.nodes (number_of tag)) node.0 node.1 (same_owner node.0 node.2);
        links =
            let one : paths_to after.tree (number_of tag) ≡ 1 + paths_to slot.tree (number_of tag) =
            counts (number_of tag) ∙ ap (λ b. cond b 1 0 + paths_to slot.tree (number_of tag)) (eq-eqb (number_of tag) (number_of tag) refl) in
            let count : links_at mid tag ≡ had.file.links = ap (λ (o : Option Bitfile). option_map_or (λ (f : Bitfile). f.links) o 0) at_mid in
            let more : links_at mid tag + 1 ≡ paths_to after.tree (number_of tag) = omega (arith, one, count, had.links) in
            more;
      }
    where
      same_owner : (node : Node) → IsNodeOf had.file node → IsNodeOf now node
      same_owner (File uid gid size logged pages) is = is
      same_owner (DirectoryNode uid gid) is = is

  in_other : (t : Tag) (k : Kind) → same_tag t tag ≡ false → IsIn old slot.tree t k → IsIn new after.tree t k
  in_other t k other was =
      let is = still old mid dir adds.others t was.file was.there in
      let node = from_some_and (IsNodeOf was.file) (map.get slot.tree.nodes (number_of t)) was.node in
      let differs : number_of t ≢ number_of tag = λ same.
      true≢false (sym (ap (λ s. same_tag s tag) (one_tag t tag (original.names.seq t was.file was.there) (original.names.seq tag had.file had.there) same) ∙ tag_itself tag) ∙ other) in
      record {
        file = is.0;
        there = others t other ∙ is.1;
        kind = is.2.kind ∙ was.kind;
        node = to_some_and (IsNodeOf is.0) (map.get slot.tree.nodes (number_of t)) node.0 node.1 (same_node is.0 was.file node.0 is.2 node.2);
        links =
            let same : paths_to after.tree (number_of t) ≡ paths_to slot.tree (number_of t) =
            counts (number_of t) ∙ ap (λ b. cond b 1 0 + paths_to slot.tree (number_of t)) (not_equal (number_of tag) (number_of t) (λ e. differs (sym e))) ∙ omega arith in
            is.2.links ∙ was.links ∙ sym same;
      }
    where
      not_equal : (a b : ℕ) → a ≢ b → (a == b) ≡ false
      not_equal a b other = elim (a == b) as (λ t. (a == b) ≡ t → t ≡ false) [
        | true ↦ λ is. absurd (other (eqb-true a b is))
        | false ↦ λ is. refl
      ] refl

  in_old : (q : Path) (t : Tag) (k : Kind) → q ≢ path → led_to old q ≡ led_as t k → IsIn new after.tree t k
  in_old q t k differs led =
      let was = is_in old slot original.names original.role q t k led in
      by_tag (IsIn new after.tree t k) t tag
      (λ same. subst (λ t. IsIn new after.tree t k) (sym same)
      (in_tag k (ap (λ (f : Bitfile). f.kind) (some_inj (sym had.there ∙ sym (ap old same) ∙ was.there)) ∙ was.kind)))
      (λ other. in_other t k other was)

  mid_good : (d : Tag) → IsDirectory mid d → IsWellFormed mid d
  mid_good = good_kept old mid dir adds.others original.names.directories adds.good

  directories : (d : Tag) → IsDirectory new d → IsWellFormed new d
  directories d there = by_tag (IsWellFormed new d) d tag
      (λ same.
      let is : IsSomeAnd (Some now) (λ f. f.kind ≡ kinds.Directory) = subst (λ (o : Option Bitfile). IsSomeAnd o (λ f. f.kind ≡ kinds.Directory)) (ap new same ∙ itself) there in
      absurd (differ (sym had.kind ∙ is)))
      (λ other.
      let file = from_some_and (λ (f : Bitfile). f.kind ≡ kinds.Directory) (new d) there in
      let at : mid d ≡ Some file.0 = sym (others d other) ∙ file.1 in
      rows_decide_lem mid new d d file.0 file.0 at file.1 (record { kind = refl; pages = refl; index = refl })
      (mid_good d (to_some_and (λ (f : Bitfile). f.kind ≡ kinds.Directory) (mid d) file.0 at file.2)))
    where
      differ : (¬ kinds.File ≡ kinds.Directory)
      differ e = cc

  was : (t : Tag) (file : Bitfile) → same_tag t tag ≡ false → new t ≡ Some file → (f : Bitfile) × (old t ≡ Some f) × (file.kind ≡ f.kind)
  was t file other there =
      let it = before old mid dir adds.others dir_there t file (sym (others t other) ∙ there) in
      (it.0, it.1, it.2.kind)

  live : (t : Tag) (file : Bitfile) → new t ≡ Some file → (led_as tag kinds.File ≡ led_as t file.kind) ⊎ ((q : Path) × (q ≢ path) × (led_to old q ≡ led_as t file.kind))
  live t file there = by_tag ((led_as tag kinds.File ≡ led_as t file.kind) ⊎ ((q : Path) × (q ≢ path) × (led_to old q ≡ led_as t file.kind))) t tag
      (λ same.
      let kind : kinds.File ≡ file.kind = sym had.kind ∙ ap (λ (f : Bitfile). f.kind) (some_inj (sym itself ∙ sym (ap new same) ∙ there)) in
      inl (ap (λ t. led_as t kinds.File) (sym same) ∙ ap (led_as t) kind))
      (λ other.
      let f = was t file other there in
      let at = original.names.live original.role t f.0 f.1 in
      inr (at.0, (λ here. none≢some (sym lost ∙ sym (ap (led_to old) here) ∙ at.1)), at.1 ∙ ap (led_as t) (sym f.2)))
    where
      none≢some : {x : Tag × Kind} → (¬ None ≡ Some x)
      none≢some e = cc

  seq : (t : Tag) (file : Bitfile) → new t ≡ Some file → t.seq < 2 ^ 16
  seq t file there = by_tag (t.seq < 2 ^ 16) t tag
      (λ same. subst (λ (t : Tag). t.seq < 2 ^ 16) (sym same) (original.names.seq tag had.file had.there))
      (λ other. let f = was t file other there in original.names.seq t f.0 f.1)

  pub linked_names : Names new (record slot { tree = with_path source path slot.tree })
  linked_names = subst (λ tree. Names new (record slot { tree = tree })) (sym (linked-at slot.tree source path (number_of tag) (number_at old slot original.names original.role source tag kinds.File source_led)))
      (leaf_names old new slot after original.names original.role refl path (led_as tag kinds.File) leads
      (get-insert_same path_cmp-total path_cmp-IsAntisymmetric slot.tree.paths path (number_of tag))
      (λ q differs. get-insert_other path_cmp-total path_cmp-IsAntisymmetric slot.tree.paths path (number_of tag) q differs)
      (λ t of is. subst (λ (led : Tag × Kind). IsIn new after.tree led.0 led.1) (some_inj is) (in_tag kinds.File had.kind))
      in_old directories live seq)

  pub linked_indexes : IndexesFollow dir old new
  linked_indexes = record {
    indexed = is_now.0;
    kept = is_now.1;
    bare = is_now.2;
    others = λ t away there. by_tag (count_index new t ≡ count_index old t) t tag
        (λ same. same_count (new t) (Some now) (ap new same ∙ itself) ∙ sym (same_count (old t) (Some had.file) (ap old same ∙ had.there)))
        (λ other. same_count (new t) (old t) (others t other ∙ (others_stay_lem dir old mid adds.others).others t away));
  }
    where
      is_now : IsIndexedWhereSmall dir new × KeepsIndex dir old new × GetsNoIndex dir old new
      is_now = subst (HasIndex (count_index old dir)) (sym (others dir dir_apart)) (adds.indexed, adds.kept, adds.bare)

  pub linked_original : paths_to slot.tree (number_of tag) < max_links → IsOriginal new (record slot { tree = with_path source path slot.tree })
  linked_original few = record {
    names = linked_names;
    role = original.role;
    valid = linked-valid slot.tree source path original.valid (directory_is old slot original source tag kinds.File source_led) path_free
        (λ number leads. subst (λ n. paths_to slot.tree n < max_links)
        (some_inj (sym (number_at old slot original.names original.role source tag kinds.File source_led) ∙ leads)) few)
        (λ front n e. subst (IsDirectoryAt slot.tree) (sym (fore place name) ∙ ap (λ p. take (length p - 1) p) (sym e) ∙ fore front n) (directory_at old slot original.names original.role place dir led));
  }

-- a path more leads to a file
pub links : (old new : Bitfiles) (slot : FilesetSlot) → IsOriginal old slot → (path to : Path) → 1 ≤ length to → (place : LinkPlace) → IsLinkPlace old slot path to (Ok place) → AddsLink place (last_name to) old new
    → Links path to slot old new place.tag
links old new slot original path to some place at adds =
    let had = is_in old slot original.names original.role path place.tag kinds.File at.1 in
    let count : links_at old place.tag ≡ paths_to slot.tree (number_of place.tag) = ap (λ (o : Option Bitfile). option_map_or (λ (f : Bitfile). f.links) o 0) had.there ∙ had.links in
    record {
      allowed = at.0;
      was = number_at old slot original.names original.role path place.tag kinds.File at.1;
      makes = subst (λ p. IsOriginal new (record slot { tree = with_path path p slot.tree })) (whole_path to some)
          (linked_original old adds.mid new slot original path place.tag at.1 at.2 place.dir (take (length to - 1) to) (last_name to) at.4.led at.5 adds.adds adds.counted
          (subst (λ n. n < max_links) count at.3));
      dir = place.dir;
      into = number_at old slot original.names original.role (take (length to - 1) to) place.dir kinds.Directory at.4.led;
      indexes = linked_indexes old adds.mid new slot original path place.tag at.1 at.2 place.dir (take (length to - 1) to) (last_name to) at.4.led at.5 adds.adds adds.counted;
    }
