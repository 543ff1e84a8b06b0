-- Where no rule is broken, what is read of a fileset says one.
use Rattle.std.proofs.Common.{◌≡◌, ◌∙◌, inl, inr, ⊎_elim, ℕ, ◌^◌, ◌≤◌, List, [], length, map, Option, Some, None, IsSomeAnd, Contains, slice_get, refl, sym, ap, subst}
use Rattle.std.specs.Option.{option_and_then, option_map, option_map_or}
use Rattle.fileset_shapes.specs.domain_base.declared.place.Home.{Home}
use Rattle.fileset_shapes.specs.domain_base.declared.place.Kind.TheVariants.{Directory}
use Rattle.fileset_shapes.specs.domain_base.declared.place.Tag.{Tag}
use Rattle.fileset_shapes.specs.page_store.Bitfiles.{Bitfile, Bitfiles, IsDirectory}
use Rattle.fileset_shapes.specs.page_store.Pages.{Pages}
use Rattle.fileset_shapes.specs.log_ring.Homes.{IsMember, member_of}
use Rattle.fileset_shapes.specs.directory_pages.Index.{index_pages}
use Rattle.fileset_shapes.proofs.OfLegalHistories.ValidLemmas.{from_some_and, some_inj}
use Rattle.fileset_shapes.specs.fileset_values.Orders.{Name}
use Rattle.fileset_shapes.specs.fileset_table.Page.{IsTablePage}
use Rattle.fileset_shapes.specs.fileset_table.Table.{HaveOwnNames, Table, entry_of}
use Rattle.fileset_shapes.specs.fileset_table.declared.slot.FilesetEntry.{FilesetEntry}
use Rattle.fileset_shapes.specs.fileset_table.declared.slot.SlotItem.{SlotItem}
use Rattle.fileset_shapes.specs.fileset_table.declared.slot.SlotItem.TheVariants as slot
use Rattle.fileset_shapes.specs.domain_layout.CellRules.{of_clone}
use Rattle.fileset_shapes.specs.domain_layout.DirectoryRules.{IsDirectoryFault}
use Rattle.fileset_shapes.specs.domain_layout.Faults.{HasNoFault}
use Rattle.fileset_shapes.specs.domain_layout.Layout.{Layout}
use Rattle.fileset_shapes.specs.domain_layout.Owners.{frame_of}
use Rattle.fileset_shapes.specs.domain_layout.Reached.{Frame}
use Rattle.fileset_shapes.specs.domain_layout.Seen.{SeenFile}
use Rattle.fileset_shapes.specs.domain_layout.Shape.{FilesetShape, IsClone, IsShapeOf, ShowsSeen, ShowsSeenAt}
use Rattle.fileset_shapes.proofs.OfDomainLayout.OwnedOnce.{no_files, no_index}
use Rattle.fileset_shapes.proofs.OfDirectoryRows.AllLed.{contains_at}
use Rattle.fileset_shapes.specs.filesets_reading.declared.tables.DomainTables.{DomainTables}
use Rattle.fileset_shapes.specs.name_space.Trees.{MayBeOf}
use Rattle.filesets_filled.specs.Showing.{HaveTheirIndexes, ListsDirectories, ShowsFileset}
use Rattle.filesets_filled.proofs.Entries.{distinct_map, distinct_once, in_map, once_distinct}
use Rattle.filesets_filled.proofs.Indexes.{indexes}
use Rattle.filesets_filled.proofs.RowRules.{all_led, are_rows}
use Rattle.fileset_shapes.specs.Files.{IsWhole}
use Rattle.fileset_shapes.proofs.Held.{says_table}
use Rattle.fileset_shapes.specs.Found.{HasAllPages, HaveOwnTags, SeesFileset, SeesItem, SeesShape, SeesSlot, file_at, shown_by}
use Rattle.fileset_shapes.specs.Shapes.{IsDomain}
use Rattle.fileset_shapes.specs.declared.found.FilesetSeen.{FilesetSeen}
use Rattle.fileset_shapes.specs.declared.found.TaggedFile.{TaggedFile}
use Rattle.fileset_shapes.specs.domain_layout.Filled.{Fills}
use Rattle.fileset_shapes.specs.domain_layout.Read.{contents_of}
use Rattle.filesets_filled.specs.Slots.{FillsEntry, FillsSlot}
use Rattle.filesets_filled.specs.declared.slots.NamedFileset.{NamedFileset}
use Rattle.filesets_filled.specs.Filling.{SaysFileset}
use Rattle.filesets_filled.proofs.PartsRead.{file_is}
use Rattle.filesets_filled.proofs.Shown.{an_original_has_a_root, shows_a_fileset, shows_indexes}

none_is_some : {P X : Type 0} (x : X) → None ≡ Some x → P
none_is_some x is = absurd (cc)

-- ---- the tags of a list

own_distinct : (files : List TaggedFile) → HaveOwnTags files → (j k : ℕ) (dir : Tag) → slice_get (map (λ (file : TaggedFile). file.tag) files) j ≡ Some dir → slice_get (map (λ (file : TaggedFile). file.tag) files) k ≡ Some dir → j ≡ k
own_distinct files own = distinct_once (map (λ (file : TaggedFile). file.tag) files)
    (distinct_map (λ (file : TaggedFile). file.tag) files
    (once_distinct files (λ j k file at at'. own j k file file at at' refl))
    (λ a b among among' same. some_inj (sym among.1 ∙ ap (slice_get files) (own among.0 among'.0 a b among.1 among'.1 same) ∙ among'.1)))

module _ (pages : Pages) (files : List TaggedFile) (shown : Bitfiles) (own : HaveOwnTags files) (shows : (tag : Tag) → shown tag ≡ option_map (shown_by pages) (file_at files tag)) where
  lists_all : ListsDirectories shown (map (λ (file : TaggedFile). file.tag) files)
  lists_all = record { each = each; once = own_distinct files own }
    where
      by_file : (dir : Tag) (o : Option TaggedFile) → file_at files dir ≡ o → IsSomeAnd (option_map (shown_by pages) o) (λ (f : Bitfile). f.kind ≡ Directory) → Contains (map (λ (file : TaggedFile). file.tag) files) dir
      by_file dir None none is = absurd is
      by_file dir (Some file) at is =
          let f = file_is files dir file at in
          let k = in_map (λ (g : TaggedFile). g.tag) files file (f.0, f.1) in
          contains_at (map (λ (g : TaggedFile). g.tag) files) k.0 dir (k.1 ∙ ap Some f.2)

      each : (dir : Tag) → IsDirectory shown dir → Contains (map (λ (file : TaggedFile). file.tag) files) dir
      each dir is = by_file dir (file_at files dir) refl (subst (λ (o : Option Bitfile). IsSomeAnd o (λ (f : Bitfile). f.kind ≡ Directory)) (shows dir) is)

-- ---- a domain

module _ (pages : Pages) (frame : Frame) (tables : DomainTables) (domain : IsDomain pages frame tables) where
  abbrev pub layout : Layout
  layout = domain.tables_are.layout

  pub whole : IsWhole pages layout
  whole = record {
    laid = domain.tables_are.laid;
    no_fault = subst (HasNoFault pages) (sym domain.tables_are.is) domain.no_fault;
    small = subst (λ (f : Frame). (vol : ℕ) → IsMember f.anchor vol → (member_of f.anchor vol).pages ≤ 2 ^ 32) (sym domain.tables_are.is) domain.tables_are.small;
    all = subst (HasAllPages pages) (sym domain.tables_are.is) domain.all;
  }

  no_directory : (home : Home) → ¬ IsDirectoryFault pages (frame_of layout) layout.table home
  no_directory home fault = no_files pages layout whole.laid whole.no_fault (record { code = 9; home = home }) (layout, refl, whole.laid, inr (inr (inl (refl, fault))))

  module _ (number : ℕ) (item : SlotItem) (there : slice_get layout.table.slots number ≡ Some item) (entry : FilesetEntry) (shape : FilesetShape) (found : FilesetSeen)
      (is : IsShapeOf pages layout.table number item (Some shape)) (sees : SeesShape pages entry shape found) where
    shows : ShowsFileset pages (frame_of layout) layout.table number shape.files shape.shown
    shows = shows_a_fileset pages layout number item entry shape found whole there is sees

    abbrev dirs : List Tag
    dirs = map (λ (file : TaggedFile). file.tag) found.files.items

    lists : ListsDirectories shape.shown dirs
    lists = lists_all pages found.files.items shape.shown sees.once sees.shown

    -- a clone's directories have no index
    bare : (dir : Tag) (o : Option SeenFile) → ShowsSeenAt pages o (shape.shown dir) → index_pages shape.shown dir ≡ []
    bare dir None none = ap (λ (o : Option Bitfile). option_map_or (λ (f : Bitfile). f.index) o []) none
    bare dir (Some seen) is_shown =
        let file = from_some_and (ShowsSeen pages seen) (shape.shown dir) is_shown in
        ap (λ (o : Option Bitfile). option_map_or (λ (f : Bitfile). f.index) o []) file.1 ∙ file.2.index

    their_indexes : (i : SlotItem) → slice_get layout.table.slots number ≡ Some i → IsShapeOf pages layout.table number i (Some shape) → HaveTheirIndexes shape.shown
    their_indexes slot.Free at has = none_is_some shape (sym has)
    their_indexes (slot.Removed first_tag quota) at has = none_is_some shape (sym has)
    their_indexes (slot.Original e) at has = λ dir directory. ⊎_elim
        (λ none. inl none)
        (λ index. inr (indexes pages (frame_of layout) layout.table number shape.files shape.shown dir no_directory (no_index pages layout whole.laid whole.no_fault) (whole.all layout.table (says_table pages layout whole.laid)) shows index))
        (shows_indexes pages layout number e shape dir whole at has directory)
    their_indexes (slot.Clone of clone e) at has =
        let original = from_some_and (λ o. IsClone pages number of e o clone shape) (option_and_then entry_of (slice_get layout.table.slots of)) has in
        λ dir directory. inl (bare dir (shape.files dir) (original.2.shown dir))

    may_be : (i : SlotItem) → slice_get layout.table.slots number ≡ Some i → IsShapeOf pages layout.table number i (Some shape) → MayBeOf shape.original shape.shown
    may_be slot.Free at has = none_is_some shape (sym has)
    may_be (slot.Removed first_tag quota) at has = none_is_some shape (sym has)
    may_be (slot.Original e) at has = subst (λ (o : Option Name). MayBeOf o shape.shown) (sym has.none) (record {
      root = an_original_has_a_root pages layout number e shape whole at has;
      rows = all_led pages (frame_of layout) layout.table number shape.files shape.shown dirs no_directory shows lists (ap of_clone at);
    })
    may_be (slot.Clone of clone e) at has =
        let original = from_some_and (λ o. IsClone pages number of e o clone shape) (option_and_then entry_of (slice_get layout.table.slots of)) has in
        subst (λ (o : Option Name). MayBeOf o shape.shown) (sym original.2.named) tt

    pub says : SaysFileset pages entry found shape
    says = record {
      sees = sees;
      rows = are_rows pages (frame_of layout) layout.table number shape.files shape.shown dirs no_directory shows lists (their_indexes item there is);
      may = subst (λ (o : Option Name). MayBeOf o shape.shown) (sym sees.original) (may_be item there is);
    }

  -- ---- what is read in a slot

  at_layout : (number : ℕ) (item : SlotItem) → slice_get tables.filesets.slots number ≡ Some item → slice_get layout.table.slots number ≡ Some item
  at_layout number item there = subst (λ (t : Table). slice_get t.slots number ≡ Some item) (sym domain.tables_are.table) there

  module _ (number : ℕ) (item : SlotItem) (there : slice_get tables.filesets.slots number ≡ Some item) (entry : FilesetEntry) (is_entry : entry_of item ≡ Some entry) where
    -- where a fileset is one is read
    pub sees_entry : (found : Option FilesetSeen) → SeesSlot pages tables.filesets number found → IsSomeAnd found (SeesFileset pages tables.filesets number item entry)
    sees_entry found sees = by_item item is_entry (sees item there)
      where
        by_item : (i : SlotItem) → entry_of i ≡ Some entry → SeesItem pages tables.filesets number i found → IsSomeAnd found (SeesFileset pages tables.filesets number i entry)
        by_item slot.Free is has = none_is_some entry is
        by_item (slot.Removed first_tag quota) is has = none_is_some entry is
        by_item (slot.Original e) is has =
            subst (λ (d : FilesetEntry). IsSomeAnd found (SeesFileset pages tables.filesets number (slot.Original e) d)) (some_inj is) has
        by_item (slot.Clone of clone e) is has =
            subst (λ (d : FilesetEntry). IsSomeAnd found (SeesFileset pages tables.filesets number (slot.Clone of clone e) d)) (some_inj is) has

    module _ (found : FilesetSeen) (seen : SeesFileset pages tables.filesets number item entry found) where
      -- it says a fileset
      pub says_one : SaysFileset pages entry found seen.shape
      says_one = says number item (at_layout number item there) entry seen.shape found
          (subst (λ (t : Table). IsShapeOf pages t number item (Some seen.shape)) (sym domain.tables_are.table) seen.is) seen.sees

      -- and so it is filled
      pub fills_one : (named : NamedFileset) → named.name ≡ entry.name → ((shape : FilesetShape) → SaysFileset pages entry found shape → Fills (contents_of pages) shape named.slot)
          → FillsSlot pages tables.filesets number (Some named)
      fills_one named name fills = λ other there'.
          let same : item ≡ other = some_inj (sym there ∙ there') in
          subst (λ (i : SlotItem). FillsEntry pages tables.filesets number i (entry_of i) (Some named)) same
          (subst (λ (o : Option FilesetEntry). FillsEntry pages tables.filesets number item o (Some named)) (sym is_entry)
          (record { name = name; shape = seen.shape; is = seen.is; fills = fills seen.shape says_one }))

  -- ---- the table

  table_there : (o : Option Home) → IsSomeAnd o (λ home. IsSomeAnd (pages home) (λ page. IsTablePage page layout.table)) → (home : Home) × (o ≡ Some home) × IsSomeAnd (pages home) (λ page. IsTablePage page layout.table)
  table_there None is = absurd is
  table_there (Some home) is = (home, refl, is)

  pub table_page : (home : Home) × (frame.anchor.table ≡ Some home) × IsSomeAnd (pages home) (λ page. IsTablePage page tables.filesets)
  table_page =
      let t = table_there layout.anchor.table domain.tables_are.laid.table in
      (t.0, ap (λ (f : Frame). f.anchor.table) (sym domain.tables_are.is) ∙ t.1, subst (λ (table : Table). IsSomeAnd (pages t.0) (λ page. IsTablePage page table)) domain.tables_are.table t.2)

  page_of_table : (page : List ℕ) × IsTablePage page tables.filesets
  page_of_table = let p = from_some_and (λ page. IsTablePage page tables.filesets) (pages table_page.0) table_page.2 in (p.0, p.2)

  pub own_names : HaveOwnNames tables.filesets.slots
  own_names = page_of_table.1.good.together.names

  pub all_slots : length tables.filesets.slots ≡ 32
  all_slots = page_of_table.1.slots.whole
