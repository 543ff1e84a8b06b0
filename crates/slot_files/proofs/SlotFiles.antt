-- What a fileset has at a tag by the places of its tag directory is what the layout says.
use Rattle.std.proofs.Common.{◌≡◌, ◌∙◌, ◌⊎◌, ◌↔◌, inl, inr, ℕ, zero, suc, Bool, true, false, List, [], ◌∷◌, Option, Some, None, IfSome, IsSome, IsSomeAnd, slice_get, refl, sym, ap, subst, arith, ⊎_elim}
use Rattle.std.specs.List.{list_all}
use Rattle.std.specs.Option.{option_and_then, option_map_or}
use Rattle.std.specs.Prelude.{◌&&◌}
use Rattle.index_row_faults.specs.domain_base.declared.place.CellAt.{CellAt}
use Rattle.index_row_faults.specs.domain_base.declared.place.Home.{Home}
use Rattle.index_row_faults.specs.domain_base.declared.place.Tag.{Tag}
use Rattle.index_row_faults.specs.page_store.Pages.{Pages}
use Rattle.index_row_faults.specs.cell_records.Fields.{number_at}
use Rattle.index_row_faults.specs.metadata_cells.Cell.{IsFileset}
use Rattle.index_row_faults.specs.metadata_cells.CellPage.{home_of}
use Rattle.index_row_faults.specs.metadata_cells.Chain.{LinksFrom, PlacedCell}
use Rattle.index_row_faults.specs.metadata_cells.declared.head.CellKind.TheVariants as kinds
use Rattle.index_row_faults.proofs.OfMetadataCells.Walk.{one_kind}
use Rattle.index_row_faults.specs.fileset_files.Files.{is_removed}
use Rattle.index_row_faults.specs.tag_dirs.Directory.{IsDirectoryAt, cell_of}
use Rattle.index_row_faults.specs.tag_dirs.declared.dir.TagPlace.{TagPlace}
use Rattle.index_row_faults.proofs.OfTagDirs.Reading.{same_directory}
use Rattle.index_row_faults.specs.fileset_table.Page.{IsTablePage}
use Rattle.index_row_faults.specs.fileset_table.Table.{IsTable, Table, entry_of as fileset_of, is_original, leads_to_original}
use Rattle.index_row_faults.specs.fileset_table.declared.slot.FilesetEntry.{FilesetEntry}
use Rattle.index_row_faults.specs.fileset_table.declared.slot.SlotItem.{SlotItem}
use Rattle.index_row_faults.specs.fileset_table.declared.slot.SlotItem.TheVariants as slot
use Rattle.index_row_faults.specs.domain_layout.DirectoryRules as rule
use Rattle.index_row_faults.specs.domain_layout.DirectoryRules.{Has, IsInItem, IsNotThere, IsThere}
use Rattle.index_row_faults.specs.domain_layout.Faults.{HasNoTablesFault}
use Rattle.index_row_faults.specs.domain_layout.Layout.{AreTagPlaces, first_tag_of}
use Rattle.index_row_faults.specs.domain_layout.Owners.{frame_of}
use Rattle.index_row_faults.specs.domain_layout.Reached.{Frame}
use Rattle.index_row_faults.specs.domain_layout.Seen.{IsOwn, SeenFile, seen_in, seen_through, source_of}
use Rattle.index_row_faults.specs.domain_layout.TagRules.{HasTags, IsFirstOf, original_slot}
use Rattle.index_row_faults.proofs.OfDomainLayout.Named.{first_there}
use Rattle.index_row_faults.proofs.OfDomainLayout.OnePage.{one_of, some_same}
use Rattle.index_row_faults.proofs.OfDomainLayout.OwnedOnce.{no_tags}
use Rattle.index_row_faults.specs.filesets_reading.Chains.{IsUnbroken}
use Rattle.index_row_faults.specs.filesets_reading.Tables.{AreTablesOf}
use Rattle.index_row_faults.specs.filesets_reading.declared.tables.DomainTables.{DomainTables}
use Rattle.index_row_faults.proofs.OfFilesetsReading.Unbroken.{unbroken}
use Rattle.index_row_faults.specs.fileset_shapes.Tags.{IsUsed}
use Rattle.index_row_faults.specs.directory_faults.There.{AreFilesIn}
use Rattle.index_row_faults.specs.directory_faults.declared.there.FileThere.{FileThere}
use Rattle.slot_files.specs.Files.{AreAllSo, HasOriginalAt, HaveWholeSources, IsInClone, IsInOriginal, IsOfClone, IsOfOriginal, IsThrough, IsWhole}

no_bool : {P : Type 0} → false ≡ true → P
no_bool is = absurd (cc)

none_some : {P : Type 0} {X : Type 0} (x : X) → None ≡ Some x → P
none_some x is = absurd (cc)

-- ---- tags in use

some_of : {X : Type 0} (o : Option X) (P : X → Type 0) → IsSomeAnd o P → IsSome o
some_of None P is = absurd is
some_of (Some x) P is = refl

on_some : {X : Type 0} (o : Option X) (P Q : X → Type 0) → ((x : X) → P x → Q x) → IsSomeAnd o P → IsSomeAnd o Q
on_some None P Q so is = is
on_some (Some x) P Q so is = so x is

pub original_used : (pages : Pages) (dir : List TagPlace) (tag : Tag) (cells : List PlacedCell) (seen : SeenFile) → IsInOriginal pages dir tag cells seen → IsUsed pages dir tag
original_used pages dir tag cells seen is = some_of (cell_of pages dir tag) (λ at. IsOfOriginal pages at cells seen) is

pub clone_used : (pages : Pages) (own behind : List TagPlace) (number : ℕ) (tag : Tag) (cells : List PlacedCell) (seen : SeenFile) → IsInClone pages own behind number tag cells seen → IsUsed pages own tag ⊎ IsUsed pages behind tag
clone_used pages own behind number tag cells seen is =
    ⊎_elim (λ its. inl (some_of (cell_of pages own tag) (λ at. IsOfClone pages at cells seen) its))
    (λ other. inr (some_of (cell_of pages behind tag) (λ at. IsThrough pages number at cells seen) other.1)) is

-- ---- at a tag

part_there : (o : Option CellAt) (L : CellAt → Type 0) (S : Type 0) → IsSomeAnd o (λ at. L at × S) → IsSomeAnd o L × S
part_there None L S is = absurd is
part_there (Some at) L S is = is

join_there : (o : Option CellAt) (L : CellAt → Type 0) (S : Type 0) → IsSomeAnd o L → S → IsSomeAnd o (λ at. L at × S)
join_there None L S is so = absurd is
join_there (Some at) L S is so = (is, so)

parts_there : (o : Option CellAt) (L : CellAt → Type 0) (S T : Type 0) → IsSomeAnd o (λ at. L at × S × T) → IsSomeAnd o L × S × T
parts_there None L S T is = absurd is
parts_there (Some at) L S T is = is

joins_there : (o : Option CellAt) (L : CellAt → Type 0) (S T : Type 0) → IsSomeAnd o L → S → T → IsSomeAnd o (λ at. L at × S × T)
joins_there None L S T is so also = absurd is
joins_there (Some at) L S T is so also = (is, so, also)

module _ (pages : Pages) (entry : FilesetEntry) (places : List TagPlace) (directory : IsDirectoryAt pages entry.first_tag places) (tag : Tag) where
  leads_here : (cells : List PlacedCell) → IsThere pages entry tag cells → IsSomeAnd (cell_of pages places tag) (λ at. LinksFrom pages at cells)
  leads_here cells is = subst (λ (ps : List TagPlace). IsSomeAnd (cell_of pages ps tag) (λ at. LinksFrom pages at cells)) (same_directory pages entry.first_tag is.places places is.directory directory) is.leads

  is_here : (cells : List PlacedCell) → IsSomeAnd (cell_of pages places tag) (λ at. LinksFrom pages at cells) → IsThere pages entry tag cells
  is_here cells leads = record { places = places; directory = directory; leads = leads }

  none_here : IsNotThere pages entry tag → cell_of pages places tag ≡ None
  none_here is = ap (λ (ps : List TagPlace). cell_of pages ps tag) (same_directory pages entry.first_tag places is.places directory is.directory) ∙ is.none

  pub original_to : (cells : List PlacedCell) (seen : SeenFile) → IsInOriginal pages places tag cells seen → rule.IsInOriginal pages entry tag cells seen
  original_to cells seen is =
      let parts = part_there (cell_of pages places tag) (λ at. LinksFrom pages at cells) (seen_in cells ≡ Some seen) is in
      record { there = is_here cells parts.0; is = parts.1 }

  pub original_from : (cells : List PlacedCell) (seen : SeenFile) → rule.IsInOriginal pages entry tag cells seen → IsInOriginal pages places tag cells seen
  original_from cells seen is = join_there (cell_of pages places tag) (λ at. LinksFrom pages at cells) (seen_in cells ≡ Some seen) (leads_here cells is.there) is.is

module _ (pages : Pages) (entry original : FilesetEntry) (own behind : List TagPlace) (directory : IsDirectoryAt pages entry.first_tag own) (directory_behind : IsDirectoryAt pages original.first_tag behind) (clone : ℕ) (tag : Tag) where
  pub clone_to : (cells : List PlacedCell) (seen : SeenFile) → IsInClone pages own behind clone tag cells seen → rule.IsInClone pages entry original clone tag cells seen
  clone_to cells seen is = record { is = ⊎_elim its through is }
    where
      its : IsSomeAnd (cell_of pages own tag) (λ at. IsOfClone pages at cells seen)
          → (IsThere pages entry tag cells × (is_removed cells ≡ false) × IsOwn pages cells seen) ⊎ (IsNotThere pages entry tag × IsThere pages original tag cells × (seen_through clone cells ≡ Some seen))
      its so =
          let parts = parts_there (cell_of pages own tag) (λ at. LinksFrom pages at cells) (is_removed cells ≡ false) (IsOwn pages cells seen) so in
          inl (is_here pages entry own directory tag cells parts.0, parts.1, parts.2)

      through : (cell_of pages own tag ≡ None) × IsSomeAnd (cell_of pages behind tag) (λ at. IsThrough pages clone at cells seen)
          → (IsThere pages entry tag cells × (is_removed cells ≡ false) × IsOwn pages cells seen) ⊎ (IsNotThere pages entry tag × IsThere pages original tag cells × (seen_through clone cells ≡ Some seen))
      through so =
          let parts = part_there (cell_of pages behind tag) (λ at. LinksFrom pages at cells) (seen_through clone cells ≡ Some seen) so.1 in
          inr (record { places = own; directory = directory; none = so.0 }, is_here pages original behind directory_behind tag cells parts.0, parts.1)

  pub clone_from : (cells : List PlacedCell) (seen : SeenFile) → rule.IsInClone pages entry original clone tag cells seen → IsInClone pages own behind clone tag cells seen
  clone_from cells seen is =
      ⊎_elim
      (λ its. inl (joins_there (cell_of pages own tag) (λ at. LinksFrom pages at cells) (is_removed cells ≡ false) (IsOwn pages cells seen) (leads_here pages entry own directory tag cells its.0) its.1 its.2))
      (λ other. inr (none_here pages entry own directory tag other.0, join_there (cell_of pages behind tag) (λ at. LinksFrom pages at cells) (seen_through clone cells ≡ Some seen) (leads_here pages original behind directory_behind tag cells other.1) other.2))
      is.is

-- ---- files by what a slot has

module _ (pages : Pages) (frame : Frame) (table : Table) (number : ℕ) (item : SlotItem) (there : slice_get table.slots number ≡ Some item) where
  has_by : (tag : Tag) (cells : List PlacedCell) (seen : SeenFile) → Has pages table number tag cells seen → IsInItem pages table item tag cells seen
  has_by tag cells seen has = subst (λ (i : SlotItem). IsInItem pages table i tag cells seen) (some_same has.item item (sym has.there ∙ there)) has.is

  pub files_in : (is : Tag → List PlacedCell → SeenFile → Type 0) → ((tag : Tag) (cells : List PlacedCell) (seen : SeenFile) → is tag cells seen ↔ IsInItem pages table item tag cells seen)
      → (files : List FileThere) → AreAllSo frame is files → AreFilesIn pages frame table number files
  files_in is same files are = record {
    each = λ file among.
        let so = are.each file among in
        record {
          cells = so.cells;
          seen = so.seen;
          has = record { item = item; there = there; is = (same file.tag so.cells so.seen).0 so.so };
          read = so.read;
        };
    all = λ tag cells seen has. are.all tag cells seen ((same tag cells seen).1 (has_by tag cells seen has));
    once = are.once;
  }

  pub no_files : ((tag : Tag) (cells : List PlacedCell) (seen : SeenFile) → ¬ IsInItem pages table item tag cells seen) → (files : List FileThere) → files ≡ [] → AreFilesIn pages frame table number files
  no_files none files empty = subst (AreFilesIn pages frame table number) (sym empty) (record {
    each = λ file among. absurd (omega (arith, among.1));
    all = λ tag cells seen has. absurd (none tag cells seen (has_by tag cells seen has));
    once = λ i j one other at also same. none_some one at;
  })

-- ---- the slots of a table

all_at : (p : SlotItem → Bool) (items : List SlotItem) (place : ℕ) (item : SlotItem) → list_all p items ≡ true → slice_get items place ≡ Some item → p item ≡ true
all_at p [] place item all there = none_some item there
all_at p (one ∷ more) place item all there = by_test (p one) refl all place there (all_at p more)
  where
    by_test : (b : Bool) → p one ≡ b → (b && list_all p more) ≡ true → (place : ℕ) → slice_get (one ∷ more) place ≡ Some item
        → ((place : ℕ) (item : SlotItem) → list_all p more ≡ true → slice_get more place ≡ Some item → p item ≡ true) → p item ≡ true
    by_test true is all zero there later = ap p (sym (some_same one item there)) ∙ is
    by_test true is all (suc place) there later = later place item all there
    by_test false is all place there later = no_bool all

original_in : (items : List SlotItem) (of : ℕ) → option_map_or is_original (slice_get items of) false ≡ true → (entry : FilesetEntry) × (slice_get items of ≡ Some (slot.Original entry))
original_in items of is = by_item (slice_get items of) is
  where
    by_item : (o : Option SlotItem) → option_map_or is_original o false ≡ true → (entry : FilesetEntry) × (o ≡ Some (slot.Original entry))
    by_item None is = no_bool is
    by_item (Some slot.Free) is = no_bool is
    by_item (Some (slot.Original entry)) is = (entry, refl)
    by_item (Some (slot.Clone n c e)) is = no_bool is
    by_item (Some (slot.Removed first_tag quota)) is = no_bool is

-- ---- the tables of a domain

fileset_is : (n number : ℕ) (o : Option ℕ) → IsFileset n o → IsFileset n (Some number) → o ≡ Some number
fileset_is n number None is also = absurd (omega (arith, is, also.0))
fileset_is n number (Some f) is also = ap Some (omega (arith, is.0, also.0))

-- the table of filesets is one
pub is_table : (pages : Pages) (frame : Frame) (tables : DomainTables) → AreTablesOf pages frame tables → IsTable tables.filesets
is_table pages frame tables are =
    let named = one_of are.layout.anchor.table (λ home. IsSomeAnd (pages home) (λ page. IsTablePage page are.layout.table)) are.laid.table in
    let there = one_of (pages named.value) (λ page. IsTablePage page are.layout.table) named.is in
    subst IsTable are.table there.is.good

module _ (pages : Pages) (frame : Frame) (tables : DomainTables) (are : AreTablesOf pages frame tables) (fault : HasNoTablesFault pages frame) where
  pub none : HasNoTablesFault pages (frame_of are.layout)
  none = subst (HasNoTablesFault pages) (sym are.is) fault

  pub slot_there : (number : ℕ) (item : SlotItem) → slice_get tables.filesets.slots number ≡ Some item → slice_get are.layout.table.slots number ≡ Some item
  slot_there number item there = subst (λ (t : Table). slice_get t.slots number ≡ Some item) (sym are.table) there

  -- the tag directory of what is in a slot
  pub directory_at : (number : ℕ) (item : SlotItem) → slice_get tables.filesets.slots number ≡ Some item → (first : Home) → first_tag_of item ≡ Some first
      → (places : List TagPlace) → slice_get tables.tags.items number ≡ Some places → IsDirectoryAt pages first places
  directory_at number item there first has places at =
      subst (λ o. AreTagPlaces pages o places) has
      (subst (AreTagPlaces pages (first_tag_of item)) (are.tags number places at) (are.laid.tags number item (slot_there number item there)))

  module _ (number : ℕ) (item : SlotItem) (there : slice_get tables.filesets.slots number ≡ Some item) (first : Home) (has : first_tag_of item ≡ Some first) (places : List TagPlace) (at : slice_get tables.tags.items number ≡ Some places) where
    tags : HasTags are.layout.table number first
    tags = record { item = item; there = slot_there number item there; has = has }

    named : (tag : Tag) (cell : CellAt) → cell_of pages places tag ≡ Some cell → ¬ ¬ IsFirstOf pages (frame_of are.layout) number tag cell
    named tag cell leads = first_there pages are.layout are.laid none number first tags places (directory_at number item there first has places at) tag cell leads

    pub whole_at : IsUnbroken pages places
    whole_at tag cell broken leads = unbroken pages are.layout are.laid none number tag cell (named tag cell leads) broken

  -- ---- the sources of a clone's files

  module _ (number of clone : ℕ) (entry : FilesetEntry) (there : slice_get tables.filesets.slots number ≡ Some (slot.Clone of clone entry)) (places : List TagPlace) (at : slice_get tables.tags.items number ≡ Some places) where
    item_is : IsUnbroken pages places
    item_is = whole_at number (slot.Clone of clone entry) there entry.first_tag refl places at

    source_named : (tag : Tag) (cell source : CellAt) (one : PlacedCell) (rest : List PlacedCell) → cell_of pages places tag ≡ Some cell → LinksFrom pages cell (one ∷ rest) → is_removed (one ∷ rest) ≡ false
        → source_of (one ∷ rest) ≡ Some source → ¬ ¬ IsFirstOf pages (frame_of are.layout) of tag source
    source_named tag cell source one rest leads links stays through wrong =
        named number (slot.Clone of clone entry) there entry.first_tag refl places at tag cell leads no_source
      where
        no_source : IsFirstOf pages (frame_of are.layout) number tag cell → ⊥
        no_source cell_first =
            let f = subst (λ a. IsFirstOf pages (frame_of are.layout) number tag a) (sym links.0) cell_first in
            let stands = links.1.stands in
            let bytes : f.bytes ≡ stands.bytes = some_same f.bytes stands.bytes (sym f.there ∙ stands.there) in
            let slot_is : one.cell.head.slot ≡ tag.slot = stands.is.head.slot ∙ ap (number_at 4 8) (sym bytes) ∙ f.slot in
            let seq_is : one.cell.head.seq ≡ tag.seq = stands.is.head.seq ∙ ap (number_at 2 12) (sym bytes) ∙ f.seq in
            let fileset : one.cell.head.fileset ≡ Some number =
            fileset_is (number_at 1 14 stands.bytes) number one.cell.head.fileset stands.is.head.fileset (subst (λ (b : List ℕ). IsFileset (number_at 1 14 b) (Some number)) bytes f.fileset) in
            no_tags pages are.layout are.laid none (home_of one.at)
            (inr (inr (inr (inr (inr (inl (
              one.at,
              refl,
              inr (inl (record {
                cell = one.cell;
                is = record { place = f.place; stands = stands };
                kind = one_kind one.cell.head.kind kinds.Primary (sym stands.is.head.kind ∙ ap (number_at 1 15) (sym bytes) ∙ f.kind);
                stays = stays;
                of = of;
                clone = ap (λ o. original_slot (option_and_then (slice_get are.layout.table.slots) o)) fileset ∙ ap original_slot (slot_there number (slot.Clone of clone entry) there);
                source = source;
                through = through;
                wrong = λ first_of. wrong (subst (λ (t : Tag). IsFirstOf pages (frame_of are.layout) of t source) (λ i. record { slot = slot_is i; seq = seq_is i }) first_of);
              })),
            )))))))

    pub sources_at : HaveWholeSources pages places
    sources_at tag cell leads [] links stays = absurd links
    sources_at tag cell leads (one ∷ rest) links stays = by_source (source_of (one ∷ rest)) refl
      where
        by_source : (o : Option CellAt) → source_of (one ∷ rest) ≡ o → IfSome o (IsWhole pages)
        by_source None through = tt
        by_source (Some source) through = unbroken pages are.layout are.laid none of tag source (source_named tag cell source one rest leads links stays through)

    -- what it is a clone of is an original
    pub original_behind : IsTable tables.filesets → HasOriginalAt tables.filesets of
    original_behind good =
        original_in tables.filesets.slots of (all_at (leads_to_original tables.filesets.slots) tables.filesets.slots number (slot.Clone of clone entry) good.together.originals there)

  -- ---- what was read

  module _ (number : ℕ) where
    pub files_of_original : (entry : FilesetEntry) → slice_get tables.filesets.slots number ≡ Some (slot.Original entry) → (places : List TagPlace) → slice_get tables.tags.items number ≡ Some places
        → (files : List FileThere) → AreAllSo frame (IsInOriginal pages places) files → AreFilesIn pages frame tables.filesets number files
    files_of_original entry there places at files all =
        let directory = directory_at number (slot.Original entry) there entry.first_tag refl places at in
        files_in pages frame tables.filesets number (slot.Original entry) there (IsInOriginal pages places)
        (λ tag cells seen. (original_to pages entry places directory tag cells seen, original_from pages entry places directory tag cells seen)) files all

    pub files_of_clone : (of clone : ℕ) (entry original : FilesetEntry) → slice_get tables.filesets.slots number ≡ Some (slot.Clone of clone entry) → slice_get tables.filesets.slots of ≡ Some (slot.Original original)
        → (own behind : List TagPlace) → slice_get tables.tags.items number ≡ Some own → slice_get tables.tags.items of ≡ Some behind
        → (files : List FileThere) → AreAllSo frame (IsInClone pages own behind clone) files → AreFilesIn pages frame tables.filesets number files
    files_of_clone of clone entry original there there_behind own behind at at_behind files all =
        let directory = directory_at number (slot.Clone of clone entry) there entry.first_tag refl own at in
        let directory_behind = directory_at of (slot.Original original) there_behind original.first_tag refl behind at_behind in
        let entry_is : option_and_then fileset_of (slice_get tables.filesets.slots of) ≡ Some original = ap (option_and_then fileset_of) there_behind in
        files_in pages frame tables.filesets number (slot.Clone of clone entry) there (IsInClone pages own behind clone)
        (λ tag cells seen. (
          (λ is. subst (λ o. IsSomeAnd o (λ (e : FilesetEntry). rule.IsInClone pages entry e clone tag cells seen)) (sym entry_is) (clone_to pages entry original own behind directory directory_behind clone tag cells seen is)),
          (λ is. clone_from pages entry original own behind directory directory_behind clone tag cells seen (subst (λ o. IsSomeAnd o (λ (e : FilesetEntry). rule.IsInClone pages entry e clone tag cells seen)) entry_is is)),
        )) files all
