-- What a set shows of a fileset whose shape was read.
use Rattle.std.proofs.Common.{◌≡◌, ◌∙◌, ◌⊎◌, inl, inr, ℕ, ◌^◌, ◌<◌, List, [], ◌∷◌, Option, Some, None, IsSome, IsSomeAnd, slice_get, refl, sym, ap, subst, ⊎_elim}
use Rattle.std.specs.Option.{option_and_then, option_map, option_map_or}
use Rattle.fileset_shapes.specs.domain_base.declared.place.Kind.TheVariants.{Directory}
use Rattle.fileset_shapes.specs.domain_base.declared.place.Tag.{Tag}
use Rattle.fileset_shapes.specs.page_store.Bitfiles.{Bitfile, IsDirectory}
use Rattle.fileset_shapes.specs.page_store.Pages.{Pages}
use Rattle.fileset_shapes.specs.metadata_cells.Chain.{PlacedCell}
use Rattle.fileset_shapes.specs.directory_pages.Index.{index_pages}
use Rattle.fileset_shapes.specs.fileset_table.Table.{entry_of}
use Rattle.fileset_shapes.specs.fileset_table.declared.slot.FilesetEntry.{FilesetEntry}
use Rattle.fileset_shapes.specs.fileset_table.declared.slot.SlotItem.{SlotItem}
use Rattle.fileset_shapes.specs.fileset_table.declared.slot.SlotItem.TheVariants as slot
use Rattle.fileset_shapes.specs.name_space.Names.{root_tag}
use Rattle.fileset_shapes.specs.domain_layout.DirectoryRules.{Has}
use Rattle.fileset_shapes.specs.domain_layout.Layout.{Layout}
use Rattle.fileset_shapes.specs.domain_layout.Owners.{frame_of}
use Rattle.fileset_shapes.specs.domain_layout.Seen.{SeenFile}
use Rattle.fileset_shapes.specs.domain_layout.Shape.{FilesetShape, IsClone, IsSameSeen, IsShapeOf}
use Rattle.fileset_shapes.proofs.OfDomainLayout.OnePage.{HasOne, one_of, some_same}
use Rattle.fileset_shapes.specs.filesets_reading.Seen.{IsSeenAs, IsSeenThere}
use Rattle.filesets_filled.specs.Showing.{IsShownOf, ShowsFileset, ShowsIndex}
use Rattle.fileset_shapes.specs.Files.{IsWhole}
use Rattle.fileset_shapes.specs.Found.{SeesShape, file_at}
use Rattle.fileset_shapes.specs.declared.found.FilesetSeen.{FilesetSeen}
use Rattle.fileset_shapes.specs.declared.found.TaggedFile.{TaggedFile}
use Rattle.fileset_shapes.proofs.OriginalFiles.{none_some}
use Rattle.fileset_shapes.proofs.Roots.{root_shown}
use Rattle.fileset_shapes.proofs.ShapeFacts.{IsThereAs, clone_absent, clone_only, has_first, in_cells, index_there, original_absent, original_only, original_there}
use Rattle.fileset_shapes.proofs.TaggedFiles.{found_at}

-- ---- each tag

module _ (pages : Pages) (layout : Layout) (whole : IsWhole pages layout) where
  -- the fileset has no file that its shape does not have, and no set shows one
  pub record IsAll (number : ℕ) (shape : FilesetShape) : Type 0 where
    pub only : (tag : Tag) (cells : List PlacedCell) (seen : SeenFile) → Has pages layout.table number tag cells seen → IsSomeAnd (shape.files tag) (λ also. IsSameSeen also seen)
    pub absent : (tag : Tag) → shape.files tag ≡ None → shape.shown tag ≡ None

  is_all : (number : ℕ) (item : SlotItem) → slice_get layout.table.slots number ≡ Some item → (shape : FilesetShape) → IsShapeOf pages layout.table number item (Some shape) → IsAll number shape
  is_all number slot.Free there shape is = none_some shape (sym is)
  is_all number (slot.Removed first_tag quota) there shape is = none_some shape (sym is)
  is_all number (slot.Original entry) there shape is = record { only = original_only pages layout whole number entry there shape is; absent = original_absent pages layout whole number entry there shape is }
  is_all number (slot.Clone of clone entry) there shape is = by_item (slice_get layout.table.slots of) refl is
    where
      by_entry : (item : SlotItem) → slice_get layout.table.slots of ≡ Some item → (o : Option FilesetEntry) → entry_of item ≡ o → IsSomeAnd o (λ original. IsClone pages number of entry original clone shape) → IsAll number shape
      by_entry item behind None none is = absurd is
      by_entry item behind (Some original) is_behind is = record {
        only = clone_only pages layout whole number of clone entry original there item behind is_behind shape is;
        absent = clone_absent pages layout whole number of clone entry original there item behind is_behind shape is;
      }

      by_item : (o : Option SlotItem) → slice_get layout.table.slots of ≡ o → IsSomeAnd (option_and_then entry_of o) (λ original. IsClone pages number of entry original clone shape) → IsAll number shape
      by_item None none is = absurd is
      by_item (Some item) behind is = by_entry item behind (entry_of item) refl is

  -- ---- sequences

  small_seq : (entry : FilesetEntry) (shape : FilesetShape) (found : FilesetSeen) → SeesShape pages entry shape found → (tag : Tag) (seen : SeenFile) → shape.files tag ≡ Some seen → tag.seq < 2 ^ 16
  small_seq entry shape found sees tag seen there = by_file (file_at found.files.items tag) refl (subst (λ o. IsSeenThere o (option_map (λ (file : TaggedFile). file.seen) (file_at found.files.items tag))) there (sees.files tag))
    where
      by_file : (o : Option TaggedFile) → file_at found.files.items tag ≡ o → IsSomeAnd (option_map (λ (file : TaggedFile). file.seen) o) (IsSeenAs seen) → tag.seq < 2 ^ 16
      by_file None none is = absurd is
      by_file (Some file) at is =
          let f = found_at found.files.items tag file at in
          subst (λ (t : Tag). t.seq < 2 ^ 16) f.tag_is (sees.small f.place file f.there)

pub shows_a_fileset : (pages : Pages) (layout : Layout) (number : ℕ) (item : SlotItem) (entry : FilesetEntry) (shape : FilesetShape) (found : FilesetSeen) → IsWhole pages layout → slice_get layout.table.slots number ≡ Some item
    → IsShapeOf pages layout.table number item (Some shape) → SeesShape pages entry shape found → ShowsFileset pages (frame_of layout) layout.table number shape.files shape.shown
shows_a_fileset pages layout number item entry shape found whole there is sees =
    let cells : (tag : Tag) (seen : SeenFile) → shape.files tag ≡ Some seen → IsThereAs pages layout whole number shape tag seen = in_cells pages layout whole number item there shape is in
    let all = is_all pages layout whole number item there shape is in
    record {
      has = λ tag seen at. let c = cells tag seen at in (c.first ∷ c.rest, c.has);
      only = all.only;
      absent = all.absent;
      there = λ tag seen at. let c = cells tag seen at in subst (λ o. IsSomeAnd o (IsShownOf pages seen)) (sym c.shown) (record { what = c.what; each = c.each });
      within = λ tag seen page home at stands. ((cells tag seen at).may page home stands).0;
      first = has_first pages layout.table number;
      seq = small_seq pages layout whole entry shape found sees;
      links = λ tag seen at. (cells tag seen at).links;
    }

-- ---- indexes

pub shows_indexes : (pages : Pages) (layout : Layout) (number : ℕ) (entry : FilesetEntry) (shape : FilesetShape) (dir : Tag) → IsWhole pages layout → slice_get layout.table.slots number ≡ Some (slot.Original entry)
    → IsShapeOf pages layout.table number (slot.Original entry) (Some shape) → IsDirectory shape.shown dir → (index_pages shape.shown dir ≡ []) ⊎ ShowsIndex pages (frame_of layout) layout.table number dir (index_pages shape.shown dir)
shows_indexes pages layout number entry shape dir whole there is directory =
    let file : HasOne (shape.shown dir) (λ (f : Bitfile). f.kind ≡ Directory) = one_of (shape.shown dir) (λ (f : Bitfile). f.kind ≡ Directory) directory in
    by_seen file.value file.there file.is (shape.files dir) refl
  where
    by_seen : (file : Bitfile) → shape.shown dir ≡ Some file → file.kind ≡ Directory → (o : Option SeenFile) → shape.files dir ≡ o
        → (index_pages shape.shown dir ≡ []) ⊎ ShowsIndex pages (frame_of layout) layout.table number dir (index_pages shape.shown dir)
    by_seen file shown kind None none = none_some file (sym (original_absent pages layout whole number entry there shape is dir none) ∙ shown)
    by_seen file shown kind (Some seen) sees =
        let index_is : index_pages shape.shown dir ≡ file.index = ap (λ o. option_map_or (λ (f : Bitfile). f.index) o []) shown in
        let c = original_there pages layout whole number entry there shape is dir seen sees in
        let same : c.file ≡ file = some_same c.file file (sym c.shown ∙ shown) in
        ⊎_elim (λ none. inl (index_is ∙ none))
        (λ index. inr (record {
          cells = index.has.cells;
          seen = seen;
          has = index.has.has;
          kind = sym c.what.kind ∙ ap (λ (f : Bitfile). f.kind) same ∙ kind;
          value = index.has.value;
          there = index.has.there;
          first = index.first;
          begins = index.has.begins;
          named = index.named;
          stored = index.index;
          read = index.read;
          shown_so = index_is ∙ index.shown;
        }))
        (index_there pages layout whole number entry there shape is dir seen sees file shown)

-- ---- the root

pub an_original_has_a_root : (pages : Pages) (layout : Layout) (number : ℕ) (entry : FilesetEntry) (shape : FilesetShape) → IsWhole pages layout → slice_get layout.table.slots number ≡ Some (slot.Original entry)
    → IsShapeOf pages layout.table number (slot.Original entry) (Some shape) → IsSome (shape.shown root_tag)
an_original_has_a_root pages layout number entry shape whole there is = root_shown pages layout whole number entry there shape is
