-- Pages in which all is found so that no rule asks may be attached.
use Rattle.std.proofs.Common.{◌≡◌, ◌∙◌, ℕ, ◌<◌, ◌≤◌, Bool, true, false, List, [], Option, Some, None, length, slice_get, refl, sym, ap, subst, arith, ⊎_elim}
use Rattle.std.proofs.lemmas.Option.{slice_get_cases}
use Rattle.no_faults.specs.domain_base.Limits.{file_pages}
use Rattle.no_faults.specs.domain_base.Version.{most_pages}
use Rattle.no_faults.specs.domain_base.declared.place.CellAt.{CellAt}
use Rattle.no_faults.specs.domain_base.declared.place.Home.{Home}
use Rattle.no_faults.specs.domain_base.declared.place.Kind.TheVariants.{Directory}
use Rattle.no_faults.specs.domain_base.declared.place.Tag.{Tag}
use Rattle.no_faults.specs.page_store.Pages.{Pages}
use Rattle.no_faults.specs.metadata_cells.Cell.{Cell}
use Rattle.no_faults.specs.metadata_cells.Chain.{LinksFrom, PlacedCell, StandsAt}
use Rattle.no_faults.specs.tag_dirs.Directory.{IsDirectoryAt, cell_of}
use Rattle.no_faults.specs.tag_dirs.declared.dir.TagPlace.{TagPlace}
use Rattle.no_faults.proofs.OfTagDirs.Reading.{same_directory}
use Rattle.no_faults.specs.fileset_files.Files.{keep_of}
use Rattle.no_faults.specs.fileset_table.Table.{Table}
use Rattle.no_faults.specs.fileset_table.declared.slot.FilesetEntry.{FilesetEntry}
use Rattle.no_faults.specs.fileset_table.declared.slot.SlotItem.{SlotItem}
use Rattle.no_faults.specs.fileset_table.declared.slot.SlotItem.TheVariants as slot
use Rattle.no_faults.specs.log_recovery.Range.{IsLogInside}
use Rattle.no_faults.specs.log_ring.Homes.{IsMember, member_of}
use Rattle.no_faults.specs.domain_standing.Marks.{HasBitmaps}
use Rattle.no_faults.specs.domain_standing.Keeping.{KeepDirectories}
use Rattle.no_faults.specs.domain_layout.CellRules.{of_clone}
use Rattle.no_faults.specs.domain_layout.DirectoryRules.{Has, IsInItem, IsInOriginal}
use Rattle.no_faults.specs.domain_layout.Layout.{AreTagPlaces, IsLayout, Layout, first_tag_of}
use Rattle.no_faults.specs.domain_layout.Reached.{Frame, IsWithin}
use Rattle.no_faults.specs.domain_layout.Seen.{SeenFile}
use Rattle.no_faults.proofs.OfDomainLayout.OnePage.{one_of, some_same}
use Rattle.no_faults.specs.filesets_reading.Tables.{AreTablesOf}
use Rattle.no_faults.specs.filesets_reading.declared.tables.DomainTables.{DomainTables}
use Rattle.no_faults.specs.fileset_shapes.Files.{IsWhole}
use Rattle.no_faults.specs.fileset_shapes.Shapes.{IsDomain}
use Rattle.no_faults.proofs.OfFilesetShapes.SeenShapes.{whole}
use Rattle.no_faults.specs.Attached.{TagsStay}
use Rattle.attached_domain.specs.Read.{MayBeAttached}
use Rattle.attached_domain.specs.Causes.{MayBeRead}
use Rattle.attached_domain.specs.Fits.{Fits}
use Rattle.attached_domain.specs.Signs.{SlotSays, asks, say}
use Rattle.attached_domain.specs.declared.signs.Sign.{Sign}
use Rattle.attached_domain.specs.declared.signs.Sign.TheVariants.{Cut, Removed}
use Rattle.attached_domain.proofs.Kept.{keeps_all}
use Rattle.attached_domain.proofs.Looked.{good_table}

none_some : {X : Type 0} {P : Type 0} (x : X) → None ≡ Some x → P
none_some x is = absurd (let e : None ≡ Some x = is in cc)

no_bool : {P : Type 0} → false ≡ true → P
no_bool is = absurd (let e : false ≡ true = is in cc)

-- the pages of a tag directory if something is in the slot, and none if the table has no such
-- slot
abbrev pub tags_if : Option SlotItem → List TagPlace → List TagPlace
tags_if None places = []
tags_if (Some item) places = places

abbrev pub with_tags : Layout → Layout
with_tags layout = record layout { tags = λ number. tags_if (slice_get layout.table.slots number) (layout.tags number) }

pub laid_so : (pages : Pages) (layout : Layout) → IsLayout pages layout → IsLayout pages (with_tags layout)
laid_so pages layout laid = record {
  version = laid.version;
  table = laid.table;
  cells = laid.cells;
  tags = λ number item there. subst (AreTagPlaces pages (first_tag_of item)) (sym (ap (λ o. tags_if o (layout.tags number)) there)) (laid.tags number item there);
}

pub none_so : (layout : Layout) (number : ℕ) → slice_get layout.table.slots number ≡ None → (with_tags layout).tags number ≡ []
none_so layout number none = ap (λ o. tags_if o (layout.tags number)) none

module _ (pages : Pages) (frame : Frame) (may : MayBeRead pages frame) (tables : DomainTables) (are : AreTablesOf pages frame tables) where
  abbrev pub layout_so : Layout
  layout_so = with_tags are.layout

  abbrev pub domain_read : IsDomain pages frame tables
  domain_read = record { tables_are = are; no_fault = may.no_fault; all = may.all }

  -- a sign is looked for in what is in a slot
  abbrev IsAsked : Sign → ℕ → Type 0
  IsAsked sign number = (item : SlotItem) → slice_get are.layout.table.slots number ≡ Some item → asks sign item ≡ true

  module _ (fits : Fits pages layout_so tables) where
    -- the directory of a slot of the table is one of those that were read
    says_there : (sign : Sign) (number : ℕ) → IsAsked sign number → (item : SlotItem) → number < length are.layout.table.slots → slice_get are.layout.table.slots number ≡ Some item
        → (tag : Tag) (at : CellAt) (cell : Cell) → cell_of pages (layout_so.tags number) tag ≡ Some at → StandsAt pages at cell → say sign cell.records ≡ true → SlotSays pages sign tables
    says_there sign number asked item within there tag at cell leads stands says =
        let whole = (good_table pages are.layout are.laid).whole in
        let below : number < 32 = omega (arith, within, whole) in
        ⊎_elim (λ places.
        let same : layout_so.tags number ≡ places.0 = ap (λ o. tags_if o (are.layout.tags number)) there ∙ are.tags number places.0 places.2 in (
          number,
          below,
          record {
            item = item;
            is = subst (λ (t : Table). slice_get t.slots number ≡ Some item) are.table there;
            places = places.0;
            there = places.2;
            says = (
              asked item there,
              (tag, record { at = at; leads = subst (λ (ps : List TagPlace). cell_of pages ps tag ≡ Some at) same leads; says = record { cell = cell; stands = stands; says = says } }),
            );
          },
        ))
        (λ none. absurd (let all = are.all in omega (arith, none.0, all, below)))
        (slice_get_cases tables.tags.items number).1

    -- so if a tag of the layout leads to a cell that says so, one of those does
    slot_says : (sign : Sign) (number : ℕ) → IsAsked sign number → (tag : Tag) (at : CellAt) (cell : Cell) → cell_of pages (layout_so.tags number) tag ≡ Some at → StandsAt pages at cell
        → say sign cell.records ≡ true → SlotSays pages sign tables
    slot_says sign number asked tag at cell leads stands says =
        ⊎_elim (λ item. says_there sign number asked item.0 item.1 item.2 tag at cell leads stands says)
        (λ none. none_some at (sym (ap (λ (ps : List TagPlace). cell_of pages ps tag) (none_so are.layout number none.1)) ∙ leads))
        (slice_get_cases are.layout.table.slots number).1

    says_not : (sign : Sign) → (SlotSays pages sign tables → ⊥) → (number : ℕ) → IsAsked sign number → (tag : Tag) (at : CellAt) (cell : Cell)
        → cell_of pages (layout_so.tags number) tag ≡ Some at → StandsAt pages at cell → say sign cell.records ≡ false
    says_not sign none number asked tag at cell leads stands = by_test (say sign cell.records) refl
      where
        by_test : (b : Bool) → say sign cell.records ≡ b → b ≡ false
        by_test true is = absurd (none (slot_says sign number asked tag at cell leads stands is))
        by_test false is = refl

    stay : TagsStay pages layout_so.tags
    stay = λ number tag at cell leads stands. says_not Removed fits.stay number (λ item there. refl) tag at cell leads stands

    -- ---- directories

    kept_there : (number : ℕ) (entry : FilesetEntry) → slice_get are.layout.table.slots number ≡ Some (slot.Original entry) → (tag : Tag) (cells : List PlacedCell) (seen : SeenFile)
        → IsInOriginal pages entry tag cells seen → seen.is.kind ≡ Directory → keep_of cells ≡ Some file_pages
    kept_there number entry there tag cells seen is directory =
        let leads = one_of (cell_of pages is.there.places tag) (λ at. LinksFrom pages at cells) is.there.leads in
        let own : IsDirectoryAt pages entry.first_tag (are.layout.tags number) = are.laid.tags number (slot.Original entry) there in
        let same : is.there.places ≡ layout_so.tags number = same_directory pages entry.first_tag is.there.places (are.layout.tags number) is.there.directory own ∙ sym (ap (λ o. tags_if o (are.layout.tags number)) there) in
        keeps_all pages leads.value cells seen leads.is is.is directory
        (λ cell stands. says_not Cut fits.keep number (λ item is. ap (asks Cut) (some_same item (slot.Original entry) (sym is ∙ there))) tag leads.value cell (subst (λ (ps : List TagPlace). cell_of pages ps tag ≡ Some leads.value) same leads.there) stands)

    keep_at : (number : ℕ) (tag : Tag) (cells : List PlacedCell) (seen : SeenFile) → Has pages are.layout.table number tag cells seen → seen.is.kind ≡ Directory → keep_of cells ≡ Some file_pages
    keep_at number tag cells seen has directory = by_item has.item has.there has.is
      where
        by_item : (item : SlotItem) → slice_get are.layout.table.slots number ≡ Some item → IsInItem pages are.layout.table item tag cells seen → keep_of cells ≡ Some file_pages
        by_item slot.Free there is = absurd is
        by_item (slot.Removed first_tag quota) there is = absurd is
        by_item (slot.Original entry) there is = kept_there number entry there tag cells seen is directory
        by_item (slot.Clone of clone entry) there is = no_bool (sym (fits.no_clone number) ∙ ap of_clone there)

    keep : (number : ℕ) → KeepDirectories pages are.layout.table number
    keep = keep_at

    -- ---- all of it

    whole_so : IsWhole pages layout_so
    whole_so =
        let is = whole pages frame tables domain_read in
        record { laid = laid_so pages are.layout are.laid; no_fault = is.no_fault; small = is.small; all = is.all }

    pub may_attach : MayBeAttached pages layout_so
    may_attach =
        let back = sym are.is in
        record {
          whole = whole_so;
          log = subst (λ (f : Frame). IsLogInside f.version f.anchor) back may.log;
          few = subst (λ (f : Frame). (vol : ℕ) → IsMember f.anchor vol → (member_of f.anchor vol).pages ≤ most_pages f.version) back may.few;
          within = subst (λ (f : Frame). (home : Home) → f.anchor.table ≡ Some home → IsWithin f home) back may.within;
          bitmaps = subst (HasBitmaps pages) back may.bitmaps;
          sources = fits.sources;
          stay = stay;
          quotas = fits.quotas;
          keep = keep;
          no_clone = fits.no_clone;
        }
