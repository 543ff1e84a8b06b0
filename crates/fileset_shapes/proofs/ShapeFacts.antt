-- Where no rule is broken: what the shape of a fileset has at a tag.
use Rattle.std.proofs.Common.{◌≡◌, ◌∙◌, ◌⊎◌, inl, inr, ℕ, ◌≤◌, Bool, true, false, cond, List, [], ◌∷◌, Option, Some, None, IfSome, IsSomeAnd, refl, sym, ap, subst, ⊎_elim}
use Rattle.std.specs.Prelude.{map, slice_get}
use Rattle.std.specs.Option.{option_and_then}
use Rattle.filesets_reading.specs.domain_base.Limits.{max_links}
use Rattle.filesets_reading.specs.domain_base.declared.place.CellAt.{CellAt}
use Rattle.filesets_reading.specs.domain_base.declared.place.Home.{Home}
use Rattle.filesets_reading.specs.domain_base.declared.place.Kind.{Kind}
use Rattle.filesets_reading.specs.domain_base.declared.place.Kind.TheVariants.{Directory, File}
use Rattle.filesets_reading.specs.domain_base.declared.place.Tag.{Tag}
use Rattle.filesets_reading.specs.page_store.Bitfiles.{Bitfile, shown_index}
use Rattle.filesets_reading.specs.page_store.Pages.{Pages}
use Rattle.filesets_reading.specs.cell_records.Records.{Allowed}
use Rattle.filesets_reading.specs.cell_records.declared.record.Record.{Record}
use Rattle.filesets_reading.specs.cell_records.declared.record.Record.TheVariants as written
use Rattle.filesets_reading.specs.metadata_cells.Cell.{record_of}
use Rattle.filesets_reading.specs.metadata_cells.CellPage.{home_of}
use Rattle.filesets_reading.specs.metadata_cells.Chain.{LinksFrom, PlacedCell}
use Rattle.filesets_reading.specs.tag_dirs.Directory.{cell_of}
use Rattle.filesets_reading.specs.file_chains.Files.{AreFile}
use Rattle.filesets_reading.proofs.OfFilesetFiles.Room.{allowed_found}
use Rattle.filesets_reading.specs.fileset_files.Files.{LeadsToFile, attributes_in, attributes_of, is_removed, of_live}
use Rattle.filesets_reading.specs.fileset_files.Shown.{AreIndexPages, IsWhat, ShowsAt, ShowsFile, index_in, shown_page}
use Rattle.filesets_reading.specs.fileset_files.declared.attributes.Attributes.{Attributes}
use Rattle.filesets_reading.specs.fileset_table.Table.{Table, entry_of}
use Rattle.filesets_reading.specs.fileset_table.declared.slot.FilesetEntry.{FilesetEntry}
use Rattle.filesets_reading.specs.fileset_table.declared.slot.SlotItem.{SlotItem}
use Rattle.filesets_reading.specs.fileset_table.declared.slot.SlotItem.TheVariants as slot
use Rattle.filesets_reading.specs.domain_layout.DirectoryRules.{AreReadPages, Has, HasIndex, HasIndexAt, IsFirstHome, IsInClone, IsInItem, IsInOriginal, IsNotThere, IsThere, total_in}
use Rattle.filesets_reading.specs.domain_layout.Layout.{Layout}
use Rattle.filesets_reading.specs.domain_layout.Owners.{frame_of}
use Rattle.filesets_reading.specs.domain_layout.Reached.{IsUnread, MayBe, index_way}
use Rattle.filesets_reading.specs.domain_layout.Seen.{IsOfClone, IsOwn, IsOwnUnless, SeenFile, seen_in, seen_through}
use Rattle.filesets_reading.proofs.OfDomainLayout.OneShape.{own_same}
use Rattle.filesets_reading.proofs.OfDomainLayout.There.{chain_is, chain_none, is_there}
use Rattle.filesets_reading.specs.domain_layout.Shape.{FilesetShape, IsClone, IsOriginal, IsSameSeen, IsShapeOf, ShowsSeen, ShowsSeenAt, shown_at}
use Rattle.filesets_reading.specs.domain_layout.TagRules.{HasTags}
use Rattle.filesets_reading.proofs.OfDomainLayout.OnePage.{HasOne, one_of, some_same}
use Rattle.fileset_shapes.specs.declared.files.FilesetFiles.{FilesetFiles}
use Rattle.fileset_shapes.specs.Files.{AreClones, IsWhole}
use Rattle.fileset_shapes.specs.Indexes.{IsReadIndex}
use Rattle.fileset_shapes.proofs.IndexPages.{read_index}
use Rattle.fileset_shapes.proofs.OriginalFiles.{FileOf, Kept, file_of, home_there, kept, none_shown, none_some, original_may, whole_index}
use Rattle.fileset_shapes.proofs.ReadClones.{clone_file}

no_pages : (pages : Pages) (list : List (List ℕ)) → AreIndexPages pages None list → list ≡ []
no_pages pages [] are = refl
no_pages pages (page ∷ more) are = absurd are

-- ---- one file

-- the cells of a file have a first one
links_first : (pages : Pages) (at : CellAt) (cells : List PlacedCell) → LinksFrom pages at cells → (home : Home) × IsFirstHome cells home
links_first pages at [] links = absurd links
links_first pages at (first ∷ rest) links = (home_of first.at, refl)

there_first : (pages : Pages) (entry : FilesetEntry) (tag : Tag) (cells : List PlacedCell) → IsThere pages entry tag cells → (home : Home) × IsFirstHome cells home
there_first pages entry tag cells is = by_cell (cell_of pages is.places tag) is.leads
  where
    by_cell : (o : Option CellAt) → IsSomeAnd o (λ at. LinksFrom pages at cells) → (home : Home) × IsFirstHome cells home
    by_cell None links = absurd links
    by_cell (Some at) links = links_first pages at cells links

-- each file that a fileset has has a first cell
pub has_first : (pages : Pages) (table : Table) (number : ℕ) (tag : Tag) (cells : List PlacedCell) (seen : SeenFile) → Has pages table number tag cells seen → (home : Home) × IsFirstHome cells home
has_first pages table number tag cells seen has = by_item has.item has.is
  where
    by_entry : (of clone : ℕ) (entry : FilesetEntry) (o : Option FilesetEntry) → IsSomeAnd o (λ original. IsInClone pages entry original clone tag cells seen) → (home : Home) × IsFirstHome cells home
    by_entry of clone entry None is = absurd is
    by_entry of clone entry (Some original) is = ⊎_elim (λ own. there_first pages entry tag cells own.0) (λ behind. there_first pages original tag cells behind.1) is.is

    by_item : (item : SlotItem) → IsInItem pages table item tag cells seen → (home : Home) × IsFirstHome cells home
    by_item slot.Free is = absurd is
    by_item (slot.Removed first_tag quota) is = absurd is
    by_item (slot.Original entry) is = there_first pages entry tag cells is.there
    by_item (slot.Clone of clone entry) is = by_entry of clone entry (option_and_then entry_of (slice_get table.slots of)) is

-- how many links attributes may say
links_in : (r : Record) (is : Attributes) → Allowed r → attributes_in r ≡ Some is → (1 ≤ is.links) × (is.links ≤ max_links)
unfolding Allowed
links_in (written.Attributes kind uid gid flags size keep links birth unsynced) is allowed said =
    let same : links ≡ is.links = ap (λ (a : Attributes). a.links) (some_same _ is said) in
    (subst (λ n. 1 ≤ n) same allowed.6.0, subst (λ n. n ≤ 1000) same allowed.6.1)
links_in _ is allowed said = none_some is said

-- the links of a file
file_links : (pages : Pages) (first : PlacedCell) (rest : List PlacedCell) → AreFile pages first rest → (is : Attributes) → attributes_of (first ∷ rest) ≡ Some is → (1 ≤ is.links) × (is.links ≤ max_links)
file_links pages first rest file is said = by_record (record_of 1 first.cell.records) refl said
  where
    by_record : (o : Option Record) → record_of 1 first.cell.records ≡ o → option_and_then attributes_in o ≡ Some is → (1 ≤ is.links) × (is.links ≤ max_links)
    by_record None at said = none_some is said
    by_record (Some r) at said = links_in r is (allowed_found 1 first.cell.records r at file.links.stands.is.well_formed.allowed) said

module _ (pages : Pages) (layout : Layout) (whole : IsWhole pages layout) where
  -- a file or directory of a shape: its cells say it, its pages stand where they may, and a set
  -- shows it, a directory with what stands at its homes
  pub record IsThereAs (number : ℕ) (shape : FilesetShape) (tag : Tag) (seen : SeenFile) : Type 0 where
    pub first : PlacedCell
    pub rest : List PlacedCell
    pub has : Has pages layout.table number tag (first ∷ rest) seen
    pub may : (page : ℕ) (home : Home) → seen.homes page ≡ Some home → MayBe (frame_of layout) home
    pub file : Bitfile
    pub shown : shape.shown tag ≡ Some file
    pub links : (1 ≤ seen.is.links) × (seen.is.links ≤ max_links)
    pub what : IsWhat file seen.is
    pub each : (page : ℕ) → slice_get file.pages page ≡ shown_at pages seen seen.is.kind page

  -- ---- an original

  module _ (number : ℕ) (entry : FilesetEntry) (there : slice_get layout.table.slots number ≡ Some (slot.Original entry)) (shape : FilesetShape) (is : IsOriginal pages number entry shape) where
    has_tags : HasTags layout.table number entry.first_tag
    has_tags = record { item = slot.Original entry; there = there; has = refl }

    leads_there : (tag : Tag) (cells : List PlacedCell) → is.chains tag ≡ Some cells → LeadsToFile number is.has.places pages tag cells
    leads_there tag cells at = subst (λ o. IfSome o (LeadsToFile number is.has.places pages tag)) at (is.has.files.some tag)

    -- the cells of a file
    record CellsOf (tag : Tag) (seen : SeenFile) : Type 0 where
      first : PlacedCell
      rest : List PlacedCell
      at : is.chains tag ≡ Some (first ∷ rest)
      in_cells : seen_in (first ∷ rest) ≡ Some seen
      of : FileOf pages layout whole.laid whole.no_fault number tag first rest

    cells_of : (tag : Tag) (seen : SeenFile) → shape.files tag ≡ Some seen → CellsOf tag seen
    cells_of tag seen sees = by_chain (is.chains tag) refl (sym (is.files tag) ∙ sees)
      where
        by_chain : (o : Option (List PlacedCell)) → is.chains tag ≡ o → option_and_then seen_in o ≡ Some seen → CellsOf tag seen
        by_chain None at sees = none_some seen sees
        by_chain (Some []) at sees = absurd (leads_there tag [] at).is_of
        by_chain (Some (first ∷ rest)) at sees = record {
          first = first;
          rest = rest;
          at = at;
          in_cells = sees;
          of = file_of pages layout whole.laid whole.no_fault number entry.first_tag has_tags is.has.places is.has.directory is.chains is.has.files tag first rest at;
        }

    -- what a set shows of it
    record ShownOf (tag : Tag) (cells : List PlacedCell) : Type 0 where
      file : Bitfile
      shown : shape.shown tag ≡ Some file
      shows : ShowsFile pages cells file

    shown_of : (tag : Tag) (cells : List PlacedCell) → is.chains tag ≡ Some cells → is_removed cells ≡ false → (what : Attributes) → attributes_of cells ≡ Some what → ShownOf tag cells
    shown_of tag cells at live what said = by_file (shape.shown tag) refl (subst (λ o. ShowsAt pages o (shape.shown tag)) at (is.shown tag))
      where
        by_file : (o : Option Bitfile) → shape.shown tag ≡ o → ShowsAt pages (Some cells) o → ShownOf tag cells
        by_file None none shows = none_some what (sym shows ∙ ap (λ b. cond b None (attributes_of cells)) live ∙ said)
        by_file (Some file) shown shows = record { file = file; shown = shown; shows = subst (λ b. IsSomeAnd (cond b None (Some cells)) (λ c. ShowsFile pages c file)) live shows }

    there_of : (tag : Tag) (seen : SeenFile) → CellsOf tag seen → IsThereAs number shape tag seen
    there_of tag seen c =
        let k = kept (c.first ∷ c.rest) seen c.in_cells in
        let s = shown_of tag (c.first ∷ c.rest) c.at k.live seen.is k.what in
        let what : IsWhat s.file seen.is = subst (λ o. IsSomeAnd o (IsWhat s.file)) k.what s.shows.what in
        let has : Has pages layout.table number tag (c.first ∷ c.rest) seen =
        record {
          item = slot.Original entry;
          there = there;
          is = record { there = is_there pages number entry is.chains is.has tag (c.first ∷ c.rest) c.at; is = c.in_cells };
        } in
        record {
          first = c.first;
          rest = c.rest;
          has = has;
          may = original_may pages layout whole.laid whole.no_fault number tag c.first c.rest c.of seen c.in_cells;
          file = s.file;
          shown = s.shown;
          links = file_links pages c.first c.rest c.of.file seen.is k.what;
          what = what;
          each = λ page. s.shows.each page ∙ ap (λ k'. shown_page pages (c.first ∷ c.rest) k' page) what.kind ∙ by_kind c has page seen.is.kind refl;
        }
      where
        by_kind : (c : CellsOf tag seen) → Has pages layout.table number tag (c.first ∷ c.rest) seen → (page : ℕ) (of : Kind) → seen.is.kind ≡ of → shown_page pages (c.first ∷ c.rest) of page ≡ shown_at pages seen of page
        by_kind c has page File kind = refl
        by_kind c has page Directory kind = sym (home_there pages layout whole.laid whole.no_fault number tag c.first c.rest c.of seen c.in_cells has kind page)

    pub original_there : (tag : Tag) (seen : SeenFile) → shape.files tag ≡ Some seen → IsThereAs number shape tag seen
    original_there tag seen sees = there_of tag seen (cells_of tag seen sees)

    -- the index of a file, all of whose pages are read, as a set shows it
    pub record IndexOf (tag : Tag) (seen : SeenFile) (list : List (List ℕ)) : Type 0 where
      pub first : Home
      pub total : ℕ
      pub has : HasIndex pages layout.table number tag seen first total
      pub named : ¬ ¬ ((at : CellAt) × HasIndexAt pages (frame_of layout) at first)
      pub none_unread : (home : Home) → ¬ IsUnread pages (frame_of layout) (index_way first) home
      pub index : List (List ℕ)
      pub read : AreReadPages pages (frame_of layout) first index
      pub shown : list ≡ map shown_index index

    -- what the fileset has is in its shape
    pub original_only : (tag : Tag) (cells : List PlacedCell) (seen : SeenFile) → Has pages layout.table number tag cells seen → IsSomeAnd (shape.files tag) (λ also. IsSameSeen also seen)
    original_only tag cells seen has = subst (λ o. IsSomeAnd o (λ (also : SeenFile). IsSameSeen also seen)) (sym (is.files tag ∙ ap (option_and_then seen_in) at ∙ in_original.is)) (record { is = refl; homes = λ page. refl })
      where
        in_original : IsInOriginal pages entry tag cells seen
        in_original = subst (λ item. IsInItem pages layout.table item tag cells seen) (some_same has.item (slot.Original entry) (sym has.there ∙ there)) has.is

        at : is.chains tag ≡ Some cells
        at = chain_is pages number entry is.chains is.has tag cells in_original.there

    pub original_absent : (tag : Tag) → shape.files tag ≡ None → shape.shown tag ≡ None
    original_absent tag none = by_file (shape.shown tag) refl (is.shown tag)
      where
        by_live : (cells : List PlacedCell) (file : Bitfile) → seen_in cells ≡ None → IsSomeAnd (of_live Some cells) (λ live. ShowsFile pages live file) → ⊥
        by_live cells file none shows = by_removed (is_removed cells) refl shows (none_shown (Some cells) none)
          where
            by_removed : (b : Bool) → is_removed cells ≡ b → IsSomeAnd (cond b None (Some cells)) (λ live. ShowsFile pages live file) → cond b None (attributes_of cells) ≡ None → ⊥
            by_removed true gone shows none = shows
            by_removed false live shows none = subst (λ o. IsSomeAnd o (IsWhat file)) none shows.what

        by_chain : (o : Option (List PlacedCell)) (file : Bitfile) → option_and_then seen_in o ≡ None → ShowsAt pages o (Some file) → ⊥
        by_chain None file none shows = shows
        by_chain (Some cells) file none shows = by_live cells file none shows

        by_file : (o : Option Bitfile) → shape.shown tag ≡ o → ShowsAt pages (is.chains tag) o → o ≡ None
        by_file None shown shows = refl
        by_file (Some file) shown shows = absurd (by_chain (is.chains tag) file (sym (is.files tag) ∙ none) shows)

    pub index_there : (tag : Tag) (seen : SeenFile) → shape.files tag ≡ Some seen → (file : Bitfile) → shape.shown tag ≡ Some file → (file.index ≡ []) ⊎ IndexOf tag seen file.index
    unfolding there_of
    index_there tag seen sees file shown = of_cells (cells_of tag seen sees)
      where
        of_cells : CellsOf tag seen → (file.index ≡ []) ⊎ IndexOf tag seen file.index
        of_cells c = by_record (record_of 9 c.first.cell.records) refl (whole_index pages layout whole.laid whole.no_fault number tag c.first c.rest c.of) shows.index
          where
            k : Kept (c.first ∷ c.rest) seen
            k = kept (c.first ∷ c.rest) seen c.in_cells

            shows : ShowsFile pages (c.first ∷ c.rest) file
            shows = subst (λ b. IsSomeAnd (cond b None (Some (c.first ∷ c.rest))) (λ cells. ShowsFile pages cells file)) (kept (c.first ∷ c.rest) seen c.in_cells).live
                (subst (λ o. ShowsAt pages o (Some file)) c.at (subst (ShowsAt pages (is.chains tag)) shown (is.shown tag)))

            found : (value : Record) → record_of 9 c.first.cell.records ≡ Some value → (first : Home) → index_in value ≡ Some first → IsReadIndex pages (frame_of layout) first → AreIndexPages pages (Some first) file.index → IndexOf tag seen file.index
            found value at first begins_at index are =
                let read = read_index pages (frame_of layout) first index file.index are in
                record {
                  first = first;
                  total = total_in value;
                  has = record {
                    cells = c.first ∷ c.rest;
                    has = (there_of tag seen c).has;
                    value = value;
                    there = at;
                    begins = begins_at;
                    entries = refl;
                  };
                  named = λ away. c.of.named (λ f.
                      away (c.first.at, record { cell = c.first.cell; is = record { place = f.place; stands = c.of.file.links.stands }; value = value; there = at; begins = begins_at }));
                  none_unread = index.read;
                  index = read.index;
                  read = read.read;
                  shown = read.shown;
                }

            by_home : (value : Record) → record_of 9 c.first.cell.records ≡ Some value → (o : Option Home) → index_in value ≡ o → IfSome o (IsReadIndex pages (frame_of layout)) → AreIndexPages pages o file.index → (file.index ≡ []) ⊎ IndexOf tag seen file.index
            by_home value at None none index are = inl (no_pages pages file.index are)
            by_home value at (Some first) begins_at index are = inr (found value at first begins_at index are)

            by_record : (o : Option Record) → record_of 9 c.first.cell.records ≡ o → IfSome (option_and_then index_in o) (IsReadIndex pages (frame_of layout)) → AreIndexPages pages (option_and_then index_in o) file.index → (file.index ≡ []) ⊎ IndexOf tag seen file.index
            by_record None none index are = inl (no_pages pages file.index are)
            by_record (Some value) at index are = by_home value at (index_in value) refl index are

  -- ---- a clone

  module _ (number of clone : ℕ) (entry original : FilesetEntry) (there : slice_get layout.table.slots number ≡ Some (slot.Clone of clone entry)) (item : SlotItem) (behind : slice_get layout.table.slots of ≡ Some item)
      (is_behind : entry_of item ≡ Some original) (shape : FilesetShape) (is : IsClone pages number of entry original clone shape) where
    abbrev own : FilesetFiles
    own = record { tags = is.has.places; files = record { fileset = number; tags = is.has.places } }

    abbrev through : FilesetFiles
    through = record { tags = is.has_behind.places; files = record { fileset = of; tags = is.has_behind.places } }

    abbrev clones : AreClones pages own through clone
    clones = record {
      layout = layout;
      whole = whole;
      entry = entry;
      original = original;
      there = there;
      item = item;
      there_behind = behind;
      original_is = is_behind;
      own_files = record { are = record { same = refl; has = (is.chains, is.has.files) }; directory = is.has.directory };
      behind_files = record { are = record { same = refl; has = (is.behind, is.has_behind.files) }; directory = is.has_behind.directory };
    }

    pub clone_there : (tag : Tag) (seen : SeenFile) → shape.files tag ≡ Some seen → IsThereAs number shape tag seen
    clone_there tag seen sees =
        let c = clone_file pages own through clone clones tag is.chains is.behind is.has.files is.has_behind.files seen (subst (IsOfClone pages clone (is.chains tag) (is.behind tag)) sees (is.files tag)) in
        let s : HasOne (shape.shown tag) (ShowsSeen pages seen) = one_of (shape.shown tag) (ShowsSeen pages seen) (subst (λ o. ShowsSeenAt pages o (shape.shown tag)) sees (is.shown tag)) in
        record {
          first = c.first;
          rest = c.rest;
          has = c.has;
          may = c.may;
          file = s.value;
          shown = s.there;
          links = file_links pages c.first c.rest c.file seen.is c.what;
          what = s.is.what;
          each = λ page. s.is.each page ∙ ap (λ k. shown_at pages seen k page) s.is.what.kind;
        }

    pub clone_only : (tag : Tag) (cells : List PlacedCell) (seen : SeenFile) → Has pages layout.table number tag cells seen → IsSomeAnd (shape.files tag) (λ also. IsSameSeen also seen)
    clone_only tag cells seen has = ⊎_elim by_own by_behind in_clone.is
      where
        in_item : IsInItem pages layout.table (slot.Clone of clone entry) tag cells seen
        in_item = subst (λ i. IsInItem pages layout.table i tag cells seen) (some_same has.item (slot.Clone of clone entry) (sym has.there ∙ there)) has.is

        in_clone : IsInClone pages entry original clone tag cells seen
        in_clone = subst (λ o. IsSomeAnd o (λ (e : FilesetEntry). IsInClone pages entry e clone tag cells seen)) (ap (option_and_then entry_of) behind ∙ is_behind) in_item

        same_own : (o : Option SeenFile) → IsSomeAnd o (IsOwn pages cells) → IsOwn pages cells seen → IsSomeAnd o (λ (also : SeenFile). IsSameSeen also seen)
        same_own None also is_own = absurd also
        same_own (Some also) own_also is_own = own_same pages cells also seen own_also is_own

        by_own : IsThere pages entry tag cells × (is_removed cells ≡ false) × IsOwn pages cells seen → IsSomeAnd (shape.files tag) (λ (also : SeenFile). IsSameSeen also seen)
        by_own (here, live, is_own) =
            let at : is.chains tag ≡ Some cells = chain_is pages number entry is.chains is.has tag cells here in
            same_own (shape.files tag)
            (subst (λ b. IsOwnUnless b pages cells (shape.files tag)) live (subst (λ o. IsOfClone pages clone o (is.behind tag) (shape.files tag)) at (is.files tag))) is_own

        by_behind : IsNotThere pages entry tag × IsThere pages original tag cells × (seen_through clone cells ≡ Some seen) → IsSomeAnd (shape.files tag) (λ (also : SeenFile). IsSameSeen also seen)
        by_behind (not_here, here, is_through) =
            let none : is.chains tag ≡ None = chain_none pages number entry is.chains is.has tag not_here in
            let at : is.behind tag ≡ Some cells = chain_is pages of original is.behind is.has_behind tag cells here in
            let files : shape.files tag ≡ option_and_then (seen_through clone) (is.behind tag) = subst (λ o. IsOfClone pages clone o (is.behind tag) (shape.files tag)) none (is.files tag) in
            subst (λ o. IsSomeAnd o (λ (also : SeenFile). IsSameSeen also seen)) (sym (files ∙ ap (option_and_then (seen_through clone)) at ∙ is_through)) (record { is = refl; homes = λ page. refl })

    pub clone_absent : (tag : Tag) → shape.files tag ≡ None → shape.shown tag ≡ None
    clone_absent tag none = subst (λ o. ShowsSeenAt pages o (shape.shown tag)) none (is.shown tag)

  -- ---- each fileset

  pub in_cells : (number : ℕ) (item : SlotItem) → slice_get layout.table.slots number ≡ Some item → (shape : FilesetShape) → IsShapeOf pages layout.table number item (Some shape) → (tag : Tag) (seen : SeenFile) → shape.files tag ≡ Some seen → IsThereAs number shape tag seen
  in_cells number slot.Free there shape is tag seen sees = none_some shape (sym is)
  in_cells number (slot.Removed first_tag quota) there shape is tag seen sees = none_some shape (sym is)
  in_cells number (slot.Original entry) there shape is tag seen sees = original_there number entry there shape is tag seen sees
  in_cells number (slot.Clone of clone entry) there shape is tag seen sees = by_item (slice_get layout.table.slots of) refl is
    where
      by_entry : (item : SlotItem) → slice_get layout.table.slots of ≡ Some item → (o : Option FilesetEntry) → entry_of item ≡ o → IsSomeAnd o (λ original. IsClone pages number of entry original clone shape) → IsThereAs number shape tag seen
      by_entry item behind None none is = absurd is
      by_entry item behind (Some original) is_behind is = clone_there number of clone entry original there item behind is_behind shape is tag seen sees

      by_item : (o : Option SlotItem) → slice_get layout.table.slots of ≡ o → IsSomeAnd (option_and_then entry_of o) (λ original. IsClone pages number of entry original clone shape) → IsThereAs number shape tag seen
      by_item None none is = absurd is
      by_item (Some item) behind is = by_entry item behind (entry_of item) refl is
