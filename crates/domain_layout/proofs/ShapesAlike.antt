-- Where no rule is broken: pages that agree on all metadata have the same shapes.
use Rattle.std.proofs.Common.{◌≡◌, ◌∙◌, inl, inr, ℕ, Bool, true, false, cond, nat_lt, List, [], ◌∷◌, ◌++◌, Option, Some, None, IfSome, IsSome, IsSomeAnd, refl, sym, ap, subst}
use Rattle.std.specs.Prelude.{slice_get}
use Rattle.std.specs.Option.{option_and_then, option_map}
use Rattle.file_release.specs.domain_base.declared.place.CellAt.{CellAt}
use Rattle.file_release.specs.domain_base.declared.place.Home.{Home}
use Rattle.file_release.specs.domain_base.declared.place.Kind.{Kind}
use Rattle.file_release.specs.domain_base.declared.place.Kind.TheVariants.{Directory, File}
use Rattle.file_release.specs.domain_base.declared.place.Tag.{Tag}
use Rattle.file_release.specs.page_store.Bitfiles.{Bitfile, shown_index}
use Rattle.file_release.specs.page_store.Pages.{Pages}
use Rattle.file_release.specs.cell_records.declared.record.Record.{Record}
use Rattle.file_release.specs.cell_records.declared.record.Record.TheVariants as written
use Rattle.file_release.specs.metadata_cells.Cell.{record_of}
use Rattle.file_release.specs.metadata_cells.CellPage.{home_of}
use Rattle.file_release.specs.metadata_cells.Chain.{LinksFrom, PlacedCell}
use Rattle.file_release.specs.metadata_cells.declared.head.CellKind.TheVariants as CellKind
use Rattle.file_release.specs.tag_dirs.Directory.{cell_of}
use Rattle.file_release.specs.tag_dirs.TagPage.{next_of}
use Rattle.file_release.specs.extent_maps.declared.run.PagePlace.{PagePlace}
use Rattle.file_release.specs.extent_maps.declared.run.PagePlace.TheVariants.{Absent, At, Hole}
use Rattle.file_release.specs.extent_maps.Runs.{Places, home_at}
use Rattle.file_release.specs.extent_records.Writing.{places_before}
use Rattle.file_release.specs.file_chains.Files.{IsFile, places_of}
use Rattle.file_release.specs.fileset_files.Files.{Chains, LeadsToFile, attributes_in, attributes_of, first_record, is_removed, keep_in, keep_of, of_live}
use Rattle.file_release.specs.fileset_files.Shown.{AreIndexPages, IsWhat, ShowsAt, ShowsFile, index_in, index_of, page_there, shown_page}
use Rattle.file_release.specs.fileset_files.declared.attributes.Attributes.{Attributes}
use Rattle.name_space.specs.fileset_values.Orders.{Name}
use Rattle.fileset_table.specs.Page.{IsTablePage}
use Rattle.fileset_table.specs.Table.{entry_of}
use Rattle.fileset_table.specs.declared.slot.FilesetEntry.{FilesetEntry}
use Rattle.fileset_table.specs.declared.slot.SlotItem.{SlotItem}
use Rattle.fileset_table.specs.declared.slot.SlotItem.TheVariants as slots
use Rattle.fileset_table.proofs.Unique.{table_unique}
use Rattle.domain_layout.specs.CellRules.{IsPlace, IsUsed}
use Rattle.domain_layout.specs.DirectoryRules.{HasIndexAt, IsGoodIndexPage, IsWrongFile}
use Rattle.domain_layout.specs.Faults.{HasNoFault, HasNoTablesFault}
use Rattle.domain_layout.proofs.NoTables.{none_of_tables}
use Rattle.domain_layout.proofs.There.{is_there}
use Rattle.domain_layout.specs.Layout.{IsLayout, Layout, first_tag_of}
use Rattle.domain_layout.specs.Owners.{frame_of}
use Rattle.domain_layout.specs.Reached.{Reaches, begins, goes_on, index_way}
use Rattle.domain_layout.specs.Seen.{IsOfClone, IsOwnUnless, IsSource, SeenFile, kept_by, seen_in, source_of}
use Rattle.domain_layout.specs.Shape.{AreShapesOf, FilesetShape, HasChains, HaveShapes, IsClone, IsOriginal, IsShapeOf, Shapes, ShowsSeenAt, shown_at}
use Rattle.domain_layout.specs.TagRules.{HasTags, IsFirstOf, original_slot}
use Rattle.domain_layout.specs.Metadata.{AgreeOnDirectories, AgreeOnMetadata}
use Rattle.domain_layout.proofs.ChainsAlike.{chains_alike, limits_alike, linked_alike, same_page}
use Rattle.domain_layout.proofs.Named.{first_there}
use Rattle.domain_layout.proofs.OnePage.{HasOne, one_of, some_same}
use Rattle.domain_layout.proofs.OwnedOnce.{index_read, no_files, no_index, no_tags, on_a_volume}
use Rattle.domain_layout.proofs.Reached.{read_after}

-- ---- what a fileset has

tags_of : (item : SlotItem) (entry : FilesetEntry) → entry_of item ≡ Some entry → first_tag_of item ≡ Some entry.first_tag
tags_of slots.Free entry is = absurd (let e : None ≡ Some entry = is in absurd (cc))
tags_of (slots.Original found) entry is = ap (λ (e : FilesetEntry). Some e.first_tag) (some_same found entry is)
tags_of (slots.Clone of number found) entry is = ap (λ (e : FilesetEntry). Some e.first_tag) (some_same found entry is)
tags_of (slots.Removed first_tag quota) entry is = absurd (let e : None ≡ Some entry = is in absurd (cc))

-- attributes say how many pages are kept
record Keeps (r : Record) : Type 0 where
  keep : ℕ
  is : keep_in r ≡ Some keep

keeps : (r : Record) (is : Attributes) → attributes_in r ≡ Some is → Keeps r
keeps (written.Attributes kind uid gid flags size keep links birth unsynced) is same = record { keep = keep; is = refl }
keeps _ is same = absurd (let e : None ≡ Some is = same in absurd (cc))

-- a file that is there, and what of its pages it keeps
record KeptFile (cells : List PlacedCell) (is : Attributes) : Type 0 where
  seen : SeenFile
  there : seen_in cells ≡ Some seen
  what : seen.is ≡ is
  keep : ℕ
  homes : (page : ℕ) → seen.homes page ≡ home_at (places_before keep (places_of cells) page)

kept_file : (cells : List PlacedCell) (is : Attributes) → is_removed cells ≡ false → attributes_of cells ≡ Some is → KeptFile cells is
kept_file cells is live same = by_record (first_record 1 cells) refl same
  where
    file : ℕ → SeenFile
    file keep = record { is = is; homes = λ page. home_at (places_before keep (places_of cells) page) }

    there : (keep : ℕ) → keep_of cells ≡ Some keep → seen_in cells ≡ Some (file keep)
    there keep kept =
        ap (λ b. cond b None (option_and_then (kept_by cells) (attributes_of cells))) live
        ∙ ap (option_and_then (kept_by cells)) same
        ∙ ap (option_map (λ (k : ℕ). record { is = is; homes = λ page. home_at (places_before k (places_of cells) page) })) kept

    by_record : (o : Option Record) → first_record 1 cells ≡ o → option_and_then attributes_in o ≡ Some is → KeptFile cells is
    by_record None none said = absurd (let e : None ≡ Some is = said in absurd (cc))
    by_record (Some r) at said =
        let k = keeps r is said in
        record {
          seen = file k.keep;
          there = there k.keep (ap (option_and_then keep_in) at ∙ k.is);
          what = refl;
          keep = k.keep;
          homes = λ page. refl;
        }

-- a page before what is kept stands where its cells say
kept_home : (keep : ℕ) (places : Places) (page : ℕ) (home : Home) → places page ≡ At home → ¬ home_at (places_before keep places page) ≡ None → home_at (places_before keep places page) ≡ Some home
kept_home keep places page home at some = by_test (nat_lt page keep) refl
  where
    by_test : (b : Bool) → nat_lt page keep ≡ b → home_at (places_before keep places page) ≡ Some home
    by_test true kept = ap (λ b. home_at (cond b (places page) Absent)) kept ∙ ap home_at at
    by_test false cut = absurd (some (ap (λ b. home_at (cond b (places page) Absent)) cut))

module _ (one other : Pages) (layout : Layout) (laid : IsLayout one layout) (none : HasNoFault one (frame_of layout)) (shapes : Shapes) (agree : AgreeOnMetadata one other layout shapes) where
  tables : HasNoTablesFault one (frame_of layout)
  tables = none_of_tables one (frame_of layout) none

  chains_there : (number : ℕ) (item : SlotItem) → slice_get layout.table.slots number ≡ Some item → (entry : FilesetEntry) → entry_of item ≡ Some entry → (chains : Chains) → HasChains one number entry chains → HasChains other number entry chains
  chains_there number item slot entry is chains has =
      chains_alike one other layout laid tables agree.cells agree.tags number entry (record { item = item; there = slot; has = tags_of item entry is }) chains has

  -- ---- indexes

  -- an index that a cell names, and a page of it that is come to
  record Comes (home : Home) : Type 0 where
    at : CellAt
    first : Home
    has : HasIndexAt one (frame_of layout) at first
    passed : List Home
    reached : Reaches one (frame_of layout) (index_way first) passed home

  index_page_alike : (home : Home) → ¬ ¬ Comes home → one home ≡ other home
  index_page_alike home comes =
      same_page (one home) (other home) (λ differ. comes (λ (c : Comes home).
      let read = read_after one (frame_of layout) (index_way c.first) (index_read one layout laid none c.at c.first c.has) c.passed home c.reached in
      differ (agree.indexes c.at c.first c.has c.passed home c.reached read.may)))

  comes_next : (home onto : Home) (page : List ℕ) → one home ≡ Some page → next_of page ≡ Some onto → Comes home → ¬ ¬ Comes onto
  comes_next home onto page there next c away =
      let read = read_after one (frame_of layout) (index_way c.first) (index_read one layout laid none c.at c.first c.has) c.passed home c.reached in
      let same : read.page ≡ page = some_same read.page page (sym read.there ∙ there) in
      let so : (index_way c.first).begins_so page ≡ true = subst (λ p. (index_way c.first).begins_so p ≡ true) same read.so in
      let wrong : ¬ ¬ IsGoodIndexPage page = (λ bad.
      no_index one layout laid none home (inl (record {
        at = c.at;
        first = c.first;
        has = c.has;
        wrong = inr (_, page, record { passed = c.passed; reached = c.reached; may = read.may; fresh = read.fresh; there = there; begins = so; at = refl }, inl bad);
      }))) in
      wrong (λ good. away (record {
        at = c.at;
        first = c.first;
        has = c.has;
        passed = c.passed ++ home ∷ [];
        reached = goes_on c.passed home onto page c.reached read.may read.fresh there so (on_a_volume page onto next good.1);
      }))

  index_pages_alike : (home : Home) → ¬ ¬ Comes home → (list : List (List ℕ)) → AreIndexPages one (Some home) list → AreIndexPages other (Some home) list
  index_pages_alike home comes [] is = absurd is
  index_pages_alike home comes (page ∷ more) is =
      subst (λ o. IsSomeAnd o (λ stored. (page ≡ shown_index stored) × AreIndexPages other (next_of stored) more)) (index_page_alike home comes)
      (by_page (one home) refl is (λ onto come. index_pages_alike onto come more))
    where
      by_next : (stored : List ℕ) → one home ≡ Some stored → ((onto : Home) → ¬ ¬ Comes onto → AreIndexPages one (Some onto) more → AreIndexPages other (Some onto) more)
          → (o : Option Home) → next_of stored ≡ o → (list : List (List ℕ)) → list ≡ more → AreIndexPages one o list → AreIndexPages other o list
      by_next stored there go None next [] same is = is
      by_next stored there go None next (p ∷ ps) same is = absurd is
      by_next stored there go (Some onto) next list same is =
          subst (AreIndexPages other (Some onto)) (sym same)
          (go onto (λ away. comes (λ c. comes_next home onto stored there next c away)) (subst (AreIndexPages one (Some onto)) same is))

      by_page : (o : Option (List ℕ)) → one home ≡ o → IsSomeAnd o (λ stored. (page ≡ shown_index stored) × AreIndexPages one (next_of stored) more)
          → ((onto : Home) → ¬ ¬ Comes onto → AreIndexPages one (Some onto) more → AreIndexPages other (Some onto) more)
          → IsSomeAnd o (λ stored. (page ≡ shown_index stored) × AreIndexPages other (next_of stored) more)
      by_page None there is go = absurd is
      by_page (Some stored) there is go = (is.0, by_next stored there go (next_of stored) refl more refl is.1)

  -- ---- files of originals

  module _ (number : ℕ) (entry : FilesetEntry) (shape : FilesetShape) (slot : slice_get layout.table.slots number ≡ Some (slots.Original entry)) (dirs : AgreeOnDirectories one other shape) (is : IsOriginal one number entry shape) where
    has_tags : HasTags layout.table number entry.first_tag
    has_tags = record { item = slots.Original entry; there = slot; has = refl }

    placed : (tag : Tag) (cells : List PlacedCell) → is.chains tag ≡ Some cells → LeadsToFile number is.has.places one tag cells
    placed tag cells there = subst (λ o. IfSome o (LeadsToFile number is.has.places one tag)) there (is.has.files.some tag)

    first_of : (tag : Tag) (first : PlacedCell) (rest : List PlacedCell) → is.chains tag ≡ Some (first ∷ rest) → ¬ ¬ IsFirstOf one (frame_of layout) number tag first.at
    first_of tag first rest there = by_cell (cell_of one is.has.places tag) refl (placed tag (first ∷ rest) there).leads
      where
        by_cell : (o : Option CellAt) → cell_of one is.has.places tag ≡ o → IsSomeAnd o (λ at. IsFile one at (first ∷ rest)) → ¬ ¬ IsFirstOf one (frame_of layout) number tag first.at
        by_cell None leads file = absurd file
        by_cell (Some at) leads file = subst (λ a. ¬ ¬ IsFirstOf one (frame_of layout) number tag a) (sym file.0) (first_there one layout laid tables number entry.first_tag has_tags is.has.places is.has.directory tag at leads)

    -- a page of a directory stands at a home of its shape
    dir_page_alike : (tag : Tag) (cells : List PlacedCell) (file : Attributes) → is.chains tag ≡ Some cells → is_removed cells ≡ false → attributes_of cells ≡ Some file → file.kind ≡ Directory
        → (page : ℕ) (home : Home) → places_of cells page ≡ At home → one home ≡ other home
    dir_page_alike tag [] file there live what kind page home at = absurd (placed tag [] there).is_of
    dir_page_alike tag (first ∷ rest) file there live what kind page home at =
        let kept = kept_file (first ∷ rest) file live what in
        let some : ¬ kept.seen.homes page ≡ None = (λ gone.
        no_files one layout laid none (record { code = 9; home = home_of first.at }) (
          layout,
          refl,
          laid,
          inr (inr (inl (
            refl,
            inr (inr (inr (inr (record {
              number = number;
              tag = tag;
              cells = first ∷ rest;
              seen = kept.seen;
              has = record {
                item = slots.Original entry;
                there = slot;
                is = record { there = is_there one number entry is.chains is.has tag (first ∷ rest) there; is = kept.there };
              };
              at = refl;
              wrong = misses kept gone;
            })))),
          ))),
        )) in
        let stands : kept.seen.homes page ≡ Some home = kept.homes page ∙ kept_home kept.keep (places_of (first ∷ rest)) page home at (λ gone. some (kept.homes page ∙ gone)) in
        dirs tag kept.seen page home (is.files tag ∙ ap (option_and_then seen_in) there ∙ kept.there) (ap (λ (a : Attributes). a.kind) kept.what ∙ kind) stands
      where
        misses : (kept : KeptFile (first ∷ rest) file) → kept.seen.homes page ≡ None → IsWrongFile one (frame_of layout) layout.table number tag (first ∷ rest) kept.seen kept.seen.is.kind
        misses kept gone =
            subst (IsWrongFile one (frame_of layout) layout.table number tag (first ∷ rest) kept.seen) (sym (ap (λ (a : Attributes). a.kind) kept.what ∙ kind))
            (inl (inr (page, subst (λ p. IsSome (home_at p)) (sym at) refl, gone)))

    -- the index of a file that is there
    index_alike : (tag : Tag) (first : PlacedCell) (rest : List PlacedCell) → is.chains tag ≡ Some (first ∷ rest) → (list : List (List ℕ)) → AreIndexPages one (index_of (first ∷ rest)) list → AreIndexPages other (index_of (first ∷ rest)) list
    index_alike tag first rest there list are = by_record (record_of 9 first.cell.records) refl list are
      where
        stands : IsFile one first.at (first ∷ rest)
        stands = by_cell (cell_of one is.has.places tag) (placed tag (first ∷ rest) there).leads
          where
            by_cell : (o : Option CellAt) → IsSomeAnd o (λ at. IsFile one at (first ∷ rest)) → IsFile one first.at (first ∷ rest)
            by_cell None file = absurd file
            by_cell (Some at) file = (refl, file.1)

        comes : (value : Record) (home : Home) → record_of 9 first.cell.records ≡ Some value → index_in value ≡ Some home → ¬ ¬ Comes home
        comes value home at begins_at away = first_of tag first rest there (λ (f : IsFirstOf one (frame_of layout) number tag first.at). away (record {
          at = first.at;
          first = home;
          has = record { cell = first.cell; is = record { place = f.place; stands = stands.1.links.stands }; value = value; there = at; begins = begins_at };
          passed = [];
          reached = begins;
        }))

        by_home : (value : Record) → record_of 9 first.cell.records ≡ Some value → (o : Option Home) → index_in value ≡ o → (list : List (List ℕ)) → AreIndexPages one o list → AreIndexPages other o list
        by_home value at None none [] are = are
        by_home value at None none (p ∷ ps) are = absurd are
        by_home value at (Some home) begins_at list are = index_pages_alike home (comes value home at begins_at) list are

        by_record : (o : Option Record) → record_of 9 first.cell.records ≡ o → (list : List (List ℕ)) → AreIndexPages one (option_and_then index_in o) list → AreIndexPages other (option_and_then index_in o) list
        by_record None none [] are = are
        by_record None none (p ∷ ps) are = absurd are
        by_record (Some value) at list are = by_home value at (index_in value) refl list are

    shown_page_alike : (tag : Tag) (cells : List PlacedCell) (file : Attributes) (kind : Kind) → is.chains tag ≡ Some cells → is_removed cells ≡ false → attributes_of cells ≡ Some file → file.kind ≡ kind
        → (page : ℕ) → shown_page one cells kind page ≡ shown_page other cells kind page
    shown_page_alike tag cells file File there live what same page = refl
    shown_page_alike tag cells file Directory there live what same page = by_place (places_of cells page) refl
      where
        by_place : (place : PagePlace) → places_of cells page ≡ place → page_there one place ≡ page_there other place
        by_place (At home) at = dir_page_alike tag cells file there live what same page home at
        by_place Hole at = refl
        by_place Absent at = refl

    file_shown : (tag : Tag) (cells : List PlacedCell) (file : Bitfile) → is.chains tag ≡ Some cells → is_removed cells ≡ false → ShowsFile one cells file → ShowsFile other cells file
    file_shown tag [] file there live shows = absurd (placed tag [] there).is_of
    file_shown tag (first ∷ rest) file there live shows =
        let what : HasOne (attributes_of (first ∷ rest)) (IsWhat file) = one_of (attributes_of (first ∷ rest)) (IsWhat file) shows.what in
        record {
          what = shows.what;
          each = λ page. shows.each page ∙ shown_page_alike tag (first ∷ rest) what.value file.kind there live what.there (sym what.is.kind) page;
          index = index_alike tag first rest there file.index shows.index;
        }

    shows_alike : (tag : Tag) (o : Option (List PlacedCell)) (file : Option Bitfile) → is.chains tag ≡ o → ShowsAt one o file → ShowsAt other o file
    shows_alike tag o None there shows = shows
    shows_alike tag None (Some file) there shows = absurd shows
    shows_alike tag (Some cells) (Some file) there shows = by_removed (is_removed cells) refl shows
      where
        by_removed : (b : Bool) → is_removed cells ≡ b → IsSomeAnd (cond b None (Some cells)) (λ live. ShowsFile one live file) → IsSomeAnd (of_live Some cells) (λ live. ShowsFile other live file)
        by_removed true gone shows = absurd shows
        by_removed false live shows = subst (λ b. IsSomeAnd (cond b None (Some cells)) (λ c. ShowsFile other c file)) (sym live) (file_shown tag cells file there live shows)

    original_alike : IsOriginal other number entry shape
    original_alike = record {
      none = is.none;
      chains = is.chains;
      has = chains_there number (slots.Original entry) slot entry refl is.chains is.has;
      files = is.files;
      shown = λ tag. shows_alike tag (is.chains tag) (shape.shown tag) refl (is.shown tag);
      limits = limits_alike one other layout laid tables agree.cells number (slots.Original entry) slot entry refl shape.limits is.limits;
    }

  -- ---- files of clones

  module _ (number of clone : ℕ) (entry original : FilesetEntry) (shape : FilesetShape) (slot : slice_get layout.table.slots number ≡ Some (slots.Clone of clone entry)) (dirs : AgreeOnDirectories one other shape)
      (is : IsClone one number of entry original clone shape) where
    clone_tags : HasTags layout.table number entry.first_tag
    clone_tags = record { item = slots.Clone of clone entry; there = slot; has = refl }

    own_there : (tag : Tag) (cells : List PlacedCell) → is.chains tag ≡ Some cells → LeadsToFile number is.has.places one tag cells
    own_there tag cells there = subst (λ o. IfSome o (LeadsToFile number is.has.places one tag)) there (is.has.files.some tag)

    own_first : (tag : Tag) (first : PlacedCell) (rest : List PlacedCell) → is.chains tag ≡ Some (first ∷ rest) → ¬ ¬ IsUsed one (frame_of layout) first.at first.cell
    own_first tag first rest there = by_cell (cell_of one is.has.places tag) refl (own_there tag (first ∷ rest) there).leads
      where
        by_cell : (o : Option CellAt) → cell_of one is.has.places tag ≡ o → IsSomeAnd o (λ at. IsFile one at (first ∷ rest)) → ¬ ¬ IsUsed one (frame_of layout) first.at first.cell
        by_cell None leads file = absurd file
        by_cell (Some at) leads file = λ unused.
            first_there one layout laid tables number entry.first_tag clone_tags is.has.places is.has.directory tag at leads
            (λ (f : IsFirstOf one (frame_of layout) number tag at). unused (record { place = subst (IsPlace one (frame_of layout)) (sym file.0) f.place; stands = file.1.links.stands }))

    -- the cell through which a clone's file is read is the first one of the original's file
    abbrev NamesSource : List PlacedCell → CellAt → Type 0
    NamesSource [] source = ⊥
    NamesSource (first ∷ rest) source = ¬ ¬ IsFirstOf one (frame_of layout) of (record { slot = first.cell.head.slot; seq = first.cell.head.seq }) source

    source_there : (tag : Tag) (cells : List PlacedCell) → is.chains tag ≡ Some cells → is_removed cells ≡ false → (source : CellAt) → source_of cells ≡ Some source → NamesSource cells source
    source_there tag [] there live source through = absurd (own_there tag [] there).is_of
    source_there tag (first ∷ rest) there live source through = λ wrong.
        own_first tag first rest there (λ used.
        no_tags one layout laid tables (home_of first.at)
        (inr (inr (inr (inr (inr (inl (
          first.at,
          refl,
          inr (inl (record {
            cell = first.cell;
            is = used;
            kind = primary;
            stays = live;
            of = of;
            clone = ap original_slot (ap (λ o. option_and_then (slice_get layout.table.slots) o) (own_there tag (first ∷ rest) there).is_of.2 ∙ slot);
            source = source;
            through = through;
            wrong = wrong;
          })),
        ))))))))
      where
        primary : first.cell.head.kind ≡ CellKind.Primary
        primary = by_cell (cell_of one is.has.places tag) (own_there tag (first ∷ rest) there).leads
          where
            by_cell : (o : Option CellAt) → IsSomeAnd o (λ at. IsFile one at (first ∷ rest)) → first.cell.head.kind ≡ CellKind.Primary
            by_cell None file = absurd file
            by_cell (Some at) file = file.1.primary

    source_links : (tag : Tag) (cells : List PlacedCell) → is.chains tag ≡ Some cells → is_removed cells ≡ false → (source : CellAt) → source_of cells ≡ Some source
        → (links : List PlacedCell) → LinksFrom one source links → LinksFrom other source links
    source_links tag [] there live source through links from = absurd (own_there tag [] there).is_of
    source_links tag (first ∷ rest) there live source through links from =
        linked_alike one other layout laid tables agree.cells of (record { slot = first.cell.head.slot; seq = first.cell.head.seq }) source (source_there tag (first ∷ rest) there live source through) links from

    source_alike : (tag : Tag) (cells : List PlacedCell) → is.chains tag ≡ Some cells → is_removed cells ≡ false → (o : Option CellAt) → source_of cells ≡ o → (places : Places) → IsSource one o places → IsSource other o places
    source_alike tag cells there live None through places is_source = is_source
    source_alike tag cells there live (Some at) through places is_source =
        (is_source.0, source_links tag cells there live at through is_source.0 is_source.1, is_source.2)

    own_alike : (tag : Tag) (cells : List PlacedCell) → is.chains tag ≡ Some cells → (b : Bool) → is_removed cells ≡ b → (seen : Option SeenFile) → IsOwnUnless b one cells seen → IsOwnUnless b other cells seen
    own_alike tag cells there true gone seen own = own
    own_alike tag cells there false live None own = absurd own
    own_alike tag cells there false live (Some seen) own = record {
      is = own.is;
      source = own.source;
      through = source_alike tag cells there live (source_of cells) refl own.source own.through;
      homes = own.homes;
    }

    of_clone_alike : (tag : Tag) (o : Option (List PlacedCell)) → is.chains tag ≡ o → IsOfClone one clone o (is.behind tag) (shape.files tag) → IsOfClone other clone o (is.behind tag) (shape.files tag)
    of_clone_alike tag None there seen = seen
    of_clone_alike tag (Some own) there seen = own_alike tag own there (is_removed own) refl (shape.files tag) seen

    seen_page_alike : (tag : Tag) (seen : SeenFile) → shape.files tag ≡ Some seen → (kind : Kind) → seen.is.kind ≡ kind → (page : ℕ) → shown_at one seen kind page ≡ shown_at other seen kind page
    seen_page_alike tag seen there File same page = refl
    seen_page_alike tag seen there Directory same page = by_home (seen.homes page) refl
      where
        by_home : (o : Option Home) → seen.homes page ≡ o → option_and_then one o ≡ option_and_then other o
        by_home None at = refl
        by_home (Some home) at = dirs tag seen page home there same at

    seen_shown : (tag : Tag) (o : Option SeenFile) (file : Option Bitfile) → shape.files tag ≡ o → ShowsSeenAt one o file → ShowsSeenAt other o file
    seen_shown tag None file there shows = shows
    seen_shown tag (Some seen) None there shows = absurd shows
    seen_shown tag (Some seen) (Some file) there shows = record {
      what = shows.what;
      each = λ page. shows.each page ∙ seen_page_alike tag seen there file.kind (sym shows.what.kind) page;
      index = shows.index;
    }

    clone_alike : (item : SlotItem) → slice_get layout.table.slots of ≡ Some item → entry_of item ≡ Some original → IsClone other number of entry original clone shape
    clone_alike item there fileset = record {
      named = is.named;
      chains = is.chains;
      has = chains_there number (slots.Clone of clone entry) slot entry refl is.chains is.has;
      behind = is.behind;
      has_behind = chains_there of item there original fileset is.behind is.has_behind;
      files = λ tag. of_clone_alike tag (is.chains tag) refl (is.files tag);
      shown = λ tag. seen_shown tag (shape.files tag) (shape.shown tag) refl (is.shown tag);
      limits = limits_alike one other layout laid tables agree.cells number (slots.Clone of clone entry) slot entry refl shape.limits is.limits;
    }

  -- ---- all of them

  shape_alike : (name : Name) (number : ℕ) (item : SlotItem) → slice_get layout.table.slots number ≡ Some item → (shape : Option FilesetShape) → shapes name ≡ shape → IsShapeOf one layout.table number item shape → IsShapeOf other layout.table number item shape
  shape_alike name number slots.Free at shape there is = is
  shape_alike name number (slots.Removed first_tag quota) at shape there is = is
  shape_alike name number (slots.Original entry) at None there is = absurd is
  shape_alike name number (slots.Original entry) at (Some shape) there is = original_alike number entry shape at (agree.directories name shape there) is
  shape_alike name number (slots.Clone of clone entry) at shape there is = by_item (slice_get layout.table.slots of) refl is
    where
      by_shape : (item : SlotItem) → slice_get layout.table.slots of ≡ Some item → (original : FilesetEntry) → entry_of item ≡ Some original → (shape : Option FilesetShape) → shapes name ≡ shape
          → IsSomeAnd shape (IsClone one number of entry original clone) → IsSomeAnd shape (IsClone other number of entry original clone)
      by_shape item behind original fileset None there is = absurd is
      by_shape item behind original fileset (Some shape) there is = clone_alike number of clone entry original shape at (agree.directories name shape there) is item behind fileset

      by_entry : (item : SlotItem) → slice_get layout.table.slots of ≡ Some item → (o : Option FilesetEntry) → entry_of item ≡ o
          → IsSomeAnd o (λ original. IsSomeAnd shape (IsClone one number of entry original clone)) → IsSomeAnd o (λ original. IsSomeAnd shape (IsClone other number of entry original clone))
      by_entry item behind None fileset is = absurd is
      by_entry item behind (Some original) fileset is = by_shape item behind original fileset shape there is

      by_item : (o : Option SlotItem) → slice_get layout.table.slots of ≡ o
          → IsSomeAnd (option_and_then entry_of o) (λ original. IsSomeAnd shape (IsClone one number of entry original clone))
          → IsSomeAnd (option_and_then entry_of o) (λ original. IsSomeAnd shape (IsClone other number of entry original clone))
      by_item None behind is = absurd is
      by_item (Some item) behind is = by_entry item behind (entry_of item) refl is

  shapes_of : AreShapesOf one layout.table shapes → AreShapesOf other layout.table shapes
  shapes_of are = record { each = λ number item at. by_entry number item at (entry_of item) (are.each number item at); only = are.only }
    where
      by_entry : (number : ℕ) (item : SlotItem) → slice_get layout.table.slots number ≡ Some item → (o : Option FilesetEntry)
          → IfSome o (λ entry. IsShapeOf one layout.table number item (shapes entry.name)) → IfSome o (λ entry. IsShapeOf other layout.table number item (shapes entry.name))
      by_entry number item at None is = tt
      by_entry number item at (Some entry) is = shape_alike entry.name number item at (shapes entry.name) refl is

  have_shapes : (home : Home) → layout.anchor.table ≡ Some home → HaveShapes one home shapes → HaveShapes other home shapes
  have_shapes home at have =
      let table_one = one_of layout.anchor.table (λ home. IsSomeAnd (one home) (λ page. IsTablePage page layout.table)) laid.table in
      let homes : table_one.value ≡ home = some_same table_one.value home (sym table_one.there ∙ at) in
      let said : IsSomeAnd (one home) (λ page. IsTablePage page layout.table) = subst (λ h. IsSomeAnd (one h) (λ page. IsTablePage page layout.table)) homes table_one.is in
      let page = one_of (one home) (λ page. IsTablePage page layout.table) said in
      let also : IsTablePage page.value have.table = subst (λ o. IsSomeAnd o (λ p. IsTablePage p have.table)) page.there have.there in
      let same : have.table ≡ layout.table = table_unique page.value have.table layout.table also page.is in
      record {
        table = layout.table;
        there = subst (λ o. IsSomeAnd o (λ p. IsTablePage p layout.table)) (agree.table home at) said;
        are = shapes_of (subst (λ table. AreShapesOf one table shapes) same have.are);
      }

pub same_shapes : (one other : Pages) (layout : Layout) (home : Home) (shapes : Shapes) → IsLayout one layout → HasNoFault one (frame_of layout) → layout.anchor.table ≡ Some home
    → HaveShapes one home shapes → AgreeOnMetadata one other layout shapes → HaveShapes other home shapes
same_shapes one other layout home shapes laid none at have agree = have_shapes one other layout laid none shapes agree home at have
