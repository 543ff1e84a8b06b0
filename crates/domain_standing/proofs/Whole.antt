-- Where no rule is broken, the directories of an original are whole, and only they have an index.
use Rattle.std.proofs.Common.{◌≡◌, ◌∙◌, ◌⊎◌, inl, inr, ℕ, zero, suc, ◌+◌, ◌-◌, ◌*◌, ◌^◌, ◌<◌, ◌≤◌, ◌↔◌, Bool, true, false, cond, nat_le, nat_lt, List, [], ◌∷◌, length, map, Option, Some, None, IfSome, IsSome, IsSomeAnd, slice_get, refl, sym, ap, subst, arith, ⊎_elim, length-append}
use Rattle.std.proofs.lemmas.Bool.{and_parts, cases_Bool, cases_lt, cases_order, le-leb, lt-ltb, ltb-true}
use Rattle.std.specs.List.{AllByRecursion, flat_map}
use Rattle.std.specs.Option.{option_and_then, option_map}
use Rattle.fileset_shapes.specs.domain_base.Limits.{file_pages, page_bytes}
use Rattle.fileset_shapes.specs.domain_base.declared.place.Home.{Home}
use Rattle.fileset_shapes.specs.domain_base.declared.place.Kind.{Kind}
use Rattle.fileset_shapes.specs.domain_base.declared.place.Kind.TheVariants.{Directory, File}
use Rattle.fileset_shapes.specs.domain_base.declared.place.Tag.{Tag}
use Rattle.fileset_shapes.specs.page_store.Bitfiles.{Bitfile, shown_index}
use Rattle.fileset_shapes.specs.page_store.Pages.{Pages}
use Rattle.fileset_shapes.specs.cell_records.Fields.{number_at}
use Rattle.fileset_shapes.specs.cell_records.declared.record.Record.{Record}
use Rattle.fileset_shapes.specs.cell_records.declared.record.Record.TheVariants as written
use Rattle.fileset_shapes.specs.log_ring.Homes.{IsMember, member_of}
use Rattle.fileset_shapes.specs.metadata_cells.Chain.{PlacedCell, records_of}
use Rattle.fileset_shapes.specs.extent_maps.Runs.{behind, covers, end_of, home_at, place_of, placed}
use Rattle.fileset_shapes.specs.extent_maps.declared.run.PagePlace.{PagePlace}
use Rattle.fileset_shapes.specs.extent_maps.declared.run.PagePlace.TheVariants.{Absent, At, Hole}
use Rattle.fileset_shapes.specs.extent_maps.declared.run.Run.{Run}
use Rattle.fileset_shapes.specs.extent_records.Rows.{IsPlaced, runs_of}
use Rattle.fileset_shapes.specs.extent_records.Writing.{places_before}
use Rattle.fileset_shapes.specs.directory_pages.Index.{entries_from, entries_of}
use Rattle.fileset_shapes.specs.file_chains.Files.{AreFile, places_of}
use Rattle.fileset_shapes.specs.fileset_files.Files.{IsOf, LeadsToFile, attributes_in, attributes_of, first_record, is_removed, keep_in, keep_of}
use Rattle.fileset_shapes.specs.fileset_files.Index.{index_place_in, index_place_of}
use Rattle.fileset_shapes.specs.fileset_files.Shown.{AreIndexPages, IsWhat, ShowsAt, ShowsFile, index_in, index_of}
use Rattle.fileset_shapes.specs.fileset_files.State.{FileState, state_of, state_with, states_of}
use Rattle.fileset_shapes.specs.fileset_files.declared.attributes.Attributes.{Attributes}
use Rattle.fileset_shapes.specs.fileset_files.declared.indexing.IndexPlace.{IndexPlace}
use Rattle.stored_set.specs.Whole.{AreWholeDirectories, HaveNoIndex, IsWholeAt, IsWholeDirectory, entries_on, total_on}
use Rattle.stored_set.proofs.Entries.{shown_entries}
use Rattle.fileset_shapes.specs.fileset_table.declared.slot.FilesetEntry.{FilesetEntry}
use Rattle.fileset_shapes.specs.fileset_table.declared.slot.SlotItem.TheVariants as slot
use Rattle.fileset_shapes.specs.domain_layout.DirectoryRules.{AreAllPages, AreReadPages, Has, HasIndex, HasWrongSize, IsGoodIndexPage, IsInItem, IsInOriginal, entries_in, total_in}
use Rattle.fileset_shapes.specs.domain_layout.Faults.{HasNoTablesFault}
use Rattle.fileset_shapes.specs.domain_layout.Layout.{Layout}
use Rattle.fileset_shapes.specs.domain_layout.Owners.{frame_of}
use Rattle.fileset_shapes.specs.domain_layout.Reached.{IsRead, MayBe, Reaches, index_way}
use Rattle.fileset_shapes.specs.domain_layout.Seen.{SeenFile, kept_by, seen_in}
use Rattle.fileset_shapes.specs.domain_layout.Shape.{FilesetShape, IsOriginal, shown_at}
use Rattle.fileset_shapes.specs.domain_layout.TagRules.{HasTags}
use Rattle.fileset_shapes.proofs.OfDomainLayout.NoTables.{none_of_tables}
use Rattle.fileset_shapes.proofs.OfDomainLayout.There.{chain_is}
use Rattle.fileset_shapes.proofs.OfDomainLayout.OnePage.{some_same}
use Rattle.fileset_shapes.proofs.OfDomainLayout.OwnedOnce.{no_index}
use Rattle.fileset_shapes.proofs.OfDomainLayout.Reached.{same_number}
use Rattle.fileset_shapes.proofs.OfFilesetsReading.Ways.{within_of}
use Rattle.fileset_shapes.specs.Files.{IsWhole}
use Rattle.fileset_shapes.proofs.Held.{page_held}
use Rattle.fileset_shapes.proofs.OriginalFiles.{FileOf, Kept, file_of, kept, none_some, right_size}
use Rattle.fileset_shapes.proofs.ShapeFacts.{IndexOf, IsThereAs, index_there, original_absent, original_there}
use Rattle.domain_standing.specs.Keeping.{KeepDirectories}
use Rattle.domain_standing.proofs.Holes.{no_hole}
use Rattle.domain_standing.proofs.Indexes.{few}
use Rattle.domain_standing.proofs.Showing.{good_by}

-- ---- the state of a file's cells

record StateOf (cells : List PlacedCell) (what : Attributes) : Type 0 where
  state : FileState
  there : state_of cells ≡ Some state
  attributes : state.attributes ≡ what
  keep : keep_of cells ≡ Some state.keep
  places : state.places ≡ places_of cells
  index : state.index ≡ index_place_of cells

state_by : (cells : List PlacedCell) (what : Attributes) → attributes_of cells ≡ Some what → StateOf cells what
state_by cells what said = by_record (first_record 1 cells) refl said
  where
    by_record : (o : Option Record) → first_record 1 cells ≡ o → option_and_then attributes_in o ≡ Some what → StateOf cells what
    by_record None at said = none_some what said
    by_record (Some (written.Attributes kind uid gid flags size keep links birth unsynced)) at said = record {
      state = _;
      there = ap (option_and_then (state_with cells)) at;
      attributes = some_same _ what said;
      keep = ap (option_and_then keep_in) at;
      places = refl;
      index = refl;
    }
    by_record (Some r) at said = none_some what said

-- ---- pages of files

no_truth : {P : Type 0} → false ≡ true → P
no_truth is = absurd (cc)

absent_at : {P : Type 0} (home : Home) → Absent ≡ At home → P
absent_at home is = absurd (cc)

-- a page that runs have is below the most
run_small : (runs : List Run) (page : ℕ) (home : Home) → AllByRecursion IsPlaced runs → place_of runs page ≡ At home → page < 65536
run_small [] page home all is = absent_at home is
run_small (r ∷ rs) page home all is =
    ⊎_elim (λ here. let ends = all.0.is_run.ends in let inside = ltb-true page (end_of r) (and_parts (nat_le r.page page) (nat_lt page (end_of r)) here).1 in omega (arith, ends, inside))
    (λ other. run_small rs page home all.1 (sym (ap (λ b. cond b (placed (behind (page - r.page) r.first)) (place_of rs page)) other) ∙ is)) (cases_Bool (covers r page))

-- ---- entries

count_from : (page : List ℕ) (k n : ℕ) → length (entries_from page k n) ≡ n
count_from page k zero = refl
count_from page k (suc n) = ap suc (count_from page (k + 1) n)

entries_count : (page : List ℕ) → length (entries_in page) ≡ entries_on page
entries_count page = by_test (nat_le (number_at 4 4 page) 1022)
  where
    by_test : (b : Bool) → length (cond b (entries_of page) []) ≡ cond b (number_at 4 4 page) 0
    by_test true = count_from page 0 (number_at 4 4 page)
    by_test false = refl

total_is : (pages : List (List ℕ)) → AllByRecursion IsGoodIndexPage pages → total_on (map shown_index pages) ≡ length (flat_map entries_in pages)
total_is [] good = refl
total_is (page ∷ pages) good =
    let here : entries_on (shown_index page) ≡ length (entries_in page) = shown_entries page good.0.0.whole ∙ sym (entries_count page) in
    let later = total_is pages good.1 in
    omega (arith, here, later, length-append (entries_in page) (flat_map entries_in pages))

there_at : (xs : List (List ℕ)) (k : ℕ) → k < length xs → (x : List ℕ) × (slice_get xs k ≡ Some x)
there_at [] k within = absurd (omega (arith, within))
there_at (x ∷ xs) zero within = (x, refl)
there_at (x ∷ xs) (suc k) within = there_at xs k (omega (arith, within))

count_map : (xs : List (List ℕ)) → length (map shown_index xs) ≡ length xs
count_map [] = refl
count_map (x ∷ xs) = ap suc (count_map xs)

all_by_place : (P : List ℕ → Type 0) (xs : List (List ℕ)) → ((k : ℕ) (x : List ℕ) → slice_get xs k ≡ Some x → P x) → AllByRecursion P xs
all_by_place P [] each = tt
all_by_place P (x ∷ xs) each = (each 0 x refl, all_by_place P xs (λ k y at. each (suc k) y at))

-- ---- an original

module _ (pages : Pages) (layout : Layout) (whole : IsWhole pages layout) (small : (vol : ℕ) → IsMember layout.anchor vol → (member_of layout.anchor vol).pages ≤ 1048576)
    (number : ℕ) (entry : FilesetEntry) (there : slice_get layout.table.slots number ≡ Some (slot.Original entry)) (shape : FilesetShape) (is : IsOriginal pages number entry shape) where
  tables : HasNoTablesFault pages (frame_of layout)
  tables = none_of_tables pages (frame_of layout) whole.no_fault

  tags : HasTags layout.table number entry.first_tag
  tags = record { item = slot.Original entry; there = there; has = refl }

  -- what the shape has where a set shows a file
  record SeenHere (tag : Tag) (file : Bitfile) : Type 0 where
    seen : SeenFile
    sees : shape.files tag ≡ Some seen
    f : IsThereAs pages layout whole number shape tag seen
    same : f.file ≡ file

  seen_here : (tag : Tag) (file : Bitfile) → shape.shown tag ≡ Some file → SeenHere tag file
  seen_here tag file shown = by_seen (shape.files tag) refl
    where
      by_seen : (o : Option SeenFile) → shape.files tag ≡ o → SeenHere tag file
      by_seen None none = none_some file (sym (original_absent pages layout whole number entry there shape is tag none) ∙ shown)
      by_seen (Some seen) sees =
          let f = original_there pages layout whole number entry there shape is tag seen sees in
          record { seen = seen; sees = sees; f = f; same = some_same f.file file (sym f.shown ∙ shown) }

  -- its cells
  record CellsHere (tag : Tag) (seen : SeenFile) (first : PlacedCell) (rest : List PlacedCell) : Type 0 where
    at : is.chains tag ≡ Some (first ∷ rest)
    in_cells : seen_in (first ∷ rest) ≡ Some seen
    of : FileOf pages layout whole.laid whole.no_fault number tag first rest

  cells_here : (tag : Tag) (seen : SeenFile) (first : PlacedCell) (rest : List PlacedCell) → Has pages layout.table number tag (first ∷ rest) seen → CellsHere tag seen first rest
  cells_here tag seen first rest has =
      let in_original : IsInOriginal pages entry tag (first ∷ rest) seen =
      subst (λ item. IsInItem pages layout.table item tag (first ∷ rest) seen) (some_same has.item (slot.Original entry) (sym has.there ∙ there)) has.is in
      let at = chain_is pages number entry is.chains is.has tag (first ∷ rest) in_original.there in
      record {
        at = at;
        in_cells = in_original.is;
        of = file_of pages layout whole.laid whole.no_fault number entry.first_tag tags is.has.places is.has.directory is.chains is.has.files tag first rest at;
      }

  module _ (tag : Tag) (file : Bitfile) (shown : shape.shown tag ≡ Some file) where
    abbrev here : SeenHere tag file
    here = seen_here tag file shown

    abbrev seen : SeenFile
    seen = here.seen

    abbrev cells : List PlacedCell
    cells = here.f.first ∷ here.f.rest

    abbrev c : CellsHere tag seen here.f.first here.f.rest
    c = cells_here tag seen here.f.first here.f.rest here.f.has

    abbrev k : Kept cells seen
    k = kept cells seen c.in_cells

    abbrev s : StateOf cells seen.is
    s = state_by cells seen.is k.what

    state_there : states_of is.chains tag ≡ Some s.state
    state_there = ap (option_and_then state_of) c.at ∙ s.there

    kind_same : file.kind ≡ seen.is.kind
    kind_same = sym (ap (λ (b : Bitfile). b.kind) here.same) ∙ here.f.what.kind

    -- ---- a directory

    module _ (kind : seen.is.kind ≡ Directory) (keeps : s.state.keep ≡ file_pages) where
      homes_are : (page : ℕ) → seen.homes page ≡ home_at (places_before 65536 (places_of cells) page)
      homes_are page = ap (λ (x : SeenFile). x.homes page) (some_same seen (record { is = seen.is; homes = λ p. home_at (places_before 65536 (places_of cells) p) }) (sym c.in_cells ∙ kept_so))
        where
          kept_so : seen_in cells ≡ Some (record { is = seen.is; homes = λ p. home_at (places_before 65536 (places_of cells) p) })
          kept_so =
              (λ i. cond (k.live i) None (option_and_then (kept_by cells) (k.what i)))
              ∙ ap (option_map (λ keep. record { is = seen.is; homes = λ p. home_at (places_before keep (places_of cells) p) })) (s.keep ∙ ap Some keeps)

      place_small : (page : ℕ) (home : Home) → places_of cells page ≡ At home → page < 65536
      place_small page home at = run_small (runs_of (records_of cells)) page home c.of.file.one_map.placed at

      seen_at : (page : ℕ) (home : Home) → places_of cells page ≡ At home → seen.homes page ≡ Some home
      seen_at page home at = homes_are page ∙ ap (λ b. home_at (cond b (places_of cells page) Absent)) (lt-ltb page 65536 (place_small page home at)) ∙ ap home_at at

      pages_are : (page : ℕ) → slice_get file.pages page ≡ option_and_then pages (seen.homes page)
      pages_are page = sym (ap (λ (b : Bitfile). slice_get b.pages page) here.same) ∙ here.f.each page ∙ ap (λ of. shown_of of) kind
        where
          shown_of : Kind → Option (List ℕ)
          shown_of of = shown_at pages seen of page

      -- the pages that it has are those in front of its length
      below_by : (page : ℕ) (home : Home) → seen.homes page ≡ Some home → page < length file.pages
      below_by page home at = by_page (pages home) refl (page_held pages layout whole.laid whole.all number tag cells seen here.f.has page home at (here.f.may page home at))
        where
          by_page : (o : Option (List ℕ)) → pages home ≡ o → IsSome o → page < length file.pages
          by_page None none some = no_truth some
          by_page (Some bytes) there some = within_of file.pages page bytes (pages_are page ∙ ap (option_and_then pages) at ∙ there)

      home_by : (page : ℕ) → page < length file.pages → IsSome (seen.homes page)
      home_by page within = let bytes = there_at file.pages page within in by_home bytes.0 (seen.homes page) (sym (pages_are page) ∙ bytes.1)
        where
          by_home : (bytes : List ℕ) (o : Option Home) → option_and_then pages o ≡ Some bytes → IsSome o
          by_home bytes None none = none_some bytes none
          by_home bytes (Some home) there = refl

      size_is : seen.is.size ≡ 8192 * length file.pages
      size_is =
          ⊎_elim (λ same. same)
          (λ other. absurd (right_size pages layout whole.laid whole.no_fault number tag here.f.first here.f.rest seen here.f.has kind (inl (λ sized. other (sized.1 ∙ ap (λ n. 8192 * n) (count_is sized.0 sized.2))))))
          (same_number seen.is.size (8192 * length file.pages))
        where
          count_is : (count : ℕ) → ((page : ℕ) → IsSome (seen.homes page) ↔ (page < count)) → count ≡ length file.pages
          count_is count each =
              ⊎_elim (λ same. same)
              (λ apart. ⊎_elim
              (λ less. absurd (let low : count < count = (each count).0 (home_by count less) in omega (arith, low)))
              (λ more. absurd (by_home (seen.homes (length file.pages)) refl ((each (length file.pages)).1 more))) apart) (cases_order count (length file.pages))
            where
              by_home : (o : Option Home) → seen.homes (length file.pages) ≡ o → IsSome o → ⊥
              by_home None none some = no_truth some
              by_home (Some home) at some = let low = below_by (length file.pages) home at in omega (arith, low)

      fits : length file.pages ≤ 65536
      fits = ⊎_elim (λ high. absurd (none_there (home_by 65536 high))) (λ low. low) (cases_lt 65536 (length file.pages))
        where
          none_there : IsSome (seen.homes 65536) → ⊥
          none_there some = no_truth (subst IsSome (homes_are 65536) some)

      none_behind : (page : ℕ) → length file.pages ≤ page → places_of cells page ≡ Absent
      none_behind page far = by_place (places_of cells page) refl
        where
          is_of : IsOf number tag cells
          is_of = (subst (λ o. IfSome o (LeadsToFile number is.has.places pages tag)) c.at (is.has.files.some tag)).is_of

          by_place : (place : PagePlace) → places_of cells page ≡ place → place ≡ Absent
          by_place (At home) at = absurd (let low = below_by page home (seen_at page home at) in omega (arith, low, far))
          by_place Hole at = absurd (no_hole pages layout whole.laid tables number entry there tag here.f.first here.f.rest c.of.named c.of.file is_of k.live page at)
          by_place Absent at = refl

      -- ---- its index

      index_of_it : (file.index ≡ []) ⊎ IndexOf pages layout whole number entry there shape is tag seen file.index
      index_of_it = index_there pages layout whole number entry there shape is tag seen here.sees file shown

      module _ (i : IndexOf pages layout whole number entry there shape is tag seen file.index) where
        good_pages : AllByRecursion IsGoodIndexPage i.index
        good_pages = all_by_place IsGoodIndexPage i.index (λ n page at.
            let read = (i.read.each n page).0 at in
            good_by page (λ wrong. i.named (λ named. no_index pages layout whole.laid whole.no_fault read.0 (inl (record { at = named.0; first = i.first; has = named.1; wrong = inr (n, page, read.1, inl wrong) })))))

        few_pages : length i.index ≤ 9437185
        few_pages = ⊎_elim (λ high. absurd (too_many high)) (λ low. low) (cases_lt 9437185 (length i.index))
          where
            too_many : 9437185 < length i.index → ⊥
            too_many high =
                let there = there_at i.index 9437185 high in
                let read = (i.read.each 9437185 there.0).0 there.1 in
                let short = few pages (frame_of layout) small i.first i.none_unread (λ place home page r. good_at place home page r) read.1.passed read.0 read.1.reached in
                omega (arith, short, read.1.at)
              where
                good_at : (place : ℕ) (home : Home) (page : List ℕ) → IsRead pages (frame_of layout) (index_way i.first) place home page → IsGoodIndexPage page
                good_at place home page r = good_by page (λ wrong. i.named (λ named. no_index pages layout whole.laid whole.no_fault home (inl (record { at = named.0; first = i.first; has = named.1; wrong = inr (place, page, r, inl wrong) }))))

        short_index : length file.index < 2 ^ 32
        short_index = let e : length file.index ≡ length i.index = ap length i.shown ∙ count_map i.index in omega (arith, few_pages, e)

        right_total : i.total ≡ length (flat_map entries_in i.index)
        right_total =
            ⊎_elim (λ same. same)
            (λ other. absurd (no_index pages layout whole.laid whole.no_fault i.first (inr (record {
              number = number;
              dir = tag;
              seen = seen;
              first = i.first;
              total = i.total;
              has = i.has;
              wrong = inr (refl, inr (inr (record { index = i.index; are = record { read = i.read; whole = i.none_unread; good = good_pages }; wrong = inl other })));
            }))))
            (same_number i.total (length (flat_map entries_in i.index)))

        total_here : i.total ≡ total_on file.index
        total_here = right_total ∙ sym (total_is i.index good_pages) ∙ ap total_on (sym i.shown)

        same_cells : i.has.cells ≡ cells
        same_cells = some_same i.has.cells cells (sym (chain_is pages number entry is.chains is.has tag i.has.cells in_original.there) ∙ c.at)
          where
            in_original : IsInOriginal pages entry tag i.has.cells seen
            in_original = subst (λ item. IsInItem pages layout.table item tag i.has.cells seen) (some_same i.has.has.item (slot.Original entry) (sym i.has.has.there ∙ there)) i.has.has.is

        entries_are : IfSome s.state.index (λ (index : IndexPlace). index.entries ≡ total_on file.index)
        entries_are = subst (λ o. IfSome o (λ (index : IndexPlace). index.entries ≡ total_on file.index)) (sym (s.index ∙ ap (option_and_then index_place_in) (sym (ap (first_record 9) same_cells) ∙ i.has.there))) (by_value i.has.value i.has.entries)
          where
            by_value : (value : Record) → total_in value ≡ i.total → IfSome (index_place_in value) (λ (index : IndexPlace). index.entries ≡ total_on file.index)
            by_value (written.DirIndex vol page entries) said = said ∙ total_here
            by_value r said = tt

      shows : ShowsFile pages cells file
      shows = subst (λ b. IsSomeAnd (cond b None (Some cells)) (λ cs. ShowsFile pages cs file)) k.live (subst (λ o. ShowsAt pages o (Some file)) c.at (subst (ShowsAt pages (is.chains tag)) shown (is.shown tag)))

      no_place : file.index ≡ [] → IfSome s.state.index (λ (index : IndexPlace). index.entries ≡ total_on file.index)
      no_place empty = by_record (first_record 9 cells) refl s.index (subst (AreIndexPages pages (index_of cells)) empty shows.index)
        where
          by_value : (value : Record) → s.state.index ≡ index_place_in value → AreIndexPages pages (index_in value) [] → IfSome s.state.index (λ (index : IndexPlace). index.entries ≡ total_on file.index)
          by_value (written.DirIndex vol page entries) at are = absurd are
          by_value r at are = subst (λ o. IfSome o (λ (index : IndexPlace). index.entries ≡ total_on file.index)) (sym at) tt

          by_record : (o : Option Record) → first_record 9 cells ≡ o → s.state.index ≡ option_and_then index_place_in o → AreIndexPages pages (option_and_then index_in o) [] → IfSome s.state.index (λ (index : IndexPlace). index.entries ≡ total_on file.index)
          by_record None none at are = subst (λ o. IfSome o (λ (index : IndexPlace). index.entries ≡ total_on file.index)) (sym at) tt
          by_record (Some value) there at are = by_value value at are

      is_whole : IsWholeDirectory file s.state
      is_whole = record {
        fits = fits;
        size = ap (λ (a : Attributes). a.size) s.attributes ∙ size_is;
        keeps = keeps;
        none = λ page far. ap (λ p. p page) s.places ∙ none_behind page far;
        index_fits = ⊎_elim (λ empty. let e : length file.index ≡ 0 = ap length empty in omega (arith, e)) short_index index_of_it;
        entries = ⊎_elim no_place entries_are index_of_it;
      }

    -- ---- a file has no index

    no_index_of : seen.is.kind ≡ File → length file.index ≡ 0
    no_index_of kind = ⊎_elim (λ empty. ap length empty) (λ i. absurd (no_index pages layout whole.laid whole.no_fault i.first (inr (record {
      number = number;
      dir = tag;
      seen = seen;
      first = i.first;
      total = i.total;
      has = i.has;
      wrong = inr (refl, inl (λ dir. let e : File ≡ Directory = sym kind ∙ dir in absurd (cc)));
    })))) (index_there pages layout whole number entry there shape is tag seen here.sees file shown)

  pub whole_directories : KeepDirectories pages layout.table number → AreWholeDirectories (states_of is.chains) shape.shown
  whole_directories keeps tag = by_file (shape.shown tag) refl
    where
      of_file : (file : Bitfile) → shape.shown tag ≡ Some file → file.kind ≡ Directory → IsSomeAnd (states_of is.chains tag) (IsWholeDirectory file)
      of_file file shown dir =
          let kind : (seen tag file shown).is.kind ≡ Directory = sym (kind_same tag file shown) ∙ dir in
          let st = s tag file shown in
          subst (λ o. IsSomeAnd o (IsWholeDirectory file)) (sym (state_there tag file shown))
          (is_whole tag file shown kind (some_same st.state.keep file_pages (sym st.keep ∙ keeps tag (cells tag file shown) (seen tag file shown) (here tag file shown).f.has kind)))

      by_file : (o : Option Bitfile) → shape.shown tag ≡ o → IsWholeAt (states_of is.chains tag) o
      by_file None none = tt
      by_file (Some file) shown = of_file file shown

  pub bare_files : HaveNoIndex shape.shown
  bare_files tag = by_file (shape.shown tag) refl
    where
      by_file : (o : Option Bitfile) → shape.shown tag ≡ o → IfSome o (λ file. file.kind ≡ File → length file.index ≡ 0)
      by_file None none = tt
      by_file (Some file) shown = (λ of. no_index_of tag file shown (sym (kind_same tag file shown) ∙ of))
