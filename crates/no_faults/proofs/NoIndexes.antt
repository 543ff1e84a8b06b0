-- Where a domain stands, no rule of indexes is broken.
use Rattle.std.proofs.Common.{◌≡◌, ◌∙◌, ℕ, zero, suc, ◌<◌, List, [], ◌∷◌, length, map, Option, Some, None, IfSome, IsSome, IsSomeAnd, is_some, slice_get, unwrap_or, refl, sym, ap, subst, arith, ⊎_elim}
use Rattle.std.proofs.lemmas.Bool.{true≢false}
use Rattle.std.specs.List.{AllByRecursion, flat_map}
use Rattle.std.specs.Option.{option_and_then, option_map, option_map_or}
use Rattle.domain_memory.specs.domain_base.declared.place.CellAt.{CellAt}
use Rattle.domain_memory.specs.domain_base.declared.place.Home.{Home}
use Rattle.domain_memory.specs.domain_base.declared.place.Kind.{Kind}
use Rattle.domain_memory.specs.domain_base.declared.place.Kind.TheVariants.{Directory, File}
use Rattle.domain_memory.specs.domain_base.declared.place.Tag.{Tag}
use Rattle.domain_memory.specs.page_store.Bitfiles.{Bitfile, shown_index}
use Rattle.domain_memory.specs.page_store.Pages.{Pages}
use Rattle.domain_memory.specs.cell_records.declared.record.Record.{Record}
use Rattle.domain_memory.specs.cell_records.declared.record.Record.TheVariants as written
use Rattle.domain_memory.specs.tag_dirs.TagPage.{next_of}
use Rattle.domain_memory.specs.directory_pages.Entries.{Rise}
use Rattle.domain_memory.specs.directory_pages.Index.{all_entries, index_pages}
use Rattle.domain_memory.specs.directory_pages.RowPage.{IsDirPage, rows_of}
use Rattle.domain_memory.specs.directory_rows.Directory.{IndexesRows, IsWellFormed, count_entries, count_hash, row_pages, rows_at}
use Rattle.domain_memory.specs.fileset_files.Index.{index_place_in}
use Rattle.domain_memory.specs.fileset_files.Shown.{AreIndexPages, index_in, index_of}
use Rattle.domain_memory.specs.fileset_files.declared.indexing.IndexPlace.{IndexPlace}
use Rattle.domain_memory.specs.stored_set.Whole.{total_on}
use Rattle.domain_memory.specs.index_pages.Homes.{AreIndexHomes, next_at}
use Rattle.domain_memory.specs.fileset_model.Filesets.{FilesetMap}
use Rattle.filesets_filled.proofs.Entered.{all_shown}
use Rattle.domain_memory.specs.domain_layout.DirectoryRules.{AreReadPages, CountsRows, HasIndex, HasIndexAt, HasSecondPage, IsDirectoryPage, IsGoodIndexPage, IsIndexFault, IsWrongIndex, IsWrongIndexEntry, IsWrongIndexOf, IsWrongIndexPage, IsWrongTotal, entries_in, total_in}
use Rattle.domain_memory.specs.domain_layout.Reached.{index_way}
use Rattle.domain_memory.specs.domain_layout.Seen.{SeenFile}
use Rattle.domain_memory.proofs.OfFilesetsReading.Ways.{get_map}
use Rattle.domain_memory.specs.domain_standing.Domain.{DomainNow}
use Rattle.domain_memory.specs.domain_standing.Holders.{Holder}
use Rattle.domain_memory.specs.domain_standing.Standing.{StandsDomain}
use Rattle.domain_memory.specs.standing_laws.Sound.{StandsSound}
use Rattle.no_faults.proofs.InChains.{all_get}
use Rattle.no_faults.proofs.OfIndexes.{good_at, homes_are, index_is_way, index_named}
use Rattle.no_faults.proofs.FaultOnTables.{on_table_of}
use Rattle.no_faults.proofs.Rising.{all_by_place, not_below, same_list, total_is}
use Rattle.no_faults.proofs.Seen.{page_shown, shown_page}
use Rattle.no_faults.proofs.Shown.{AtHome, HasShown, at_home, has_shown, state, whole}
use Rattle.no_faults.proofs.Ways.{AreWay, is_read, map_at, none_unread, nothing, read_at}

same_start : (a b : CellAt) (j k : ℕ) → Holder.of_index a j ≡ Holder.of_index b k → a ≡ b
same_start a b j k same = cc

get_within : {X : Type 0} (xs : List X) (k : ℕ) → k < length xs → (x : X) × (slice_get xs k ≡ Some x)
get_within [] k within = absurd (omega (arith, within))
get_within (x ∷ xs) zero within = (x, refl)
get_within (x ∷ xs) (suc k) within = get_within xs k (omega (arith, within))

-- ---- pages as a set shows them

-- the pages at homes
abbrev stored_at : Pages → List Home → List (List ℕ)
stored_at pages homes = map (λ home. unwrap_or (pages home) []) homes

pages_are : (pages : Pages) (o : Option Home) (homes : List Home) (list : List (List ℕ)) → AreIndexHomes pages o homes → AreIndexPages pages o list → list ≡ map shown_index (stored_at pages homes)
pages_are pages None [] [] are shown = refl
pages_are pages None [] (page ∷ list) are shown = absurd shown
pages_are pages None (home ∷ homes) list are shown = absurd are
pages_are pages (Some first) [] list are shown = absurd are
pages_are pages (Some first) (home ∷ homes) [] are shown = absurd shown
pages_are pages (Some first) (home ∷ homes) (page ∷ list) are shown =
    by_page (pages home) refl (subst (λ a. IsSomeAnd (pages a) (λ stored. (page ≡ shown_index stored) × AreIndexPages pages (next_of stored) list)) are.0 shown)
    (λ next same more. pages_are pages (next_at pages home) homes list are.2 (subst (λ o. AreIndexPages pages o list) same more))
  where
    by_page : (o : Option (List ℕ)) → pages home ≡ o → IsSomeAnd o (λ stored. (page ≡ shown_index stored) × AreIndexPages pages (next_of stored) list)
        → ((next : Option Home) → next ≡ next_at pages home → AreIndexPages pages next list → list ≡ map shown_index (stored_at pages homes)) → page ∷ list ≡ map shown_index (stored_at pages (home ∷ homes))
    by_page None there shown rest = absurd shown
    by_page (Some stored) there shown rest =
        let first : page ≡ shown_index (unwrap_or (pages home) []) = shown.0 ∙ ap (λ o. shown_index (unwrap_or o [])) (sym there) in
        let more = rest (next_of stored) (ap (option_and_then next_of) (sym there)) shown.1 in
        λ i. first i ∷ more i

-- how many entries a record says
said_total : (value : Record) (first : Home) (n : ℕ) → index_in value ≡ Some first → IfSome (index_place_in value) (λ (place : IndexPlace). place.entries ≡ n) → total_in value ≡ n
said_total (written.DirIndex vol page entries) first n is said = said
said_total value first n is said = nothing first is

module _ (d : DomainNow) (all : FilesetMap) (stands : StandsDomain d all) (sound : StandsSound d stands.files stands.indexes) where
  -- ---- each index

  named_of : (at : CellAt) (first : Home) → HasIndexAt d.pages d.frame at first → option_and_then index_of (stands.files at) ≡ Some first
  named_of at first has =
      index_named d all stands sound at first (record { cell = has.cell; on = on_table_of d all stands sound at has.cell has.is; value = has.value; there = has.there; begins = has.begins })

  way_of : (at : CellAt) (first : Home) → HasIndexAt d.pages d.frame at first → AreWay d.pages d.frame (index_way first) (stands.indexes at)
  way_of at first has = index_is_way d all stands sound at first (named_of at first has)

  no_wrong_page : (home : Home) → ¬ IsWrongIndexPage d.pages d.frame home
  no_wrong_page home w =
      ⊎_elim (none_unread d.pages d.frame (index_way w.first) (stands.indexes w.at) (way_of w.at w.first w.has) home)
      (λ r.
      let at = read_at d.pages d.frame (index_way w.first) (stands.indexes w.at) (way_of w.at w.first w.has) r.0 home r.1 r.2 in
      ⊎_elim (λ bad. bad (good_at d all stands sound w.at w.first (named_of w.at w.first w.has) r.0 home r.1 at r.2.there))
      (λ two.
      let also = read_at d.pages d.frame (index_way two.1) (stands.indexes two.0) (way_of two.0 two.1 two.4) two.2 home r.1 two.5 in
      two.3 (same_start two.0 w.at two.2 r.0 (stands.owned.once home (Holder.of_index two.0 two.2) (Holder.of_index w.at r.0) also at))) r.3) w.wrong

  -- ---- the index of a file of an original

  module _ (number : ℕ) (dir : Tag) (seen : SeenFile) (first : Home) (total : ℕ) (has : HasIndex d.pages d.table number dir seen first total) where
    h : HasShown d all stands number dir has.cells seen
    h = has_shown d all stands number dir has.cells seen has.has

    index_is : index_of has.cells ≡ Some first
    index_is = ap (option_and_then index_in) has.there ∙ has.begins

    named : option_and_then index_of (stands.files h.is.start) ≡ Some first
    named = ap (option_and_then index_of) (h.is.file_there.there ∙ ap Some h.is.cells_are) ∙ index_is

    way : AreWay d.pages d.frame (index_way first) (stands.indexes h.is.start)
    way = index_is_way d all stands sound h.is.start first named

    shown_so : h.is.file.index ≡ map shown_index (stored_at d.pages (stands.indexes h.is.start))
    shown_so =
        pages_are d.pages (Some first) (stands.indexes h.is.start) h.is.file.index (homes_are d all stands sound h.is.start first named)
        (subst (λ o. AreIndexPages d.pages o h.is.file.index) index_is h.is.shows.index)

    stored_there : (k : ℕ) (home : Home) → slice_get (stands.indexes h.is.start) k ≡ Some home → (page : List ℕ) → d.pages home ≡ Some page → slice_get (stored_at d.pages (stands.indexes h.is.start)) k ≡ Some page
    stored_there k home at page there =
        get_map (λ (x : Home). unwrap_or (d.pages x) []) (stands.indexes h.is.start) k ∙ ap (option_map (λ (x : Home). unwrap_or (d.pages x) [])) at ∙ ap (λ o. Some (unwrap_or o [])) there

    all_good : AllByRecursion IsGoodIndexPage (stored_at d.pages (stands.indexes h.is.start))
    all_good = all_by_place IsGoodIndexPage (stored_at d.pages (stands.indexes h.is.start)) (λ k page at.
        let home = map_at (λ (x : Home). unwrap_or (d.pages x) []) (stands.indexes h.is.start) k page at in
        let on = way.each k home.0 home.1 in
        let same : on.page ≡ page = ap (λ o. unwrap_or o []) (sym on.there) ∙ home.2 in
        subst IsGoodIndexPage same (good_at d all stands sound h.is.start first named k home.0 on.page home.1 on.there))

    entries_are : all_entries h.is.file.index ≡ flat_map entries_in (stored_at d.pages (stands.indexes h.is.start))
    entries_are = ap all_entries shown_so ∙ all_shown (stored_at d.pages (stands.indexes h.is.start)) all_good

    -- the pages that are read are these
    read_are : (index : List (List ℕ)) → AreReadPages d.pages d.frame first index → index ≡ stored_at d.pages (stands.indexes h.is.start)
    read_are index are = same_list index (stored_at d.pages (stands.indexes h.is.start)) (λ k. by_home k (slice_get (stands.indexes h.is.start) k) refl)
      where
        by_page : (k : ℕ) → slice_get (stands.indexes h.is.start) k ≡ None → (p : Option (List ℕ)) → slice_get index k ≡ p → p ≡ slice_get (stored_at d.pages (stands.indexes h.is.start)) k
        by_page k none None at = sym (get_map (λ (x : Home). unwrap_or (d.pages x) []) (stands.indexes h.is.start) k ∙ ap (option_map (λ (x : Home). unwrap_or (d.pages x) [])) none)
        by_page k none (Some page) at =
            let read = (are.each k page).0 at in
            nothing read.0 (sym none ∙ read_at d.pages d.frame (index_way first) (stands.indexes h.is.start) way k read.0 page read.1)

        by_home : (k : ℕ) (o : Option Home) → slice_get (stands.indexes h.is.start) k ≡ o → slice_get index k ≡ slice_get (stored_at d.pages (stands.indexes h.is.start)) k
        by_home k None none = by_page k none (slice_get index k) refl
        by_home k (Some home) at =
            let on = way.each k home at in
            (are.each k on.page).1 (home, is_read d.pages d.frame (index_way first) (stands.indexes h.is.start) way k home on.page at on.there) ∙ sym (stored_there k home at on.page on.there)

    some_page : ¬ h.is.file.index ≡ []
    some_page none =
        let on = way.each 0 first way.first in
        nothing (shown_index on.page) (ap (λ list. slice_get list 0) (sym none ∙ shown_so) ∙ get_map shown_index (stored_at d.pages (stands.indexes h.is.start)) 0 ∙ ap (option_map shown_index) (stored_there 0 first way.first on.page on.there))

    no_file : ¬ seen.is.kind ≡ File
    no_file kind = some_page (empty h.is.file.index (subst (λ o. IfSome o (λ (file : Bitfile). file.kind ≡ File → length file.index ≡ 0)) h.is.shown (h.original.set.bare dir) (h.is.what.kind ∙ kind)))
      where
        empty : (list : List (List ℕ)) → length list ≡ 0 → list ≡ []
        empty [] none = refl
        empty (page ∷ list) none = absurd (omega (arith, none))

    module _ (directory : seen.is.kind ≡ Directory) where
      kind_is : h.is.file.kind ≡ Directory
      kind_is = h.is.what.kind ∙ directory

      formed : IsWellFormed h.original.shape.shown dir
      formed = h.original.fills.names.directories dir (subst (λ o. IsSomeAnd o (λ (file : Bitfile). file.kind ≡ Directory)) (sym h.is.shown) kind_is)

      rows_are : row_pages h.original.shape.shown dir ≡ h.is.file.pages
      rows_are = ap (λ o. option_map_or (λ (file : Bitfile). file.pages) o []) h.is.shown

      index_shown : index_pages h.original.shape.shown dir ≡ h.is.file.index
      index_shown = ap (λ o. option_map_or (λ (file : Bitfile). file.index) o []) h.is.shown

      indexes : IndexesRows h.is.file.pages h.is.file.index
      indexes = ⊎_elim (λ none. absurd (some_page (sym index_shown ∙ none))) (λ is. subst (λ pages. IndexesRows pages h.is.file.index) rows_are (subst (IndexesRows (row_pages h.original.shape.shown dir)) index_shown is)) formed.index

      exact : (hash page : ℕ) → count_entries hash page (flat_map entries_in (stored_at d.pages (stands.indexes h.is.start))) ≡ count_hash hash (rows_at page h.is.file.pages)
      exact hash page = ap (count_entries hash page) (sym entries_are) ∙ indexes.exact hash page

      good_rows : (page : ℕ) (bytes : List ℕ) → slice_get h.is.file.pages page ≡ Some bytes → IsDirPage bytes
      good_rows page bytes at = all_get IsDirPage h.is.file.pages (subst (AllByRecursion IsDirPage) rows_are formed.pages) page bytes at

      -- how many rows there are
      counted : (hash page count : ℕ) → CountsRows d.pages d.frame d.table number dir hash page count → count ≡ count_hash hash (rows_at page h.is.file.pages)
      counted hash page count c = ⊎_elim
          (λ there.
          there.4 ∙ ap (λ (o : Option (List ℕ)). count_hash hash (option_map_or rows_of o [])) (sym (page_shown d all stands number h.entry h.there h.original dir page there.0 there.1 there.2 h.is.file h.is.shown)))
          (λ none. by_page (slice_get h.is.file.pages page) refl none.0 none.1) c.is
        where
          by_page : (o : Option (List ℕ)) → slice_get h.is.file.pages page ≡ o → ((home : Home) (bytes : List ℕ) → IsDirectoryPage d.pages d.frame d.table number dir page home bytes → ¬ IsDirPage bytes) → count ≡ 0
              → count ≡ count_hash hash (rows_at page h.is.file.pages)
          by_page None at none zero_there = zero_there ∙ ap (λ (o : Option (List ℕ)). count_hash hash (option_map_or rows_of o [])) (sym at)
          by_page (Some bytes) at none zero_there =
              let p = shown_page d all stands number h.entry h.there h.original sound dir h.is.file h.is.shown kind_is page bytes at in
              absurd (none p.0 bytes p.1 (good_rows page bytes at))

      no_entry : (index : List (List ℕ)) → index ≡ stored_at d.pages (stands.indexes h.is.start) → (place : ℕ) → ¬ IsWrongIndexEntry d.pages d.frame d.table number dir index place
      no_entry index same place w =
          ⊎_elim (λ below. true≢false (sym below.7 ∙ not_below index rise below.0 place below.3 w.page below.1 w.k below.2 w.entry below.4 w.there below.5 w.is below.6))
          (λ more.
          let count : more.0 ≡ count_entries w.entry.hash w.entry.page (flat_map entries_in index) =
          counted w.entry.hash w.entry.page more.0 more.1 ∙ sym (exact w.entry.hash w.entry.page) ∙ ap (λ list. count_entries w.entry.hash w.entry.page (flat_map entries_in list)) (sym same) in
          omega (arith, count, more.2)) w.wrong
        where
          rise : Rise (flat_map entries_in index)
          rise = subst Rise (entries_are ∙ ap (flat_map entries_in) (sym same)) indexes.good.rise

      no_total : ¬ IsWrongTotal d.pages d.frame d.table number dir first total
      no_total w =
          ⊎_elim (λ wrong. wrong (sym has.entries ∙ said_total has.value first _ has.begins said ∙ ap (λ list. length (flat_map entries_in list)) (sym same)))
          (λ fewer.
          let count : fewer.2 ≡ count_entries fewer.0 fewer.1 (flat_map entries_in w.index) =
          counted fewer.0 fewer.1 fewer.2 fewer.3 ∙ sym (exact fewer.0 fewer.1) ∙ ap (λ list. count_entries fewer.0 fewer.1 (flat_map entries_in list)) (sym same) in
          omega (arith, count, fewer.4)) w.wrong
        where
          same : w.index ≡ stored_at d.pages (stands.indexes h.is.start)
          same = read_are w.index w.are.read

          said : IfSome (index_place_in has.value) (λ (place : IndexPlace). place.entries ≡ length (flat_map entries_in (stored_at d.pages (stands.indexes h.is.start))))
          said =
              let s = state d all stands number h.entry h.original dir has.cells seen h.is directory in
              let totals = whole d all stands number h.entry h.original dir has.cells seen h.is directory in
              subst (λ n. IfSome (index_place_in has.value) (λ (place : IndexPlace). place.entries ≡ n)) (ap total_on shown_so ∙ total_is (stored_at d.pages (stands.indexes h.is.start)) all_good)
              (subst (λ o. IfSome o (λ (place : IndexPlace). place.entries ≡ total_on h.is.file.index)) (s.index ∙ ap (option_and_then index_place_in) has.there) totals.entries)

      two_pages : HasSecondPage seen
      two_pages =
          let one = page_at 0 (omega (arith, indexes.some)) in
          let two = page_at 1 (omega (arith, indexes.some)) in
          (0, 1, (λ same. omega (arith, same)), one, two)
        where
          page_at : (k : ℕ) → k < length h.is.file.pages → IsSome (seen.homes k)
          page_at k within =
              let p = get_within h.is.file.pages k within in
              let a : AtHome d all stands number h.entry h.original dir has.cells seen h.is directory k p.0 = at_home d all stands number h.entry h.original dir has.cells seen h.is directory k p.0 p.1 in
              ap is_some a.at

      no_wrong_so : (home : Home) → ¬ IsWrongIndex d.pages d.frame d.table number dir seen first total home
      no_wrong_so home w =
          ⊎_elim (λ entry. no_entry entry.2 (read_are entry.2 entry.4) entry.0 entry.5)
          (λ of. ⊎_elim (λ other. other directory) (λ more. ⊎_elim (λ none. none two_pages) no_total more) of.1) w

    no_wrong : (home : Home) → ¬ IsWrongIndex d.pages d.frame d.table number dir seen first total home
    no_wrong home w = by_kind seen.is.kind refl
      where
        by_kind : (kind : Kind) → seen.is.kind ≡ kind → ⊥
        by_kind File is = no_file is
        by_kind Directory is = no_wrong_so is home w

  no_wrong_index : (home : Home) → ¬ IsWrongIndexOf d.pages d.frame d.table home
  no_wrong_index home w = no_wrong w.number w.dir w.seen w.first w.total w.has home w.wrong

  pub no_indexes : (home : Home) → ¬ IsIndexFault d.pages d.frame d.table home
  no_indexes home fault = ⊎_elim (no_wrong_page home) (no_wrong_index home) fault
