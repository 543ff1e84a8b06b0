-- That an index is that of the rows of its directory.
use Rattle.std.proofs.Common.{◌≡◌, ◌∙◌, ◌⊎◌, inl, inr, ⊎_elim, ℕ, zero, suc, ◌<◌, ◌≤◌, ◌==◌, ◌&&◌, true, List, [], length, Option, Some, None, IsSome, is_some, slice_get, refl, sym, ap, subst, arith, eqb-true}
use Rattle.std.proofs.lemmas.Bool.{and_parts, cases_Bool, cases_lt}
use Rattle.std.proofs.lemmas.List.{length-map}
use Rattle.std.proofs.lemmas.Option.{slice_get_within}
use Rattle.std.specs.List.{AllByRecursion, flat_map}
use Rattle.std.specs.Option.{option_map_or}
use Rattle.fileset_shapes.specs.domain_base.declared.place.Home.{Home}
use Rattle.fileset_shapes.specs.domain_base.declared.place.Tag.{Tag}
use Rattle.fileset_shapes.specs.page_store.Bitfiles.{Bitfiles, shown_index}
use Rattle.fileset_shapes.specs.page_store.Pages.{Pages}
use Rattle.fileset_shapes.specs.cell_records.Fields.{number_at}
use Rattle.fileset_shapes.specs.directory_pages.Entries.{Rise, is_below}
use Rattle.fileset_shapes.specs.directory_pages.Index.{IsIndexPage, all_entries, index_pages}
use Rattle.fileset_shapes.specs.directory_pages.declared.entry.IndexEntry.{IndexEntry}
use Rattle.fileset_shapes.specs.directory_pages.RowPage.{rows_of}
use Rattle.fileset_shapes.specs.directory_rows.Directory.{AreEntriesOf, IndexesRows, count_entries, count_hash, row_pages, rows_at}
use Rattle.fileset_shapes.proofs.OfLegalHistories.ValidLemmas.{from_some_and}
use Rattle.fileset_shapes.specs.fileset_table.Table.{Table}
use Rattle.fileset_shapes.specs.domain_layout.DirectoryRules.{AreAllPages, CountsRows, IsDirectoryFault, IsGoodIndexPage, IsIndexFault, IsWrongIndex, entries_in, total_in}
use Rattle.fileset_shapes.specs.domain_layout.Reached.{Frame, IsRead, IsUnread, IsWithin, index_way}
use Rattle.fileset_shapes.specs.domain_layout.Seen.{SeenFile}
use Rattle.fileset_shapes.specs.domain_layout.Reached.Reaches.{begins}
use Rattle.fileset_shapes.proofs.OfDomainLayout.Reached.{is_read, same_number}
use Rattle.filesets_filled.specs.Showing.{HasEachPage, ShowsFileset, ShowsIndex}
use Rattle.filesets_filled.proofs.Entered.{all_shown, counted_there, entered, pages_rise}
use Rattle.filesets_filled.proofs.RowFacts as facts
use Rattle.filesets_filled.proofs.ShownPages.{shown_good}

good_decided : (page : List ℕ) → IsGoodIndexPage page ⊎ ¬ IsGoodIndexPage page
good_decided page = ⊎_elim
    (λ whole. ⊎_elim
    (λ magic. ⊎_elim
    (λ many. inr (λ good. omega (arith, many, good.0.count)))
    (λ count. ⊎_elim (λ high. inr (λ good. omega (arith, high, good.1))) (λ low. inl (record { whole = whole; magic = magic; count = count }, low)) (cases_lt 8 (number_at 4 8 page)))
    (cases_lt 1022 (number_at 4 4 page)))
    (λ other. inr (λ good. other good.0.magic)) (same_number (number_at 4 0 page) 0x58524944))
    (λ other. inr (λ good. other good.0.whole)) (same_number (length page) 8192)

module _ (pages : Pages) (frame : Frame) (table : Table) (number : ℕ) (files : Tag → Option SeenFile) (shown : Bitfiles) (dir : Tag)
    (good : (home : Home) → ¬ IsDirectoryFault pages frame table home) (none : (home : Home) → ¬ IsIndexFault pages frame table home) (each : HasEachPage pages frame table)
    (shows : ShowsFileset pages frame table number files shown) (index : ShowsIndex pages frame table number dir (index_pages shown dir)) where
  abbrev first : Home
  first = index.first

  abbrev stored : List (List ℕ)
  stored = index.stored

  abbrev rows : List (List ℕ)
  rows = row_pages shown dir

  abbrev entries : List IndexEntry
  entries = flat_map entries_in stored

  no_unread : (home : Home) → ¬ IsUnread pages frame (index_way first) home
  no_unread home unread = index.named (λ at. none home (inl (record { at = at.0; first = first; has = at.1; wrong = inl unread })))

  good_read : (place : ℕ) (home : Home) (page : List ℕ) → IsRead pages frame (index_way first) place home page → IsGoodIndexPage page
  good_read place home page read = ⊎_elim (λ is. is)
      (λ wrong. absurd (index.named (λ at. none home (inl (record { at = at.0; first = first; has = at.1; wrong = inr (place, page, read, inl wrong) })))))
      (good_decided page)

  all_good : AllByRecursion IsGoodIndexPage stored
  all_good = facts.all_by_place stored (λ k page at. let read = (index.read.each k page).0 at in good_read k read.0 page read.1)

  are_all : AreAllPages pages frame first stored
  are_all = record { read = index.read; whole = no_unread; good = all_good }

  entries_are : all_entries (index_pages shown dir) ≡ entries
  entries_are = ap all_entries index.shown_so ∙ all_shown stored all_good

  -- a broken rule of the index
  no_wrong : (home : Home) → ¬ IsWrongIndex pages frame table number dir index.seen first (total_in index.value) home
  no_wrong home wrong = none home (inr (record {
    number = number;
    dir = dir;
    seen = index.seen;
    first = first;
    total = total_in index.value;
    has = record { cells = index.cells; has = index.has; value = index.value; there = index.there; begins = index.begins; entries = refl };
    wrong = wrong;
  }))

  rise : Rise entries
  rise = pages_rise stored (λ k k' bytes bytes' j j' a b at at' there there' order.
      ⊎_elim
      (λ below.
      let read = (index.read.each k' bytes').0 at' in
      absurd (no_wrong read.0 (inl (
        k',
        bytes',
        stored,
        read.1,
        index.read,
        record {
          page = bytes';
          there = at';
          k = j';
          entry = b;
          is = there';
          wrong = inl (k, j, a, bytes, at, there, order, below);
        },
      ))))
      (λ not_below. not_below) (cases_Bool (is_below b a)))

  -- ---- as many entries as rows

  abbrev on_page : ℕ → ℕ → ℕ
  on_page hash page = count_hash hash (rows_at page rows)

  counts : (hash page : ℕ) → CountsRows pages frame table number dir hash page (on_page hash page)
  counts hash page = by_page (slice_get rows page) refl
    where
      by_page : (o : Option (List ℕ)) → slice_get rows page ≡ o → CountsRows pages frame table number dir hash page (on_page hash page)
      by_page (Some bytes) at =
          let home = facts.directory_page pages frame table number files shown good shows dir page bytes at in
          record { is = inl (home.0, bytes, home.1, facts.good_page pages frame table number files shown good shows dir page bytes at, ap (λ (o : Option (List ℕ)). count_hash hash (option_map_or rows_of o [])) at) }
      by_page None at = record {
        is = inr (
          (λ home bytes is page_good. facts.none_is_some bytes (sym at ∙ facts.page_there pages frame table number files shown good shows dir page home bytes is)),
          ap (λ (o : Option (List ℕ)). count_hash hash (option_map_or rows_of o [])) at,
        );
      }

  same_entry : (hash page : ℕ) (entry : IndexEntry) → (entry.hash == hash) && (entry.page == page) ≡ true → (entry.hash ≡ hash) × (entry.page ≡ page)
  same_entry hash page entry is = let parts = and_parts (entry.hash == hash) (entry.page == page) is in (eqb-true entry.hash hash parts.0, eqb-true entry.page page parts.1)

  not_more : (hash page : ℕ) → ¬ on_page hash page < count_entries hash page entries
  not_more hash page more =
      let there = counted_there (λ (entry : IndexEntry). (entry.hash == hash) && (entry.page == page)) entries (omega (arith, more)) in
      let entry = there.1 in
      let same = same_entry hash page entry there.3 in
      let e = entered stored there.0 entry there.2 in
      let read = (index.read.each e.page e.bytes).0 e.there in
      no_wrong read.0 (inl (
        e.page,
        e.bytes,
        stored,
        read.1,
        index.read,
        record {
          page = e.bytes;
          there = e.there;
          k = e.place;
          entry = entry;
          is = e.at;
          wrong = inr (on_page entry.hash entry.page, counts entry.hash entry.page, subst (λ h. on_page h entry.page < count_entries h entry.page entries) (sym same.0) (subst (λ p. on_page hash p < count_entries hash p entries) (sym same.1) more));
        },
      ))

  not_fewer : (hash page : ℕ) → ¬ count_entries hash page entries < on_page hash page
  not_fewer hash page fewer = no_wrong first (inr (
    refl,
    inr (inr (record {
      index = stored;
      are = are_all;
      wrong = inr (hash, page, on_page hash page, counts hash page, fewer);
    })),
  ))

  exact : AreEntriesOf rows entries
  exact hash page = ⊎_elim (λ more. absurd (not_more hash page more))
      (λ most. ⊎_elim (λ fewer. absurd (not_fewer hash page fewer)) (λ least. omega (arith, most, least)) (cases_lt (count_entries hash page entries) (on_page hash page)))
      (cases_lt (on_page hash page) (count_entries hash page entries))

  -- ---- two pages at least

  is_page : (page : ℕ) → IsSome (index.seen.homes page) → page < length rows
  is_page page some = by_home (index.seen.homes page) refl some
    where
      by_home : (o : Option Home) → index.seen.homes page ≡ o → is_some o ≡ true → page < length rows
      by_home None gone none = absurd cc
      by_home (Some home) at there =
          let also = from_some_and _ (files dir) (shows.only dir index.cells index.seen index.has) in
          let within = shows.within dir also.0 page home also.1 (also.2.homes page ∙ at) in
          by_page within (pages home) refl (each number dir index.cells index.seen index.has page home at within)
        where
          by_page : IsWithin frame home → (o : Option (List ℕ)) → pages home ≡ o → is_some o ≡ true → page < length rows
          by_page within None none some = absurd cc
          by_page within (Some bytes) there some =
              let found = facts.page_there pages frame table number files shown good shows dir page home bytes
              (record { cells = index.cells; seen = index.seen; has = index.has; kind = index.kind; at = at; within = within; there = there }) in
              slice_get_within rows page bytes found

  two_pages : 2 ≤ length rows
  two_pages = ⊎_elim
      (λ fewer. absurd (no_wrong first (inr (
        refl,
        inr (inl (λ two.
            let one = is_page two.0 two.3 in
            let other = is_page two.1 two.4 in
            two.2 (omega (arith, fewer, one, other)))),
      ))))
      (λ least. least) (cases_lt (length rows) 2)

  some_page : 1 ≤ length (index_pages shown dir)
  some_page = by_length (length stored) refl
    where
      by_length : (n : ℕ) → length stored ≡ n → 1 ≤ length (index_pages shown dir)
      by_length (suc n) is = let e : length (index_pages shown dir) ≡ length stored = ap length index.shown_so ∙ length-map stored shown_index in omega (arith, e, is)
      by_length zero is =
          let read = is_read pages frame (index_way first) no_unread [] first begins in
          let at = slice_get_within stored 0 read.0 ((index.read.each 0 read.0).1 (first, read.1)) in
          absurd (omega (arith, is, at))

  pub indexes : IndexesRows rows (index_pages shown dir)
  indexes = record {
    some = two_pages;
    good = record {
      some = some_page;
      pages = subst (AllByRecursion IsIndexPage) (sym index.shown_so) (shown_good stored all_good);
      rise = subst Rise (sym entries_are) rise;
    };
    exact = subst (AreEntriesOf rows) (sym entries_are) exact;
  }
