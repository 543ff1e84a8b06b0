-- What the rows of a fileset are where no rule of directories is broken.
use Rattle.std.proofs.Common.{◌≡◌, ◌∙◌, ◌⊎◌, inl, inr, ⊎_elim, ℕ, suc, ◌<◌, List, [], ◌∷◌, length, map, Option, Some, None, IsSome, is_some, slice_get, refl, sym, ap, subst, arith}
use Rattle.std.proofs.lemmas.Bool.{cases_lt}
use Rattle.std.proofs.lemmas.List.{length-map}
use Rattle.std.specs.List.{AllByRecursion}
use Rattle.std.specs.Option.{option_and_then, option_map_or}
use Rattle.fileset_shapes.specs.domain_base.declared.place.Home.{Home}
use Rattle.fileset_shapes.specs.domain_base.declared.place.Kind.{Kind}
use Rattle.fileset_shapes.specs.domain_base.declared.place.Kind.TheVariants.{Directory, File}
use Rattle.fileset_shapes.specs.domain_base.declared.place.Tag.{Tag}
use Rattle.fileset_shapes.specs.page_store.Bitfiles.{Bitfile, Bitfiles, IsDirectory}
use Rattle.fileset_shapes.specs.page_store.Pages.{Pages}
use Rattle.fileset_shapes.specs.metadata_cells.Chain.{PlacedCell}
use Rattle.fileset_shapes.specs.directory_pages.RowPage.{IsDirPage, rows_of}
use Rattle.fileset_shapes.specs.directory_pages.declared.row.Row.{Row}
use Rattle.fileset_shapes.specs.directory_rows.Directory.{NamesOnce, row_pages, rows_in}
use Rattle.fileset_shapes.proofs.OfLegalHistories.ValidLemmas.{from_some_and, some_inj, to_some_and}
use Rattle.fileset_shapes.specs.fileset_table.Table.{Table}
use Rattle.fileset_shapes.specs.name_space.Names.{root_tag}
use Rattle.fileset_shapes.proofs.OfDirectoryRows.AllLed.{at_contains, contains_at, found_row, row_found}
use Rattle.fileset_shapes.specs.domain_layout.DirectoryRules.{AreRowsTo, Has, IsDirectoryFault, IsDirectoryPage, IsFirstHome, IsHere, IsRow, RowPlace}
use Rattle.fileset_shapes.specs.domain_layout.Reached.{Frame}
use Rattle.fileset_shapes.specs.domain_layout.Seen.{SeenFile}
use Rattle.fileset_shapes.specs.domain_layout.Shape.{shown_at}
use Rattle.fileset_shapes.specs.name_space.Rows.{AreNamesOf, NameIn, row_of}
use Rattle.filesets_filled.specs.Showing.{IsShownOf, ListsDirectories, ShowsFileset}
use Rattle.filesets_filled.proofs.Decided.{dir_page_decided, kind_decided}
use Rattle.filesets_filled.proofs.Entries.{AreDistinct, Entry, IsIn, distinct_map, distinct_once, distinct_to, entries_to, in_map, in_mapped, in_to, once_distinct, to_entries}
use Rattle.filesets_filled.proofs.Placed.{flat_place, names_once, placed}

pub none_is_some : {P X : Type 0} (x : X) → None ≡ Some x → P
none_is_some x is = absurd (cc)

pub all_by_place : {P : List ℕ → Type 0} (xs : List (List ℕ)) → ((k : ℕ) (x : List ℕ) → slice_get xs k ≡ Some x → P x) → AllByRecursion P xs
all_by_place [] each = tt
all_by_place (x ∷ xs) each = (each 0 x refl, all_by_place xs (λ k y at. each (suc k) y at))

module _ (pages : Pages) (frame : Frame) (table : Table) (number : ℕ) (files : Tag → Option SeenFile) (shown : Bitfiles)
    (good : (home : Home) → ¬ IsDirectoryFault pages frame table home) (shows : ShowsFileset pages frame table number files shown) where
  -- ---- files

  pub record IsSeen (tag : Tag) (file : Bitfile) : Type 0 where
    pub seen : SeenFile
    pub there : files tag ≡ Some seen
    pub shown_so : IsShownOf pages seen file
    pub cells : List PlacedCell
    pub has : Has pages table number tag cells seen
    pub home : Home
    pub first : IsFirstHome cells home

  pub seen_of : (tag : Tag) (file : Bitfile) → shown tag ≡ Some file → IsSeen tag file
  seen_of tag file there = by_seen (files tag) refl
    where
      by_seen : (o : Option SeenFile) → files tag ≡ o → IsSeen tag file
      by_seen None none = none_is_some file (sym (shows.absent tag none) ∙ there)
      by_seen (Some seen) is =
          let f = from_some_and (IsShownOf pages seen) (shown tag) (shows.there tag seen is) in
          let has = shows.has tag seen is in
          let home = shows.first tag has.0 seen has.1 in
          record {
            seen = seen;
            there = is;
            shown_so = subst (IsShownOf pages seen) (some_inj (sym f.1 ∙ there)) f.2;
            cells = has.0;
            has = has.1;
            home = home.0;
            first = home.1;
          }

  -- what a fileset has its set shows
  pub record IsShownAs (tag : Tag) (seen : SeenFile) : Type 0 where
    pub file : Bitfile
    pub there : shown tag ≡ Some file
    pub kind : file.kind ≡ seen.is.kind
    pub each : (page : ℕ) → slice_get file.pages page ≡ shown_at pages seen seen.is.kind page

  shown_at_kind : (a b : SeenFile) (of as' : Kind) → of ≡ as' → ((page : ℕ) → a.homes page ≡ b.homes page) → (page : ℕ) → shown_at pages a of page ≡ shown_at pages b as' page
  shown_at_kind a b of as' same homes page = ap (λ k. shown_at pages a k page) same ∙ by_kind as'
    where
      by_kind : (k : Kind) → shown_at pages a k page ≡ shown_at pages b k page
      by_kind Directory = ap (option_and_then pages) (homes page)
      by_kind File = refl

  pub shown_as : (tag : Tag) (cells : List PlacedCell) (seen : SeenFile) → Has pages table number tag cells seen → IsShownAs tag seen
  shown_as tag cells seen has =
      let also = from_some_and _ (files tag) (shows.only tag cells seen has) in
      let file = from_some_and (IsShownOf pages also.0) (shown tag) (shows.there tag also.0 also.1) in
      let kind : also.0.is.kind ≡ seen.is.kind = ap (λ (a : _). a.kind) also.2.is in
      record {
        file = file.0;
        there = file.1;
        kind = file.2.what.kind ∙ kind;
        each = λ page. file.2.each page ∙ shown_at_kind also.0 seen also.0.is.kind seen.is.kind kind also.2.homes page;
      }

  pub here_shown : (tag : Tag) → IsHere pages table number tag → IsSome (shown tag)
  here_shown tag here = ap is_some (shown_as tag here.0 here.1 here.2).there

  pub shown_here : (tag : Tag) (o : Option Bitfile) → shown tag ≡ o → IsSome o → IsHere pages table number tag
  shown_here tag None is some = absurd cc
  shown_here tag (Some file) is some = let s = seen_of tag file is in (s.cells, s.seen, s.has)

  -- ---- pages

  pages_are : (tag : Tag) (file : Bitfile) → shown tag ≡ Some file → row_pages shown tag ≡ file.pages
  pages_are tag file there = ap (λ (o : Option Bitfile). option_map_or (λ (f : Bitfile). f.pages) o []) there

  pub directory_page : (dir : Tag) (page : ℕ) (bytes : List ℕ) → slice_get (row_pages shown dir) page ≡ Some bytes → (home : Home) × IsDirectoryPage pages frame table number dir page home bytes
  directory_page dir page bytes at = by_file (shown dir) refl
    where
      by_home : (s : SeenFile) → (cells : List PlacedCell) → Has pages table number dir cells s → files dir ≡ Some s → s.is.kind ≡ Directory → (o : Option Home) → s.homes page ≡ o → option_and_then pages o ≡ Some bytes
          → (home : Home) × IsDirectoryPage pages frame table number dir page home bytes
      by_home s cells has there kind None none is = none_is_some bytes is
      by_home s cells has there kind (Some home) stands is =
          (home, record { cells = cells; seen = s; has = has; kind = kind; at = stands; within = shows.within dir s page home there stands; there = is })

      by_kind : (s : SeenFile) → (cells : List PlacedCell) → Has pages table number dir cells s → files dir ≡ Some s → (k : Kind) → s.is.kind ≡ k → shown_at pages s k page ≡ Some bytes
          → (home : Home) × IsDirectoryPage pages frame table number dir page home bytes
      by_kind s cells has there File kind is = none_is_some bytes is
      by_kind s cells has there Directory kind is = by_home s cells has there kind (s.homes page) refl is

      by_file : (o : Option Bitfile) → shown dir ≡ o → (home : Home) × IsDirectoryPage pages frame table number dir page home bytes
      by_file None none = none_is_some bytes (sym (ap (λ (o : Option Bitfile). slice_get (option_map_or (λ (f : Bitfile). f.pages) o []) page) none) ∙ at)
      by_file (Some file) there =
          let s = seen_of dir file there in
          by_kind s.seen s.cells s.has s.there s.seen.is.kind refl (sym (s.shown_so.each page) ∙ sym (ap (λ (ps : List (List ℕ)). slice_get ps page) (pages_are dir file there)) ∙ at)

  pub dir_there : (dir : Tag) (page : ℕ) (home : Home) (bytes : List ℕ) → IsDirectoryPage pages frame table number dir page home bytes → IsDirectory shown dir
  dir_there dir page home bytes is =
      let s = shown_as dir is.cells is.seen is.has in
      to_some_and (λ (f : Bitfile). f.kind ≡ Directory) (shown dir) s.file s.there (s.kind ∙ is.kind)

  pub page_there : (dir : Tag) (page : ℕ) (home : Home) (bytes : List ℕ) → IsDirectoryPage pages frame table number dir page home bytes → slice_get (row_pages shown dir) page ≡ Some bytes
  page_there dir page home bytes is =
      let s = shown_as dir is.cells is.seen is.has in
      ap (λ (ps : List (List ℕ)). slice_get ps page) (pages_are dir s.file s.there) ∙ s.each page ∙ ap (λ k. shown_at pages is.seen k page) is.kind ∙ ap (option_and_then pages) is.at ∙ is.there

  pub good_page : (dir : Tag) (page : ℕ) (bytes : List ℕ) → slice_get (row_pages shown dir) page ≡ Some bytes → IsDirPage bytes
  good_page dir page bytes at = ⊎_elim (λ is. is)
      (λ wrong. let home = directory_page dir page bytes at in absurd (good home.0 (inl (number, dir, page, bytes, home.1, wrong))))
      (dir_page_decided bytes)

  -- ---- rows

  row_there : (at : RowPlace) (bytes : List ℕ) (row : Row) → slice_get (row_pages shown at.dir) at.page ≡ Some bytes → slice_get (rows_of bytes) at.place ≡ Some row → (home : Home) × IsRow pages frame table number at row home
  row_there at bytes row there is =
      let home = directory_page at.dir at.page bytes there in
      (home.0, record { bytes = bytes; is = home.1; good = good_page at.dir at.page bytes there; there = is })

  pub once : (dir : Tag) → NamesOnce (rows_in shown dir)
  once dir = names_once (row_pages shown dir) (λ k k' bytes bytes' j j' a b at at' there there' order same.
      let early : RowPlace = record { dir = dir; page = k; place = j } in
      let late : RowPlace = record { dir = dir; page = k'; place = j' } in
      let x = row_there early bytes a at there in
      let y = row_there late bytes' b at' there' in
      good y.0 (inr (inl (record {
        number = number;
        early = early;
        late = late;
        one = a;
        other = b;
        first_home = x.0;
        is_early = x.1;
        is_late = y.1;
        same = refl;
        order = order;
        names = same;
      }))))

  pub record IsRowOf (at : NameIn) (tag : Tag) (of : Kind) : Type 0 where
    pub place : RowPlace
    pub row : Row
    pub home : Home
    pub is : IsRow pages frame table number place row home
    pub dir_is : place.dir ≡ at.dir
    pub name_is : row.name ≡ at.name
    pub tag_is : row.tag ≡ tag
    pub kind_is : row.kind ≡ of

  pub row_of_name : (at : NameIn) (tag : Tag) (of : Kind) → row_of shown at ≡ Some (tag, of) → IsRowOf at tag of
  row_of_name at tag of leads =
      let f = found_row at.name (rows_in shown at.dir) tag of leads in
      let p = placed (row_pages shown at.dir) f.0 f.1 f.2 in
      let place : RowPlace = record { dir = at.dir; page = p.page; place = p.place } in
      let row = row_there place p.bytes f.1 p.there p.at in
      record { place = place; row = f.1; home = row.0; is = row.1; dir_is = refl; name_is = f.3; tag_is = f.4; kind_is = f.5 }

  pub name_of_row : (place : RowPlace) (row : Row) (home : Home) → IsRow pages frame table number place row home → row_of shown (record { dir = place.dir; name = row.name }) ≡ Some (row.tag, row.kind)
  name_of_row place row home is =
      let at = page_there place.dir place.page home is.bytes is.is in
      let flat = flat_place (row_pages shown place.dir) place.page is.bytes place.place row at is.there in
      row_found (rows_in shown place.dir) flat.0 row (once place.dir) flat.1

  -- a place has one row
  pub same_row : (place : RowPlace) (a b : Row) (home home' : Home) → IsRow pages frame table number place a home → IsRow pages frame table number place b home' → a ≡ b
  same_row place a b home home' is is' =
      let bytes : is.bytes ≡ is'.bytes = some_inj (sym (page_there place.dir place.page home is.bytes is.is) ∙ page_there place.dir place.page home' is'.bytes is'.is) in
      some_inj (sym is.there ∙ ap (λ (b : List ℕ). slice_get (rows_of b) place.place) bytes ∙ is'.there)

  -- a name has one place
  same_place : (p q : RowPlace) (a b : Row) (home home' : Home) → IsRow pages frame table number p a home → IsRow pages frame table number q b home' → p.dir ≡ q.dir → a.name ≡ b.name → p ≡ q
  same_place p q a b home home' is is' dirs names = ⊎_elim
      (λ less. absurd (twice p q a b home home' is is' dirs names (inl less)))
      (λ most. ⊎_elim (λ less. absurd (twice q p b a home' home is' is (sym dirs) (sym names) (inl less)))
      (λ least.
      let page : p.page ≡ q.page = omega (arith, most, least) in
      ⊎_elim (λ less. absurd (twice p q a b home home' is is' dirs names (inr (page, less))))
      (λ most'. ⊎_elim (λ less. absurd (twice q p b a home' home is' is (sym dirs) (sym names) (inr (sym page, less))))
      (λ least'. let place : p.place ≡ q.place = omega (arith, most', least') in λ i. record { dir = dirs i; page = page i; place = place i })
      (cases_lt q.place p.place)) (cases_lt p.place q.place)) (cases_lt q.page p.page)) (cases_lt p.page q.page)
    where
      twice : (p q : RowPlace) (a b : Row) (home home' : Home) → IsRow pages frame table number p a home → IsRow pages frame table number q b home' → p.dir ≡ q.dir → a.name ≡ b.name
          → (p.page < q.page) ⊎ ((p.page ≡ q.page) × (p.place < q.place)) → ⊥
      twice p q a b home home' is is' dirs names order = good home' (inr (inl (record {
        number = number;
        early = p;
        late = q;
        one = a;
        other = b;
        first_home = home;
        is_early = is;
        is_late = is';
        same = dirs;
        order = order;
        names = names;
      })))

  -- ---- what a row leads to

  pub row_kind : (place : RowPlace) (row : Row) (home : Home) → IsRow pages frame table number place row home → (file : Bitfile) → shown row.tag ≡ Some file → file.kind ≡ row.kind
  row_kind place row home is file there =
      let s = seen_of row.tag file there in
      ⊎_elim (λ same. s.shown_so.what.kind ∙ same)
      (λ other. absurd (good home (inr (inr (inl (record {
        number = number;
        at = place;
        row = row;
        is = is;
        wrong = inr (inr (s.seen.is.kind, (s.cells, s.seen, s.has, refl), other));
      }))))))
      (kind_decided s.seen.is.kind row.kind)

  pub not_root : (place : RowPlace) (row : Row) (home : Home) → IsRow pages frame table number place row home → ¬ row.tag ≡ root_tag
  not_root place row home is root = good home (inr (inr (inl (record { number = number; at = place; row = row; is = is; wrong = inl root }))))

  -- ---- all rows that lead to a tag

  module _ (dirs : List Tag) (lists : ListsDirectories shown dirs) (tag : Tag) where
    abbrev pub to : List Entry
    to = entries_to shown tag dirs

    abbrev pub place_of : Entry → RowPlace
    place_of e = e.at

    abbrev pub name_of : Entry → NameIn
    name_of e = record { dir = e.at.dir; name = e.row.name }

    pub distinct : AreDistinct to
    distinct = distinct_to shown tag dirs (once_distinct dirs lists.once)

    pub record IsEntryRow (e : Entry) : Type 0 where
      pub home : Home
      pub is : IsRow pages frame table number e.at e.row home
      pub leads : e.row.tag ≡ tag

    pub entry_row : (e : Entry) → IsIn to e → IsEntryRow e
    entry_row e among =
        let entry = (to_entries shown tag dirs e among).0 in
        let row = row_there e.at entry.bytes e.row entry.page_there entry.there in
        record { home = row.0; is = row.1; leads = entry.leads }

    pub row_entry : (place : RowPlace) (row : Row) (home : Home) → IsRow pages frame table number place row home → row.tag ≡ tag → IsIn to (record { at = place; row = row })
    row_entry place row home is leads = in_to shown tag dirs (record { at = place; row = row })
        (at_contains dirs place.dir (lists.each place.dir (dir_there place.dir place.page home is.bytes is.is)))
        (record { bytes = is.bytes; page_there = page_there place.dir place.page home is.bytes is.is; there = is.there; leads = leads })

    pub same_entry : (a b : Entry) → IsIn to a → IsIn to b → a.at ≡ b.at → a ≡ b
    same_entry a b among among' same =
        let x = entry_row a among in
        let y = entry_row b among' in
        let row : a.row ≡ b.row = same_row b.at a.row b.row x.home y.home (subst (λ (p : RowPlace). IsRow pages frame table number p a.row x.home) same x.is) y.is in
        λ i. record { at = same i; row = row i }

    abbrev pub places_to : List RowPlace
    places_to = map place_of to

    -- where all are of one kind, these are all of it
    pub rows_to : (of : Kind) → ((e : Entry) → IsIn to e → e.row.kind ≡ of) → AreRowsTo pages frame table number tag of places_to
    rows_to of kinds = record {
      each = λ place. (
        λ among.
            let e = in_mapped place_of to place (at_contains places_to place among) in
            let x = entry_row e.0 e.1 in
            (e.0.row, x.home, subst (λ (p : RowPlace). IsRow pages frame table number p e.0.row x.home) e.2 x.is, x.leads, kinds e.0 e.1),
        λ row.
            let k = in_map place_of to (record { at = place; row = row.0 }) (row_entry place row.0 row.1 row.2 row.3) in
            contains_at places_to k.0 place k.1,
      );
      once = distinct_once places_to (distinct_map place_of to distinct (λ a b among among'. same_entry a b among among'));
    }

    abbrev pub names_to : List NameIn
    names_to = map name_of to

    pub are_names : AreNamesOf shown tag names_to
    are_names = record {
      each = λ at. (
        λ among.
            let e = in_mapped name_of to at (at_contains names_to at among) in
            let x = entry_row e.0 e.1 in
            (e.0.row.kind, ap (row_of shown) (sym e.2) ∙ name_of_row e.0.at e.0.row x.home x.is ∙ ap (λ (t : Tag). Some (t, e.0.row.kind)) x.leads),
        λ row.
            let r = row_of_name at tag row.0 row.1 in
            let k = in_map name_of to (record { at = r.place; row = r.row }) (row_entry r.place r.row r.home r.is r.tag_is) in
            contains_at names_to k.0 at (k.1 ∙ (λ i. Some (record { dir = r.dir_is i; name = r.name_is i }))),
      );
      once = distinct_once names_to (distinct_map name_of to distinct (λ a b among among' same.
          let x = entry_row a among in
          let y = entry_row b among' in
          same_entry a b among among' (same_place a.at b.at a.row b.row x.home y.home x.is y.is (ap (λ (n : NameIn). n.dir) same) (ap (λ (n : NameIn). n.name) same))));
    }

    pub names_long : length names_to ≡ length places_to
    names_long = length-map to name_of ∙ sym (length-map to place_of)
