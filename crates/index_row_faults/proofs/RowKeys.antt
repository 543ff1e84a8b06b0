-- How many rows a page of a directory has with a name of a hash, by all rows that were read.
use Rattle.std.proofs.Common.{◌≡◌, ◌∙◌, ◌⊎◌, ◌↔◌, inl, inr, zero, suc, ℕ, ◌+◌, ◌<◌, ◌≤◌, ◌==◌, ◌&&◌, Bool, true, false, cond, eqb, List, [], ◌∷◌, length, Option, Some, None, Contains, slice_get, refl, sym, ap, subst, arith, ⊎_elim}
use Rattle.std.specs.List.{count_by, filter}
use Rattle.std.specs.BTreeMap.{is_at}
use Rattle.std.proofs.lemmas.Bool.{and_from, and_parts, cases_lt, eq-eqb, eqb-true}
use Rattle.std.proofs.lemmas.List.Sums.{length-filter}
use Rattle.page_faults.specs.domain_base.contracts.place.TagOrd.TheImpl as tag_ord
use Rattle.page_faults.specs.domain_base.declared.place.Home.{Home}
use Rattle.page_faults.specs.domain_base.declared.place.Kind.TheVariants.{Directory}
use Rattle.page_faults.specs.domain_base.declared.place.Tag.{Tag}
use Rattle.page_faults.specs.page_store.Pages.{Pages}
use Rattle.page_faults.specs.fileset_files.declared.attributes.Attributes.{Attributes}
use Rattle.page_faults.specs.directory_pages.Entries.{hash_of}
use Rattle.page_faults.specs.directory_pages.RowPage.{IsDirPage, rows_of}
use Rattle.page_faults.specs.directory_pages.declared.row.Row.{Row}
use Rattle.page_faults.specs.directory_rows.Directory.{count_hash}
use Rattle.filesets_filled.proofs.Decided.{dir_page_decided, kind_decided, tag_decided}
use Rattle.page_faults.specs.fileset_table.Table.{Table}
use Rattle.page_faults.specs.filesets_reading.Seen.{home_in}
use Rattle.page_faults.specs.domain_layout.DirectoryRules.{CountsRows, IsDirectoryPage, IsRow, RowPlace}
use Rattle.page_faults.specs.domain_layout.Reached.{Frame, IsWithin}
use Rattle.directory_faults.specs.Rows.{AreRowsIn, place_of, rows_placed}
use Rattle.directory_faults.specs.There.{AreFilesIn}
use Rattle.directory_faults.specs.declared.rows.PageAt.{PageAt}
use Rattle.directory_faults.specs.declared.rows.RowThere.{RowThere}
use Rattle.directory_faults.specs.declared.there.FileThere.{FileThere}
use Rattle.directory_faults.proofs.Counted.{as_long, counted_some}
use Rattle.directory_faults.proofs.InOrder.{placed_at, placed_back}
use Rattle.directory_faults.proofs.Inserted.{among_at, at_among}
use Rattle.directory_faults.proofs.RowPlaces.{AreApart, count_passing, order_parts, passes_there, passing, passing_once, row_is, row_read, there_passes}
use Rattle.directory_faults.proofs.TagSets.{tag_at}
use Rattle.index_row_faults.specs.Keys.{has_key}

none_some : {X : Type 0} (x : X) → None ≡ Some x → ⊥
none_some x e = cc

some_same : {X : Type 0} (a b : X) → Some a ≡ Some b → a ≡ b
some_same a b e = cc

-- ---- tests

-- the name of a row has a hash
abbrev pub is_named_so : ℕ → RowThere → Bool
is_named_so hash r = hash_of r.row.name == hash

key_parts : (dir : Tag) (hash page : ℕ) (r : RowThere) → has_key dir hash page r ≡ true → (r.at.dir ≡ dir) × (is_named_so hash r ≡ true) × (r.at.page ≡ page)
key_parts dir hash page r is =
    let both = and_parts (is_at ((tag_ord.ghosts).cmp r.at.dir) dir && (hash_of r.row.name == hash)) (r.at.page == page) is in
    let first = and_parts (is_at ((tag_ord.ghosts).cmp r.at.dir) dir) (hash_of r.row.name == hash) both.0 in
    ((tag_at r.at.dir dir).0 first.0, first.1, eqb-true r.at.page page both.1)

parts_key : (dir : Tag) (hash page : ℕ) (r : RowThere) → r.at.dir ≡ dir → is_named_so hash r ≡ true → r.at.page ≡ page → has_key dir hash page r ≡ true
parts_key dir hash page r same named on =
    and_from (is_at ((tag_ord.ghosts).cmp r.at.dir) dir && (hash_of r.row.name == hash)) (r.at.page == page)
    (and_from (is_at ((tag_ord.ghosts).cmp r.at.dir) dir) (hash_of r.row.name == hash) ((tag_at r.at.dir dir).1 same) named)
    (eq-eqb r.at.page page on)

-- ---- rows of a page

as_filtered : (hash : ℕ) (at : PageAt) (place : ℕ) (rows : List Row) → length (filter (is_named_so hash) (rows_placed at place rows)) ≡ length (filter (λ row. hash_of row.name == hash) rows)
as_filtered hash at place [] = refl
as_filtered hash at place (row ∷ rows) = by_test (hash_of row.name == hash) (as_filtered hash at (place + 1) rows)
  where
    by_test : (b : Bool) → length (filter (is_named_so hash) (rows_placed at (place + 1) rows)) ≡ length (filter (λ (r : Row). hash_of r.name == hash) rows)
        → length (cond b ((record { at = at; place = place; row = row }) ∷ filter (is_named_so hash) (rows_placed at (place + 1) rows)) (filter (is_named_so hash) (rows_placed at (place + 1) rows)))
        ≡ length (cond b (row ∷ filter (λ (r : Row). hash_of r.name == hash) rows) (filter (λ (r : Row). hash_of r.name == hash) rows))
    by_test true rest = ap suc rest
    by_test false rest = rest

counted_placed : (hash : ℕ) (at : PageAt) (place : ℕ) (rows : List Row) → count_by (is_named_so hash) (rows_placed at place rows) ≡ count_hash hash rows
counted_placed hash at place rows =
    sym (length-filter (is_named_so hash) (rows_placed at place rows)) ∙ as_filtered hash at place rows ∙ length-filter (λ (row : Row). hash_of row.name == hash) rows

placed_apart : (at : PageAt) (rows : List Row) → AreApart (rows_placed at 0 rows)
placed_apart at rows i j one other at_i at_j apart same =
    let first = (placed_back at 0 rows i one at_i).place_is in
    let second = (placed_back at 0 rows j other at_j).place_is in
    apart (omega (arith, first, second, ap (λ (p : RowPlace). p.place) same))

module _ (pages : Pages) (frame : Frame) (table : Table) (number : ℕ) (files : List FileThere) (rows : List RowThere)
    (are_files : AreFilesIn pages frame table number files) (are : AreRowsIn pages frame table number rows) where
  -- ---- a directory has one page of a number

  abbrev IsPage : Tag → ℕ → Home → List ℕ → Type 0
  IsPage dir page home bytes = IsDirectoryPage pages frame table number dir page home bytes

  one_home : (dir : Tag) (page : ℕ) (home other : Home) (bytes more : List ℕ) → IsPage dir page home bytes → IsPage dir page other more → home ≡ other
  one_home dir page home other bytes more is also =
      let a = are_files.all dir is.cells is.seen is.has in
      let b = are_files.all dir also.cells also.seen also.has in
      let at = among_at files a.file a.among in
      let to = among_at files b.file b.among in
      let places : at.0 ≡ to.0 = are_files.once at.0 to.0 a.file b.file at.1 to.1 (a.tag_is ∙ sym b.tag_is) in
      let same : a.file ≡ b.file = some_same a.file b.file (sym at.1 ∙ ap (slice_get files) places ∙ to.1) in
      let one = (a.read.homes is.kind page home).1 (is.at, is.within) in
      let two = (b.read.homes also.kind page other).1 (also.at, also.within) in
      some_same home other (sym one ∙ ap (λ (f : FileThere). home_in f.seen.homes.items page) same ∙ two)

  one_page : (dir : Tag) (page : ℕ) (home other : Home) (bytes more : List ℕ) → IsPage dir page home bytes → IsPage dir page other more → bytes ≡ more
  one_page dir page home other bytes more is also = some_same bytes more (sym is.there ∙ ap pages (one_home dir page home other bytes more is also) ∙ also.there)

  -- ---- rows of a page that is well formed

  good_count : (dir : Tag) (hash page : ℕ) (home : Home) (bytes : List ℕ) → IsPage dir page home bytes → IsDirPage bytes → count_hash hash (rows_of bytes) ≡ count_by (has_key dir hash page) rows
  good_count dir hash page home bytes is good =
      sym (counted_placed hash at 0 (rows_of bytes)) ∙ sym (count_passing (is_named_so hash) placed)
      ∙ as_long (passing (is_named_so hash) placed) (passing (has_key dir hash page) rows) (passing_once (is_named_so hash) placed (placed_apart at (rows_of bytes)))
      (passing_once (has_key dir hash page) rows (order_parts rows are.order)) (λ place. (to_rows place, from_rows place))
      ∙ count_passing (has_key dir hash page) rows
    where
      at : PageAt
      at = record { dir = dir; page = page; home = home }

      placed : List RowThere
      placed = rows_placed at 0 (rows_of bytes)

      to_rows : (place : RowPlace) → Contains (passing (is_named_so hash) placed) place → Contains (passing (has_key dir hash page) rows) place
      to_rows place among =
          let found = among_at (passing (is_named_so hash) placed) place among in
          let (j, r, there, passes, same) = passes_there (is_named_so hash) placed found.0 place found.1 in
          let back = placed_back at 0 (rows_of bytes) j r there in
          let number_is = back.place_is in
          let k_same : j ≡ r.place = omega (arith, number_is) in
          let row_at : slice_get (rows_of bytes) r.place ≡ Some r.row = ap (slice_get (rows_of bytes)) (sym k_same) ∙ back.there in
          let q : RowThere = record { at = at; place = r.place; row = r.row } in
          let read = row_read pages frame table number rows are (place_of q) r.row home (record { bytes = bytes; is = is; good = good; there = row_at }) in
          let passed = there_passes (has_key dir hash page) rows read.0 q read.1 (parts_key dir hash page q refl passes refl) in
          let same_place : place_of q ≡ place = ap (λ (a : PageAt). let p : RowPlace = record { dir = a.dir; page = a.page; place = r.place } in p) (sym back.at_is) ∙ same in
          at_among (passing (has_key dir hash page) rows) passed.0 place (passed.1 ∙ ap (λ (p : RowPlace). Some p) same_place)

      from_rows : (place : RowPlace) → Contains (passing (has_key dir hash page) rows) place → Contains (passing (is_named_so hash) placed) place
      from_rows place among =
          let found = among_at (passing (has_key dir hash page) rows) place among in
          let (j, r, there, passes, same) = passes_there (has_key dir hash page) rows found.0 place found.1 in
          let (dir_is, named, page_is) = key_parts dir hash page r passes in
          let row = row_is pages frame table number rows are j r there in
          let its = subst (λ (n : ℕ). IsPage dir n r.at.home row.bytes) page_is (subst (λ (d : Tag). IsPage d r.at.page r.at.home row.bytes) dir_is row.is) in
          let here : r.at.home ≡ home = one_home dir page r.at.home home row.bytes bytes its is in
          let bytes_are : row.bytes ≡ bytes = one_page dir page r.at.home home row.bytes bytes its is in
          let row_at = subst (λ (b : List ℕ). slice_get (rows_of b) r.place ≡ Some r.row) bytes_are row.there in
          let stands = placed_at at 0 (rows_of bytes) r.place r.row row_at in
          let q : RowThere = record { at = at; place = 0 + r.place; row = r.row } in
          let passed = there_passes (is_named_so hash) placed r.place q stands named in
          let zero_on : 0 + r.place ≡ r.place = omega arith in
          let same_place : place_of q ≡ place = (λ i. let p : RowPlace = record { dir = sym dir_is i; page = sym page_is i; place = zero_on i } in p) ∙ same in
          at_among (passing (is_named_so hash) placed) passed.0 place (passed.1 ∙ ap (λ (p : RowPlace). Some p) same_place)

  -- ---- and where there is none

  no_count : (dir : Tag) (hash page : ℕ) → ((home : Home) (bytes : List ℕ) → IsPage dir page home bytes → ¬ IsDirPage bytes) → count_by (has_key dir hash page) rows ≡ 0
  no_count dir hash page none = ⊎_elim (λ zero_is. omega (arith, zero_is)) (λ some. absurd (never some)) (cases_lt (count_by (has_key dir hash page) rows) 1)
    where
      never : 1 ≤ count_by (has_key dir hash page) rows → ⊥
      never some =
          let (j, r, there, passes) = counted_some (has_key dir hash page) rows some in
          let (dir_is, named, page_is) = key_parts dir hash page r passes in
          let row = row_is pages frame table number rows are j r there in
          none r.at.home row.bytes (subst (λ (n : ℕ). IsPage dir n r.at.home row.bytes) page_is (subst (λ (d : Tag). IsPage d r.at.page r.at.home row.bytes) dir_is row.is)) row.good

  pub rows_counted : (dir : Tag) (hash page count : ℕ) → CountsRows pages frame table number dir hash page count → count ≡ count_by (has_key dir hash page) rows
  rows_counted dir hash page count counts = ⊎_elim
      (λ (home, bytes, is, good, same). same ∙ good_count dir hash page home bytes is good)
      (λ (none, same). same ∙ sym (no_count dir hash page none))
      counts.is

  -- ---- whether there is one

  tag_there : (dir : Tag) (some : List FileThere) → ((k : ℕ) × (file : FileThere) × (slice_get some k ≡ Some file) × (file.tag ≡ dir)) ⊎ ((k : ℕ) (file : FileThere) → slice_get some k ≡ Some file → ¬ file.tag ≡ dir)
  tag_there dir [] = inr (λ k file at same. none_some file at)
  tag_there dir (file ∷ some) = ⊎_elim (λ same. inl (0, file, refl, same))
      (λ other. ⊎_elim (λ (k, one, at, same). inl (suc k, one, at, same)) (λ none. inr (by_place other none)) (tag_there dir some)) (tag_decided file.tag dir)
    where
      by_place : ¬ file.tag ≡ dir → ((k : ℕ) (one : FileThere) → slice_get some k ≡ Some one → ¬ one.tag ≡ dir) → (k : ℕ) (one : FileThere) → slice_get (file ∷ some) k ≡ Some one → ¬ one.tag ≡ dir
      by_place other none zero one at same = other (ap (λ (f : FileThere). f.tag) (some_same file one at) ∙ same)
      by_place other none (suc k) one at same = none k one at same

  abbrev HasGood : Tag → ℕ → Type 0
  HasGood dir page = (home : Home) × (bytes : List ℕ) × IsPage dir page home bytes × IsDirPage bytes

  abbrev HasNoGood : Tag → ℕ → Type 0
  HasNoGood dir page = (home : Home) (bytes : List ℕ) → IsPage dir page home bytes → ¬ IsDirPage bytes

  -- no page of the directory is at a home but the one that was read
  of_read : (dir : Tag) (page : ℕ) (file : FileThere) (k : ℕ) → slice_get files k ≡ Some file → file.tag ≡ dir → (home : Home) (bytes : List ℕ) → IsPage dir page home bytes
      → (file.seen.is.kind ≡ Directory) × (home_in file.seen.homes.items page ≡ Some home)
  of_read dir page file k at same home bytes is =
      let was = are_files.all dir is.cells is.seen is.has in
      let to = among_at files was.file was.among in
      let places : k ≡ to.0 = are_files.once k to.0 file was.file at to.1 (same ∙ sym was.tag_is) in
      let one : was.file ≡ file = some_same was.file file (sym to.1 ∙ ap (slice_get files) (sym places) ∙ at) in
      subst (λ (f : FileThere). (f.seen.is.kind ≡ Directory) × (home_in f.seen.homes.items page ≡ Some home)) one
      (ap (λ (a : Attributes). a.kind) was.read.is ∙ is.kind, (was.read.homes is.kind page home).1 (is.at, is.within))

  good_or_not : (dir : Tag) (page : ℕ) → HasGood dir page ⊎ HasNoGood dir page
  good_or_not dir page = ⊎_elim
      (λ (k, file, at, same). ⊎_elim (λ kind. by_home k file at same kind (home_in file.seen.homes.items page) refl)
      (λ other. inr (λ home bytes is. absurd (other (of_read dir page file k at same home bytes is).0)))
      (kind_decided file.seen.is.kind Directory))
      (λ none. inr (λ home bytes is.
      let was = are_files.all dir is.cells is.seen is.has in
      let to = among_at files was.file was.among in
      absurd (none to.0 was.file to.1 was.tag_is)))
      (tag_there dir files)
    where
      by_home : (k : ℕ) (file : FileThere) → slice_get files k ≡ Some file → file.tag ≡ dir → file.seen.is.kind ≡ Directory → (at : Option Home) → home_in file.seen.homes.items page ≡ at → HasGood dir page ⊎ HasNoGood dir page
      by_home k file at same kind None none = inr (λ home bytes is. absurd (none_some home (sym none ∙ (of_read dir page file k at same home bytes is).1)))
      by_home k file at same kind (Some home) listed = by_bytes (pages home) refl
        where
          by_bytes : (bytes : Option (List ℕ)) → pages home ≡ bytes → HasGood dir page ⊎ HasNoGood dir page
          by_bytes None none = inr (λ other bytes is.
              let here : home ≡ other = some_same home other (sym listed ∙ (of_read dir page file k at same other bytes is).1) in
              absurd (none_some bytes (sym none ∙ ap pages here ∙ is.there)))
          by_bytes (Some bytes) there = ⊎_elim (λ good. inl (home, bytes, is_page, good))
              (λ bad. inr (λ other more is good. bad (subst IsDirPage (sym (one_page dir page home other bytes more is_page is)) good)))
              (dir_page_decided bytes)
            where
              is_page : IsPage dir page home bytes
              is_page =
                  let was = are_files.each file (at_among files k file at) in
                  let is_kind = sym (ap (λ (a : Attributes). a.kind) was.read.is) ∙ kind in
                  let stands = (was.read.homes is_kind page home).0 listed in
                  subst (λ (d : Tag). IsPage d page home bytes) same (record { cells = was.cells; seen = was.seen; has = was.has; kind = is_kind; at = stands.0; within = stands.1; there = there })

  pub counts_there : (dir : Tag) (hash page : ℕ) → CountsRows pages frame table number dir hash page (count_by (has_key dir hash page) rows)
  counts_there dir hash page = record {
    is = ⊎_elim (λ (home, bytes, is, good). inl (home, bytes, is, good, sym (good_count dir hash page home bytes is good))) (λ none. inr (none, no_count dir hash page none)) (good_or_not dir page);
  }
