-- The pages of an index, read from its first page on.
use Rattle.std.proofs.Common.{◌≡◌, ◌∙◌, ℕ, suc, ◌+◌, ◌≤◌, List, [], ◌∷◌, ◌++◌, length, Option, Some, None, IsSomeAnd, slice_get, refl, sym, ap, subst, arith}
use Rattle.std.specs.Option.{option_map}
use Rattle.std.specs.Prelude.{map, unwrap_or}
use Rattle.filesets_reading.specs.domain_base.declared.place.CellAt.{CellAt}
use Rattle.filesets_reading.specs.domain_base.declared.place.Home.{Home}
use Rattle.filesets_reading.specs.page_store.Bitfiles.{shown_index}
use Rattle.filesets_reading.specs.page_store.Pages.{Pages}
use Rattle.filesets_reading.specs.cell_records.Fields.{number_at}
use Rattle.filesets_reading.specs.cell_records.Records.{Allowed}
use Rattle.filesets_reading.specs.cell_records.declared.record.Record.{Record}
use Rattle.filesets_reading.specs.cell_records.declared.record.Record.TheVariants as written
use Rattle.filesets_reading.specs.metadata_cells.Cell.{Cell, record_of}
use Rattle.filesets_reading.specs.metadata_cells.Chain.{PlacedCell, StandsAt}
use Rattle.filesets_reading.specs.tag_dirs.TagPage.{next_of}
use Rattle.filesets_reading.specs.file_chains.Files.{HasFile, IsFile}
use Rattle.filesets_reading.specs.fileset_files.Files.{first_record}
use Rattle.filesets_reading.specs.fileset_files.Shown.{AreIndexPages}
use Rattle.filesets_reading.proofs.OfFilesetFiles.Room.{allowed_found}
use Rattle.filesets_reading.specs.domain_layout.DirectoryRules.{AreReadPages}
use Rattle.filesets_reading.specs.domain_layout.Reached.{Frame, IsRead, Reaches, begins, goes_on, index_way, on_volume}
use Rattle.filesets_reading.proofs.OfDomainLayout.OnePage.{some_same}
use Rattle.filesets_reading.proofs.OfDomainLayout.OwnedOnce.{on_a_volume}
use Rattle.filesets_reading.proofs.Ways.{IsWayTo, IsWholeWay, comes_read, get_map, map_pushed, pushed, way_begins, way_ends, way_on}
use Rattle.fileset_shapes.specs.Stored.{bytes_at}
use Rattle.fileset_shapes.specs.Found.{index_shown}
use Rattle.fileset_shapes.specs.Indexes.{HasIndexVolume, IsReadIndex}

-- ---- the record of an index

index_volume : (r : Record) → Allowed r → HasIndexVolume r
unfolding Allowed
index_volume (written.DirIndex vol page entries) is = is.0
index_volume _ is = tt

pub first_index : (pages : Pages) (at : CellAt) (r : Record) → HasFile pages at → ((cells : List PlacedCell) → IsFile pages at cells → Some r ≡ first_record 9 cells) → HasIndexVolume r
first_index pages at r has same = by_cells has.0 has.1 (same has.0 has.1)
  where
    by_cells : (cells : List PlacedCell) → IsFile pages at cells → Some r ≡ first_record 9 cells → HasIndexVolume r
    by_cells [] is there = absurd is
    by_cells (first ∷ rest) is there = index_volume r (allowed_found 9 first.cell.records r (sym there) is.1.links.stands.is.well_formed.allowed)

-- ---- pages

-- an index page is next where a page leads, on a volume that there may be
next_on : (page : List ℕ) → number_at 4 8 page ≤ 8 → (o : Option Home) → next_of page ≡ o → on_volume (next_of page) ≡ next_of page
next_on page small None none = ap on_volume none ∙ sym none
next_on page small (Some home) next = on_a_volume page home next small ∙ sym next

module _ (pages : Pages) (frame : Frame) (first : Home) (whole : IsReadIndex pages frame first) where
  pub index_begins : IsWayTo pages frame (index_way first) [] first
  index_begins = way_begins pages frame (index_way first) whole.read

  pub index_comes : (homes : List Home) (onto : Home) → IsWayTo pages frame (index_way first) homes onto → (page : List ℕ) × (pages onto ≡ Some page)
  index_comes homes onto way = let read = comes_read pages frame (index_way first) whole.read homes onto way in (read.0, read.1.there)

  pub index_on : (homes : List Home) (onto : Home) → IsWayTo pages frame (index_way first) homes onto → (page : List ℕ) → pages onto ≡ Some page → (next : Home) → on_volume (next_of page) ≡ Some next
      → IsWayTo pages frame (index_way first) (homes ++ onto ∷ []) next
  index_on homes onto way page there next leads = way_on pages frame (index_way first) whole.read homes onto way page there next leads

  -- from a place of the way on the pages are those of an index
  from_place : (all : List Home) → IsWholeWay pages frame (index_way first) all → (rest : List Home) (k : ℕ) → ((j : ℕ) → slice_get rest j ≡ slice_get all (k + j)) → AreIndexPages pages (slice_get rest 0) (index_shown pages rest)
  from_place all way [] k same = tt
  from_place all way (home ∷ rest) k same =
      let so = way.each (k + 0) home (sym (same 0)) in
      let small : number_at 4 8 so.page ≤ 8 = whole.next (k + 0) home so.page so.read in
      let behind : slice_get rest 0 ≡ next_of so.page = same 1 ∙ ap (slice_get all) (step k) ∙ sym so.leads ∙ next_on so.page small (next_of so.page) refl in
      let later : AreIndexPages pages (slice_get rest 0) (index_shown pages rest) = from_place all way rest (suc k) (λ j. same (suc j) ∙ ap (slice_get all) (shift k j)) in
      subst (λ o. IsSomeAnd o (λ stored. (shown_index (unwrap_or (pages home) []) ≡ shown_index stored) × AreIndexPages pages (next_of stored) (index_shown pages rest))) (sym so.read.there)
      (ap (λ o. shown_index (unwrap_or o [])) so.read.there, subst (λ o. AreIndexPages pages o (index_shown pages rest)) behind later)
    where
      step : (k : ℕ) → k + 1 ≡ suc (k + 0)
      step k = omega arith

      shift : (k j : ℕ) → k + suc j ≡ suc k + j
      shift k j = omega arith

  pub index_ends : (homes : List Home) (onto : Home) → IsWayTo pages frame (index_way first) homes onto → (page : List ℕ) → pages onto ≡ Some page → on_volume (next_of page) ≡ None
      → AreIndexPages pages (Some first) (index_shown pages (homes ++ onto ∷ []))
  index_ends homes onto way page there ends =
      let all = way_ends pages frame (index_way first) whole.read homes onto way page there ends in
      subst (λ o. AreIndexPages pages o (index_shown pages (homes ++ onto ∷ []))) all.first (from_place (homes ++ onto ∷ []) all (homes ++ onto ∷ []) 0 (λ j. ap (slice_get (homes ++ onto ∷ [])) (same j)))
    where
      same : (j : ℕ) → j ≡ 0 + j
      same j = omega arith

-- what was found in a file's first cell
pub found_first : (pages : Pages) (at : CellAt) (o : Option Record) → ((cell : Cell) → StandsAt pages at cell → o ≡ record_of 9 cell.records) → (cells : List PlacedCell) → IsFile pages at cells → o ≡ first_record 9 cells
found_first pages at o same [] is = absurd is
found_first pages at o same (first ∷ rest) is = same first.cell (subst (λ a. StandsAt pages a first.cell) is.0 is.1.links.stands)

-- ---- the pages of an index that a set shows

snoc_append : {X : Type 0} (xs : List X) (x : X) (ys : List X) → (xs ++ x ∷ []) ++ ys ≡ xs ++ (x ∷ ys)
snoc_append [] x ys = refl
snoc_append (z ∷ zs) x ys = ap (λ list. z ∷ list) (snoc_append zs x ys)

map_twice : (pages : Pages) (homes : List Home) → index_shown pages homes ≡ map shown_index (map (bytes_at pages) homes)
map_twice pages [] = refl
map_twice pages (home ∷ rest) = ap (λ list. shown_index (bytes_at pages home) ∷ list) (map_twice pages rest)

module _ (pages : Pages) (frame : Frame) (first : Home) (whole : IsReadIndex pages frame first) where
  -- the homes of all pages, and a list that has what a set shows after those that were passed
  record ShownBehind (passed : List Home) (list : List (List ℕ)) : Type 0 where
    homes : List Home
    all : IsWholeWay pages frame (index_way first) homes
    shown : index_shown pages homes ≡ index_shown pages passed ++ list

  shown_behind : (list : List (List ℕ)) (passed : List Home) (home : Home) → IsWayTo pages frame (index_way first) passed home → AreIndexPages pages (Some home) list → ShownBehind passed list
  shown_behind [] passed home way are = absurd are
  shown_behind (page ∷ more) passed home way are = by_page (pages home) refl are (shown_behind more)
    where
      one_more : (stored : List ℕ) → pages home ≡ Some stored → page ≡ shown_index stored → index_shown pages (passed ++ home ∷ []) ≡ index_shown pages passed ++ page ∷ []
      one_more stored there is = map_pushed (λ h. shown_index (bytes_at pages h)) passed home ∙ ap (λ p. index_shown pages passed ++ p ∷ []) (ap (λ o. shown_index (unwrap_or o [])) there ∙ sym is)

      by_next : (stored : List ℕ) → pages home ≡ Some stored → page ≡ shown_index stored → ((passed : List Home) (onto : Home) → IsWayTo pages frame (index_way first) passed onto → AreIndexPages pages (Some onto) more → ShownBehind passed more)
          → (o : Option Home) → on_volume (next_of stored) ≡ o → (list : List (List ℕ)) → list ≡ more → AreIndexPages pages o list → ShownBehind passed (page ∷ more)
      by_next stored there is later None ends [] same are = record {
        homes = passed ++ home ∷ [];
        all = way_ends pages frame (index_way first) whole.read passed home way stored there ends;
        shown = one_more stored there is ∙ ap (λ list. index_shown pages passed ++ (page ∷ list)) same;
      }
      by_next stored there is later None ends (p ∷ ps) same are = absurd are
      by_next stored there is later (Some onto) leads list same are =
          let rest = later (passed ++ home ∷ []) onto (way_on pages frame (index_way first) whole.read passed home way stored there onto leads) (subst (AreIndexPages pages (Some onto)) same are) in
          record {
            homes = rest.homes;
            all = rest.all;
            shown = rest.shown ∙ ap (λ front. front ++ more) (one_more stored there is) ∙ snoc_append (index_shown pages passed) page more;
          }

      by_page : (o : Option (List ℕ)) → pages home ≡ o → IsSomeAnd o (λ stored. (page ≡ shown_index stored) × AreIndexPages pages (next_of stored) more)
          → ((passed : List Home) (onto : Home) → IsWayTo pages frame (index_way first) passed onto → AreIndexPages pages (Some onto) more → ShownBehind passed more) → ShownBehind passed (page ∷ more)
      by_page None none are later = absurd are
      by_page (Some stored) there are later =
          let read = comes_read pages frame (index_way first) whole.read passed home way in
          let page_same : read.0 ≡ stored = some_same read.0 stored (sym read.1.there ∙ there) in
          let small : number_at 4 8 stored ≤ 8 = subst (λ bytes. number_at 4 8 bytes ≤ 8) page_same (whole.next _ home read.0 read.1) in
          by_next stored there are.0 later (next_of stored) (next_on stored small (next_of stored) refl) more refl are.1

  -- a page that is come to is in the list of all
  comes_listed : (homes : List Home) → IsWholeWay pages frame (index_way first) homes → (passed : List Home) (home : Home) → Reaches pages frame (index_way first) passed home → slice_get homes (length passed) ≡ Some home
  comes_listed homes all passed home reached = elim reached as (λ passed home reached. slice_get homes (length passed) ≡ Some home) [
    | begins ↦ all.first
    | goes_on passed home onto page (before → earlier) may fresh there so leads ↦
        let s = all.each (length passed) home earlier in
        let same : s.page ≡ page = some_same s.page page (sym s.read.there ∙ there) in
        ap (slice_get homes) (pushed passed home) ∙ sym s.leads ∙ ap ((index_way first).next home) same ∙ leads
  ]

  bytes_there : (home : Home) (page : List ℕ) → pages home ≡ Some page → bytes_at pages home ≡ page
  bytes_there home page there = ap (λ o. unwrap_or o []) there

  all_read : (homes : List Home) → IsWholeWay pages frame (index_way first) homes → AreReadPages pages frame first (map (bytes_at pages) homes)
  all_read homes all = record { each = λ place page. (read_at place page, listed_at place page) }
    where
      by_home : (place : ℕ) (page : List ℕ) (o : Option Home) → slice_get homes place ≡ o → option_map (bytes_at pages) o ≡ Some page → (home : Home) × IsRead pages frame (index_way first) place home page
      by_home place page None none is = absurd (let e : None ≡ Some page = is in absurd (cc))
      by_home place page (Some home) at is =
          let s = all.each place home at in
          let same : s.page ≡ page = sym (bytes_there home s.page s.read.there) ∙ some_same (bytes_at pages home) page is in
          (home, subst (IsRead pages frame (index_way first) place home) same s.read)

      read_at : (place : ℕ) (page : List ℕ) → slice_get (map (bytes_at pages) homes) place ≡ Some page → (home : Home) × IsRead pages frame (index_way first) place home page
      read_at place page at = by_home place page (slice_get homes place) refl (sym (get_map (bytes_at pages) homes place) ∙ at)

      listed_at : (place : ℕ) (page : List ℕ) → ((home : Home) × IsRead pages frame (index_way first) place home page) → slice_get (map (bytes_at pages) homes) place ≡ Some page
      listed_at place page (home, read) =
          let at : slice_get homes place ≡ Some home = ap (slice_get homes) (sym read.at) ∙ comes_listed homes all read.passed home read.reached in
          get_map (bytes_at pages) homes place ∙ ap (option_map (bytes_at pages)) at ∙ ap (λ bytes. Some bytes) (bytes_there home page read.there)

  -- the pages of an index that are read, by those that a set shows
  pub record ReadIndex (list : List (List ℕ)) : Type 0 where
    pub index : List (List ℕ)
    pub read : AreReadPages pages frame first index
    pub shown : list ≡ map shown_index index

  pub read_index : (list : List (List ℕ)) → AreIndexPages pages (Some first) list → ReadIndex list
  read_index list are =
      let all = shown_behind list [] first (index_begins pages frame first whole) are in
      record { index = map (bytes_at pages) all.homes; read = all_read all.homes all.all; shown = sym all.shown ∙ map_twice pages all.homes }
