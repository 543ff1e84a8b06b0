-- What is wrong with an index by its pages and the rows of its directory is what the rule says.
use Rattle.std.proofs.Common.{◌≡◌, ◌∙◌, ◌⊎◌, ◌↔◌, inl, inr, zero, suc, ℕ, ◌+◌, ◌<◌, ◌≤◌, true, List, [], ◌∷◌, length, Option, Some, None, Contains, map, slice_get, refl, sym, ap, subst, arith, ⊎_elim}
use Rattle.std.specs.BTreeMap.{BTreeMap}
use Rattle.std.specs.Prelude.{Vec, unwrap_or}
use Rattle.std.specs.List.{AllByRecursion, count_by, flat_map}
use Rattle.std.proofs.lemmas.Bool.{cases_lt}
use Rattle.std.proofs.lemmas.Option.{slice_get_within}
use Rattle.page_faults.specs.domain_base.declared.place.Home.{Home}
use Rattle.page_faults.specs.domain_base.declared.place.Tag.{Tag}
use Rattle.page_faults.specs.page_store.Pages.{Pages}
use Rattle.page_faults.specs.directory_pages.Entries.{is_below}
use Rattle.page_faults.specs.directory_pages.declared.entry.IndexEntry.{IndexEntry}
use Rattle.page_faults.specs.directory_rows.Directory.{count_entries}
use Rattle.page_faults.specs.fileset_table.Table.{Table}
use Rattle.page_faults.specs.domain_layout.DirectoryRules.{AreAllPages, AreReadPages, CountsRows, IsGoodIndexPage, IsWrongIndexEntry, IsWrongTotal, entries_in}
use Rattle.page_faults.specs.domain_layout.Reached.{Frame, IsRead, IsUnread, index_way}
use Rattle.page_faults.specs.page_ways.Walk.{AreRead}
use Rattle.directory_faults.specs.Rows.{AreRowsIn}
use Rattle.directory_faults.specs.There.{AreFilesIn}
use Rattle.directory_faults.specs.declared.rows.RowThere.{RowThere}
use Rattle.directory_faults.specs.declared.there.FileThere.{FileThere}
use Rattle.directory_faults.proofs.Inserted.{among_at, at_among}
use Rattle.index_row_faults.specs.Counts.{is_key}
use Rattle.index_row_faults.specs.Entries.{IsLateBefore, entries_at, entries_on, page_at}
use Rattle.index_row_faults.specs.Keys.{AreKeys, has_key, keys_in}
use Rattle.index_row_faults.specs.Totals.{AreGoodPages, HasSurplus, IsShort, key_of}
use Rattle.index_row_faults.specs.declared.entries.EntryAt.{EntryAt}
use Rattle.index_row_faults.specs.declared.there.IndexThere.{IndexThere}
use Rattle.index_row_faults.proofs.Flat.{Stands, are_read_pages, at_flat, flat_at, get_map, map_get, offset, offsets_rise, one_index}
use Rattle.index_row_faults.proofs.FlatCounts.{flat_count, flat_length}
use Rattle.index_row_faults.proofs.OneIndex.{IsWrongOf}
use Rattle.index_row_faults.proofs.RowKeys.{counts_there, rows_counted}

none_some : {X : Type 0} (x : X) → None ≡ Some x → ⊥
none_some x e = cc

some_same : {X : Type 0} (a b : X) → Some a ≡ Some b → a ≡ b
some_same a b e = cc

module _ {X Y : Type 0} (f : X → Y) (P : Y → Type 0) where
  all_of : (xs : List X) → ((k : ℕ) (x : X) → slice_get xs k ≡ Some x → P (f x)) → AllByRecursion P (map f xs)
  all_of [] each = tt
  all_of (x ∷ xs) each = (each 0 x refl, all_of xs (λ k y at. each (suc k) y at))

  of_all : (xs : List X) → AllByRecursion P (map f xs) → (k : ℕ) (x : X) → slice_get xs k ≡ Some x → P (f x)
  of_all [] all k x at = absurd (none_some x at)
  of_all (y ∷ xs) all zero x at = subst (λ (z : X). P (f z)) (some_same y x at) all.0
  of_all (y ∷ xs) all (suc k) x at = of_all xs all.1 k x at

-- an entry of an index is wrong, on one of the pages that are read of it
abbrev pub IsEntryFault : Pages → Frame → Table → ℕ → Tag → Home → Home → Type 0
IsEntryFault pages frame table number tag first home = (place : ℕ) × (page : List ℕ) × (pages_of : List (List ℕ)) × IsRead pages frame (index_way first) place home page
    × AreReadPages pages frame first pages_of × IsWrongIndexEntry pages frame table number tag pages_of place

module _ {Z : Type 0} (pages : Pages) (frame : Frame) (table : Table) (number : ℕ) (files : List FileThere) (rows : List RowThere)
    (are_files : AreFilesIn pages frame table number files) (are_rows : AreRowsIn pages frame table number rows) (keys : BTreeMap Tag (Vec (ℕ × ℕ) Z)) (are_keys : AreKeys rows keys)
    (index : IndexThere) (homes : List Home) (unread : Option Home) (read : AreRead pages frame (index_way index.first) homes unread) where
  abbrev entries : List EntryAt
  entries = entries_on pages homes

  -- the pages of the index, as they stand
  abbrev index_pages : List (List ℕ)
  index_pages = map (page_at pages) homes

  abbrev its_keys : List (ℕ × ℕ)
  its_keys = keys_in keys index.tag

  are_pages : AreReadPages pages frame index.first index_pages
  are_pages = are_read_pages pages frame index.first homes read.each

  one : (other : List (List ℕ)) → AreReadPages pages frame index.first other → other ≡ index_pages
  one other are = one_index pages frame index.first homes read.each other are

  abbrev Counts : ℕ → ℕ → ℕ → Type 0
  Counts hash page count = CountsRows pages frame table number index.tag hash page count

  -- as many rows as keys
  as_keys : (hash page count : ℕ) → Counts hash page count → count ≡ count_by (is_key hash page) its_keys
  as_keys hash page count counts = rows_counted pages frame table number files rows are_files are_rows index.tag hash page count counts ∙ sym (are_keys index.tag hash page)

  keys_count : (hash page : ℕ) → Counts hash page (count_by (is_key hash page) its_keys)
  keys_count hash page = subst (λ n. Counts hash page n) (sym (are_keys index.tag hash page)) (counts_there pages frame table number files rows are_files are_rows index.tag hash page)

  -- ---- an entry, and where it stands

  record StandsOn (k : ℕ) (at : EntryAt) : Type 0 where
    pub place : ℕ
    pub j : ℕ
    pub listed : slice_get homes place ≡ Some at.home
    pub there : slice_get index_pages place ≡ Some (page_at pages at.home)
    pub is : slice_get (entries_in (page_at pages at.home)) j ≡ Some at.entry
    pub within : j < length (entries_at pages at.home)
    pub spot : k ≡ offset (entries_at pages) homes place + j

  stands_on : (k : ℕ) (at : EntryAt) → slice_get entries k ≡ Some at → StandsOn k at
  stands_on k at there =
      let found = at_flat (entries_at pages) homes k at there in
      let home : Home = found.x in
      let place_it : IndexEntry → EntryAt = λ entry. record { home = home; entry = entry } in
      let (entry, is, same) = get_map place_it (entries_in (page_at pages home)) found.j at found.is in
      subst (λ (a : EntryAt). StandsOn k a) same (record {
        place = found.place;
        j = found.j;
        listed = found.at;
        there = map_get (page_at pages) homes found.place home found.at;
        is = is;
        within = slice_get_within (entries_at pages home) found.j at found.is;
        spot = found.number;
      })

  -- the entry with a number of the page on a place
  record IsOn (place k : ℕ) (home : Home) (entry : IndexEntry) : Type 0 where
    pub listed : slice_get homes place ≡ Some home
    pub within : k < length (entries_at pages home)
    pub at : slice_get entries (offset (entries_at pages) homes place + k) ≡ Some (record { home = home; entry = entry })

  is_on : (place k : ℕ) (page : List ℕ) (entry : IndexEntry) → slice_get index_pages place ≡ Some page → slice_get (entries_in page) k ≡ Some entry → (home : Home) × IsOn place k home entry
  is_on place k page entry there is =
      let (home, listed, same) = get_map (page_at pages) homes place page there in
      let its = subst (λ (b : List ℕ). slice_get (entries_in b) k ≡ Some entry) (sym same) is in
      let place_it : IndexEntry → EntryAt = λ e. record { home = home; entry = e } in
      let placed_so = map_get place_it (entries_in (page_at pages home)) k entry its in (
        home,
        record {
          listed = listed;
          within = slice_get_within (entries_at pages home) k (place_it entry) placed_so;
          at = flat_at (entries_at pages) homes place k home (place_it entry) listed placed_so;
        },
      )

  -- ---- entries that are late, or too many

  abbrev IsHere : Home → Type 0
  IsHere home = IsEntryFault pages frame table number index.tag index.first home

  abbrev IsFoundEntry : Home → Type 0
  IsFoundEntry home = IsLateBefore entries (length entries) home ⊎ HasSurplus its_keys entries home

  entry_by : (home : Home) (place : ℕ) (page : List ℕ) → IsRead pages frame (index_way index.first) place home page → (wrong : IsWrongIndexEntry pages frame table number index.tag index_pages place) (other : Home) → IsOn place wrong.k other wrong.entry → IsFoundEntry home
  entry_by home place page is_read wrong other on =
      let at : EntryAt = record { home = other; entry = wrong.entry } in
      let same : home ≡ other = some_same home other (sym ((read.each place home).1 (page, is_read)) ∙ on.listed) in
      let stands : ℕ = offset (entries_at pages) homes place + wrong.k in
      ⊎_elim
      (λ (earlier, j, before, bytes, there, is, order, below).
      let front = is_on earlier j bytes before there is in
      let first : EntryAt = record { home = front.0; entry = before } in
      let less : offset (entries_at pages) homes earlier + j < stands = ⊎_elim
      (λ low. let rise = offsets_rise (entries_at pages) homes earlier place j front.0 other front.1.listed on.listed low front.1.within in omega (arith, rise))
      (λ (alike, low). let offsets = ap (offset (entries_at pages) homes) alike in omega (arith, offsets, low)) order in
      inl (stands, offset (entries_at pages) homes earlier + j, at, first, slice_get_within entries stands at on.at, less, on.at, front.1.at, below, same))
      (λ (count, counts, less).
      let rows_are = as_keys wrong.entry.hash wrong.entry.page count counts in
      let entries_are = flat_count pages wrong.entry.hash wrong.entry.page homes in
      inr (at, at_among entries stands at on.at, omega (arith, less, rows_are, entries_are), same))
      wrong.wrong

  entry_found : (home : Home) → IsHere home → IsFoundEntry home
  entry_found home (place, page, pages_of, is_read, are, wrong) =
      let here = subst (λ (ps : List (List ℕ)). IsWrongIndexEntry pages frame table number index.tag ps place) (one pages_of are) wrong in
      let (other, on) = is_on place here.k here.page here.entry here.there here.is in
      entry_by home place page is_read here other on

  found_entry : (home : Home) → IsFoundEntry home → IsHere home
  found_entry home (inl (k, j, at, before, within, less, at_k, at_j, below, same)) =
      let its = stands_on k at at_k in
      let front = stands_on j before at_j in
      let (page, is_read) = (read.each its.place at.home).0 its.listed in (
        its.place,
        page,
        index_pages,
        subst (λ (h : Home). IsRead pages frame (index_way index.first) its.place h page) (sym same) is_read,
        are_pages,
        record {
          page = page_at pages at.home;
          there = its.there;
          k = its.j;
          entry = at.entry;
          is = its.is;
          wrong = inl (front.place, front.j, before.entry, page_at pages before.home, front.there, front.is, in_order its front, below);
        },
      )
    where
      in_order : (its : StandsOn k at) (front : StandsOn j before) → (front.place < its.place) ⊎ ((front.place ≡ its.place) × (front.j < its.j))
      in_order its front = ⊎_elim (λ low. inl low)
          (λ high. ⊎_elim
          (λ far.
          let rise = offsets_rise (entries_at pages) homes its.place front.place its.j at.home before.home its.listed front.listed far its.within in
          let its_spot = its.spot in
          let front_spot = front.spot in
          absurd (omega (arith, rise, less, its_spot, front_spot)))
          (λ near.
          let alike : front.place ≡ its.place = omega (arith, high, near) in
          let offsets = ap (offset (entries_at pages) homes) alike in
          let its_spot = its.spot in
          let front_spot = front.spot in
          inr (alike, omega (arith, offsets, less, its_spot, front_spot)))
          (cases_lt its.place front.place))
          (cases_lt front.place its.place)
  found_entry home (inr (at, among, less, same)) =
      let (k, at_k) = among_at entries at among in
      let its = stands_on k at at_k in
      let (page, is_read) = (read.each its.place at.home).0 its.listed in
      let entries_are = flat_count pages at.entry.hash at.entry.page homes in (
        its.place,
        page,
        index_pages,
        subst (λ (h : Home). IsRead pages frame (index_way index.first) its.place h page) (sym same) is_read,
        are_pages,
        record {
          page = page_at pages at.home;
          there = its.there;
          k = its.j;
          entry = at.entry;
          is = its.is;
          wrong = inr (count_by (is_key at.entry.hash at.entry.page) its_keys, keys_count at.entry.hash at.entry.page, omega (arith, less, entries_are));
        },
      )

  -- ---- the total

  abbrev IsTotalFault : Type 0
  IsTotalFault = IsWrongTotal pages frame table number index.tag index.first index.total

  abbrev IsFoundTotal : Type 0
  IsFoundTotal = (unread ≡ None) × AreGoodPages pages homes × IsShort its_keys entries index.total

  total_found : IsTotalFault → IsFoundTotal
  total_found wrong = (none_unread unread refl, good, short wrong_here)
    where
      same : wrong.index ≡ index_pages
      same = one wrong.index wrong.are.read

      wrong_here : (¬ index.total ≡ length (flat_map entries_in index_pages))
          ⊎ ((hash : ℕ) × (page : ℕ) × (count : ℕ) × Counts hash page count × (count_entries hash page (flat_map entries_in index_pages) < count))
      wrong_here = subst (λ (ps : List (List ℕ)). (¬ index.total ≡ length (flat_map entries_in ps)) ⊎ ((hash : ℕ) × (page : ℕ) × (count : ℕ) × Counts hash page count × (count_entries hash page (flat_map entries_in ps) < count))) same wrong.wrong

      none_unread : (o : Option Home) → unread ≡ o → unread ≡ None
      none_unread None is = is
      none_unread (Some h) is = absurd (wrong.are.whole h ((read.wrong h).0 is))

      good : AreGoodPages pages homes
      good home among =
          let (k, at) = among_at homes home among in
          let (page, is_read) = (read.each k home).0 at in
          let there = is_read.there in
          let is_good = of_all (page_at pages) IsGoodIndexPage homes (subst (AllByRecursion IsGoodIndexPage) same wrong.are.good) k home at in
          (page, there, subst IsGoodIndexPage (page_is home page there) is_good)
        where
          page_is : (home : Home) (page : List ℕ) → pages home ≡ Some page → page_at pages home ≡ page
          page_is home page is = ap (λ o. unwrap_or o []) is

      short : (¬ index.total ≡ length (flat_map entries_in index_pages))
          ⊎ ((hash : ℕ) × (page : ℕ) × (count : ℕ) × Counts hash page count × (count_entries hash page (flat_map entries_in index_pages) < count))
          → IsShort its_keys entries index.total
      short (inl other) = inl (λ is. other (is ∙ flat_length pages homes))
      short (inr (hash, page, count, counts, less)) =
          let rows_are = as_keys hash page count counts in
          let entries_are = flat_count pages hash page homes in
          inr (hash, page, omega (arith, less, rows_are, entries_are))

  found_total : IsFoundTotal → IsTotalFault
  found_total (none, good, short) = record {
    index = index_pages;
    are = record {
      read = are_pages;
      whole = λ h is. none_some h (sym none ∙ (read.wrong h).1 is);
      good = all_of (page_at pages) IsGoodIndexPage homes each;
    };
    wrong = ⊎_elim (λ other. inl (λ is. other (is ∙ sym (flat_length pages homes))))
        (λ (hash, page, less).
        let entries_are = flat_count pages hash page homes in
        inr (hash, page, count_by (is_key hash page) its_keys, keys_count hash page, omega (arith, less, entries_are)))
        short;
  }
    where
      each : (k : ℕ) (home : Home) → slice_get homes k ≡ Some home → IsGoodIndexPage (page_at pages home)
      each k home at =
          let (page, there, is_good) = good home (at_among homes k home at) in
          let whole : page_at pages home ≡ page = ap (λ o. unwrap_or o []) there in
          subst IsGoodIndexPage (sym whole) is_good

  -- ---- both

  pub index_found : (home : Home) → IsWrongOf pages frame its_keys index homes unread home ↔ (IsHere home ⊎ ((home ≡ index.first) × IsTotalFault))
  index_found home = (
    λ wrong. ⊎_elim (λ late. inl (found_entry home (inl late)))
        (λ rest. ⊎_elim (λ many. inl (found_entry home (inr many))) (λ (same, none, good, short). inr (same, found_total (none, good, short))) rest) wrong,
    λ wrong. ⊎_elim (λ entry. ⊎_elim (λ late. inl late) (λ many. inr (inl many)) (entry_found home entry))
        (λ (same, total). let (none, good, short) = total_found total in inr (inr (same, none, good, short))) wrong,
  )
