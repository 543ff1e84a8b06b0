-- Where no rule of tables is broken, pages of files and bits of bitmaps that are wrong by the frame and
-- the table are those that are wrong by the layout.
use Rattle.std.proofs.Common.{◌≡◌, ◌∙◌, ◌⊎◌, ◌↔◌, inl, inr, ℕ, ◌+◌, ◌*◌, ◌<◌, Bool, true, false, cond, nat_le, List, [], ◌∷◌, ◌++◌, length, length-append, Option, Some, None, IfSome, IsSomeAnd, slice_get, refl, sym, ap, subst, ⊎_elim}
use Rattle.std.specs.Option.{option_map}
use Rattle.tag_faults.specs.domain_base.declared.place.CellAt.{CellAt}
use Rattle.tag_faults.specs.domain_base.declared.place.Home.{Home}
use Rattle.tag_faults.specs.page_store.Pages.{Pages}
use Rattle.tag_faults.specs.domain_base.Version.{bitmap_pages}
use Rattle.tag_faults.specs.log_ring.Homes.{IsMember, member_of}
use Rattle.tag_faults.specs.tag_dirs.Directory.{IsDirectoryAt, IsPageOf, has_home, home_behind}
use Rattle.tag_faults.specs.tag_dirs.TagPage.{next_of}
use Rattle.tag_faults.specs.tag_dirs.declared.dir.TagPlace.{TagPlace}
use Rattle.tag_faults.proofs.OfFilesetFiles.Tags.{home_there}
use Rattle.tag_faults.specs.domain_layout.Faults.{HasNoTablesFault}
use Rattle.tag_faults.specs.domain_layout.Layout.{AreTagPlaces, IsLayout, Layout}
use Rattle.tag_faults.specs.domain_layout.Owners.{BelongsTo, HasExtent, HasIndexPage, HasTagPage, IsOwned, Owner, frame_of}
use Rattle.tag_faults.specs.domain_layout.Owners.Owner.{of_cells, of_file, of_index, of_log, of_table, of_tags, of_volume}
use Rattle.tag_faults.specs.domain_layout.PageRules.{IsBitmapFault, IsExtentFault, IsWrongExtent}
use Rattle.tag_faults.specs.domain_layout.Reached.{Reaches, begins, goes_on, on_volume, tags_way}
use Rattle.tag_faults.specs.domain_layout.TagRules.{HasTags}
use Rattle.tag_faults.proofs.OfDomainLayout.OnePage.{one_of, some_same}
use Rattle.tag_faults.proofs.OfDomainLayout.OwnedOnce.{cell_place, tag_place, used_on}
use Rattle.tag_faults.proofs.OfDomainLayout.Reached.{reserved_or_not, within_or_not}
use Rattle.filesets_reading.proofs.OnTables.{contains_at, is_there, on_table}
use Rattle.tag_faults.specs.cell_faults.Tables.{IsCellsHome}
use Rattle.tag_faults.specs.Directories.{HasPage}
use Rattle.tag_faults.specs.cell_chains.Runs.{on}
use Rattle.page_faults.specs.Files.{HasPageAt, HasWrongBit, HasWrongPage, IsNoFiles, IsTakenPage, SaysWrongPage}
use Rattle.page_faults.specs.Owned.{IsOfIndex, IsOfTables}
use Rattle.page_faults.specs.Wrong.{HasWrongBits}

-- ---- pages of tags

none_some : {P : Type 0} (home : Home) → None ≡ Some home → P
none_some home e = absurd (cc)

next_there : (o : Option Home) (home : Home) → on_volume o ≡ Some home → o ≡ Some home
next_there None home is = none_some home is
next_there (Some next) home is = by_test (nat_le next.vol 8) is
  where
    by_test : (b : Bool) → cond b (Some next) None ≡ Some home → Some next ≡ Some home
    by_test true is = is
    by_test false is = none_some home is

-- a place of a tag directory whose page stands at a home
record IsPlaceAt (places : List TagPlace) (k : ℕ) (home : Home) : Type 0 where
  place : TagPlace
  there : slice_get places k ≡ Some place
  at : place.home ≡ home

place_of : (places : List TagPlace) (k : ℕ) (home : Home) → option_map (λ (p : TagPlace). p.home) (slice_get places k) ≡ Some home → IsPlaceAt places k home
place_of places k home is = by_place (slice_get places k) refl is
  where
    by_place : (o : Option TagPlace) → slice_get places k ≡ o → option_map (λ (p : TagPlace). p.home) o ≡ Some home → IsPlaceAt places k home
    by_place None at is = none_some home is
    by_place (Some place) at is = record { place = place; there = at; at = some_same place.home home is }

module _ (pages : Pages) (layout : Layout) (first : Home) (places : List TagPlace) (stands : IsDirectoryAt pages first places) where
  next_place : (passed : List Home) (home onto : Home) (page : List ℕ) → IsPlaceAt places (length passed) home → pages home ≡ Some page → on_volume (next_of page) ≡ Some onto → IsPlaceAt places (length (passed ++ home ∷ [])) onto
  next_place passed home onto page is there leads =
      let here : pages is.place.home ≡ Some page = ap pages is.at ∙ there in
      let run : IsSomeAnd (pages is.place.home) (IsPageOf is.place (home_behind places (length passed))) =
      subst (λ o. IfSome o (λ place. IsSomeAnd (pages place.home) (IsPageOf place (home_behind places (length passed))))) is.there (stands.directory.run (length passed)) in
      let of : IsPageOf is.place (home_behind places (length passed)) page = subst (λ o. IsSomeAnd o (IsPageOf is.place (home_behind places (length passed)))) here run in
      let more : length passed + 1 ≡ length (passed ++ home ∷ []) = sym (length-append passed (home ∷ [])) in
      subst (λ n. IsPlaceAt places n onto) more (place_of places (length passed + 1) onto (sym of.linked ∙ next_there (next_of page) onto leads))

  first_place : IsPlaceAt places 0 first
  first_place =
      let one = one_of (slice_get places 0) (λ (place : TagPlace). place.home ≡ first) stands.begins in
      record { place = one.value; there = one.there; at = one.is }

  come_place : (passed : List Home) (home : Home) → Reaches pages (frame_of layout) (tags_way first) passed home → IsPlaceAt places (length passed) home
  come_place passed home reached = elim reached as (λ passed home reached. IsPlaceAt places (length passed) home) [
    | begins ↦ first_place
    | goes_on passed home onto page (before → earlier) may fresh there so leads ↦ next_place passed home onto page earlier there leads
  ]

  come_home : (passed : List Home) (home : Home) → Reaches pages (frame_of layout) (tags_way first) passed home → has_home places home ≡ true
  come_home passed home reached =
      let is = come_place passed home reached in
      subst (λ h. has_home places h ≡ true) is.at (subst (λ o. IfSome o (λ place. has_home places place.home ≡ true)) is.there (home_there places (length passed)))

module _ (pages : Pages) (layout : Layout) (laid : IsLayout pages layout) (none : HasNoTablesFault pages (frame_of layout)) where
  -- ---- owners that both know

  has_extent : (at : CellAt) (page : ℕ) (home : Home) → HasPageAt pages (frame_of layout) at page home ↔ HasExtent pages layout at page home
  has_extent at page home = (
    λ (cell, used, (value, among, place)). record { cell = cell; on = on_table pages layout laid at cell used.place used.stands; value = value; among = among; place = place },
    λ has. (has.cell, used_on pages layout laid none at has.cell has.on, (has.value, has.among, has.place)),
  )

  of_cells_too : (home : Home) → IsCellsHome pages (frame_of layout) home ↔ BelongsTo pages layout of_cells home
  of_cells_too home = (
    λ (place, (bytes, is)).
        let there = is_there pages layout laid home.vol is.member is.read.passed home is.read.reached in
        (is.member, contains_at (layout.cells home.vol) (length is.read.passed) home.page there.there),
    λ (member, among). let is = cell_place pages layout laid none home member among in (is.place, (is.page, is.is)),
  )

  tags_at : (number : ℕ) (first : Home) (has : HasTags layout.table number first) → IsDirectoryAt pages first (layout.tags number)
  tags_at number first has = subst (λ o. AreTagPlaces pages o (layout.tags number)) has.has (laid.tags number has.item has.there)

  of_tags_too : (number : ℕ) (home : Home) → HasPage pages (frame_of layout) layout.table number home ↔ HasTagPage layout number home
  of_tags_too number home = (
    λ (place, page, is). record {
      item = is.has.item;
      there = is.has.there;
      has = come_home pages layout is.first (layout.tags number) (tags_at number is.first is.has) is.read.passed home is.read.reached;
    },
    λ has. let is = tag_place pages layout laid none number home has in (is.place, is.page, is.is),
  )

  -- a page of the index of some file
  of_index_to : (home : Home) → IsOfIndex pages (frame_of layout) home → (at : CellAt) × (number : ℕ) × HasIndexPage pages layout at number home
  of_index_to home (at, (first, has, (passed, reached))) = (
    at,
    length passed,
    record {
      cell = has.cell;
      on = on_table pages layout laid at has.cell has.is.place has.is.stands;
      value = has.value;
      there = has.there;
      first = first;
      begins = has.begins;
      passed = passed;
      is = reached;
      behind = refl;
    },
  )

  of_index_from : (home : Home) (at : CellAt) (number : ℕ) → HasIndexPage pages layout at number home → IsOfIndex pages (frame_of layout) home
  of_index_from home at number has = (
    at,
    (
      has.first,
      record { cell = has.cell; is = used_on pages layout laid none at has.cell has.on; value = has.value; there = has.there; begins = has.begins },
      (has.passed, has.is),
    ),
  )

  -- ---- pages that are owned

  -- an owner, who is no file
  abbrev OwnedElse : Home → Type 0
  OwnedElse home = (owner : Owner) × BelongsTo pages layout owner home × ((at : CellAt) (page : ℕ) → ¬ owner ≡ of_file at page)

  table_owned : (home : Home) → IsOfTables pages (frame_of layout) layout.table home → OwnedElse home
  table_owned home (inl is) = (of_table, is, (λ at page (same : of_table ≡ of_file at page). absurd (cc)))
  table_owned home (inr (inl cells)) = (of_cells, (of_cells_too home).0 cells, (λ at page (same : of_cells ≡ of_file at page). absurd (cc)))
  table_owned home (inr (inr (inl (number, tags)))) = (of_tags number, (of_tags_too number home).0 tags, (λ at page (same : of_tags number ≡ of_file at page). absurd (cc)))
  table_owned home (inr (inr (inr index))) =
      let (cell, number, has) = of_index_to home index in
      (of_index cell number, has, (λ at page (same : of_index cell number ≡ of_file at page). absurd (cc)))

  -- a page of no file, by whom it belongs to
  from_owner : (home : Home) (owner : Owner) → BelongsTo pages layout owner home → IsTakenPage pages (frame_of layout) layout.table home
  from_owner home of_volume (member, low) = inl (inl (inl low))
  from_owner home of_log log = inl (inl (inr log))
  from_owner home of_table is = inl (inr (inl is))
  from_owner home of_cells is = inl (inr (inr (inl ((of_cells_too home).1 is))))
  from_owner home (of_tags number) is = inl (inr (inr (inr (inl (number, (of_tags_too number home).1 is)))))
  from_owner home (of_index at number) is = inl (inr (inr (inr (inr (of_index_from home at number is)))))
  from_owner home (of_file at page) is = inr (at, page, (has_extent at page home).1 is)

  taken_owned : (home : Home) → IsMember layout.anchor home.vol → IsTakenPage pages (frame_of layout) layout.table home → IsOwned pages layout home
  taken_owned home member (inl (inl (inl low))) = (of_volume, (member, low))
  taken_owned home member (inl (inl (inr log))) = (of_log, log)
  taken_owned home member (inl (inr table)) = let (owner, is, other) = table_owned home table in (owner, is)
  taken_owned home member (inr (at, page, has)) = (of_file at page, (has_extent at page home).0 has)

  -- ---- wrong pages of files

  differs : (at cell : CellAt) (page number : ℕ) → ¬ ((cell ≡ at) × (number ≡ page)) → ¬ of_file cell number ≡ of_file at page
  differs at cell page number differ same =
      let cells : cell ≡ at = cc in
      let numbers : number ≡ page = cc in
      differ (cells, numbers)

  wrong_to : (at : CellAt) → SaysWrongPage pages (frame_of layout) layout.table at → IsWrongExtent pages layout at
  wrong_to at wrong = record {
    page = wrong.page;
    home = wrong.home;
    has = (has_extent at wrong.page wrong.home).0 wrong.has;
    wrong = ⊎_elim (λ out. inl (λ may. out may.0))
        (λ others. ⊎_elim (λ no_files. ⊎_elim (λ reserved. inl (λ may. may.1 reserved)) (λ table. inr (else_wrong table)) no_files) (λ also. inr (file_wrong also)) others) wrong.wrong;
  }
    where
      else_wrong : IsOfTables pages (frame_of layout) layout.table wrong.home → (owner : Owner) × BelongsTo pages layout owner wrong.home × ¬ owner ≡ of_file at wrong.page
      else_wrong table = let (owner, is, other) = table_owned wrong.home table in (owner, is, other at wrong.page)

      file_wrong : ((cell : CellAt) × (number : ℕ) × HasPageAt pages (frame_of layout) cell number wrong.home × ¬ ((cell ≡ at) × (number ≡ wrong.page))) → (owner : Owner) × BelongsTo pages layout owner wrong.home × ¬ owner ≡ of_file at wrong.page
      file_wrong (cell, number, has, differ) = (of_file cell number, (has_extent cell number wrong.home).0 has, differs at cell wrong.page number differ)

  wrong_from : (at : CellAt) → IsWrongExtent pages layout at → SaysWrongPage pages (frame_of layout) layout.table at
  wrong_from at wrong = record {
    page = wrong.page;
    home = wrong.home;
    has = (has_extent at wrong.page wrong.home).1 wrong.has;
    wrong = ⊎_elim (λ not_may. ⊎_elim (λ within. ⊎_elim (λ reserved. inr (inl (inl reserved))) (λ free. absurd (not_may (within, free))) (reserved_or_not (frame_of layout) wrong.home)) (λ out. inl out) (within_or_not (frame_of layout) wrong.home))
        (λ owned. inr (by_owner owned.0 owned.1 owned.2)) wrong.wrong;
  }
    where
      by_owner : (owner : Owner) → BelongsTo pages layout owner wrong.home → ¬ owner ≡ of_file at wrong.page
          → IsNoFiles pages (frame_of layout) layout.table wrong.home ⊎ ((cell : CellAt) × (number : ℕ) × HasPageAt pages (frame_of layout) cell number wrong.home × ¬ ((cell ≡ at) × (number ≡ wrong.page)))
      by_owner of_volume (member, low) other = inl (inl (inl low))
      by_owner of_log log other = inl (inl (inr log))
      by_owner of_table is other = inl (inr (inl is))
      by_owner of_cells is other = inl (inr (inr (inl ((of_cells_too wrong.home).1 is))))
      by_owner (of_tags number) is other = inl (inr (inr (inr (inl (number, (of_tags_too number wrong.home).1 is)))))
      by_owner (of_index cell number) is other = inl (inr (inr (inr (inr (of_index_from wrong.home cell number is)))))
      by_owner (of_file cell number) is other = inr (cell, number, (has_extent cell number wrong.home).1 is, (λ (same, page). other (λ i. of_file (same i) (page i))))

  pub pages_by_layout : (home : Home) → HasWrongPage pages (frame_of layout) layout.table home ↔ IsExtentFault pages layout home
  pages_by_layout home = ((λ (at, same, wrong). (at, same, wrong_to at wrong)), (λ (at, same, wrong). (at, same, wrong_from at wrong)))

  -- ---- wrong bits of bitmaps

  bit_to : (vol : ℕ) (home : Home) (number : ℕ) → IsMember layout.anchor vol → number < bitmap_pages layout.version (member_of layout.anchor vol).pages
      → HasWrongBits pages (frame_of layout) (λ n. IsTakenPage pages (frame_of layout) layout.table (on vol n)) vol home number → IsBitmapFault pages layout home
  bit_to vol home number member within wrong =
      let (bit, some, bad) = wrong.wrong in
      subst (IsBitmapFault pages layout) (sym wrong.at)
      (record {
        member = member;
        number = number;
        within = within;
        at = refl;
        bytes = wrong.page;
        there = sym (ap pages wrong.at) ∙ wrong.there;
        bit = bit;
        some = some;
        wrong = λ right. bad (
          (λ set. ⊎_elim (λ owned. inl (from_owner (on vol (65536 * number + bit)) owned.0 owned.1)) (λ past. inr past) (right.0 set)),
          (λ which. right.1 (⊎_elim (λ taken. inl (taken_owned (on vol (65536 * number + bit)) member taken)) (λ past. inr past) which)),
        );
      })

  bit_from : (home : Home) (fault : IsBitmapFault pages layout home) → HasWrongBits pages (frame_of layout) (λ n. IsTakenPage pages (frame_of layout) layout.table (on home.vol n)) home.vol home fault.number
  bit_from home fault = record {
    at = (λ i. record { vol = home.vol; page = fault.at i });
    page = fault.bytes;
    there = fault.there;
    wrong = (
      fault.bit,
      fault.some,
      λ right. fault.wrong (
        (λ set. ⊎_elim (λ taken. inl (taken_owned (on home.vol (65536 * fault.number + fault.bit)) fault.member taken)) (λ past. inr past) (right.0 set)),
        (λ which. right.1 (⊎_elim (λ owned. inl (from_owner (on home.vol (65536 * fault.number + fault.bit)) owned.0 owned.1)) (λ past. inr past) which)),
      ),
    );
  }

  pub bits_by_layout : (home : Home) → HasWrongBit pages (frame_of layout) layout.table home ↔ IsBitmapFault pages layout home
  bits_by_layout home = (
    λ (vol, member, (number, within, wrong)). bit_to vol home number member within wrong,
    λ fault. (home.vol, fault.member, (fault.number, fault.within, bit_from home fault)),
  )
