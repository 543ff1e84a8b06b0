-- Where no rule of tables is broken: each page of what a fileset has a cell in use says.
use Rattle.std.proofs.Common.{◌≡◌, ◌∙◌, ◌⊎◌, inl, inr, ℕ, zero, suc, Bool, true, false, cond, nat_lt, List, [], ◌∷◌, Option, Some, None, Contains, IsSomeAnd, slice_get, refl, sym, ap, subst, arith, ⊎_elim}
use Rattle.std.proofs.lemmas.List.Elements.{Contains-append_cases}
use Rattle.std.specs.Option.{option_and_then, option_map_or}
use Rattle.domain_faults.specs.domain_base.declared.place.CellAt.{CellAt}
use Rattle.domain_faults.specs.domain_base.declared.place.Home.{Home}
use Rattle.domain_faults.specs.domain_base.declared.place.Tag.{Tag}
use Rattle.domain_faults.specs.page_store.Pages.{Pages}
use Rattle.domain_faults.specs.cell_records.declared.record.Record.{Record}
use Rattle.domain_faults.specs.metadata_cells.Chain.{AreLinked, Follow, LinksFrom, PlacedCell, StandsAt, records_of}
use Rattle.domain_faults.specs.extent_maps.Runs.{Places, home_at, place_of}
use Rattle.domain_faults.specs.extent_maps.declared.run.PagePlace.{PagePlace}
use Rattle.domain_faults.specs.extent_maps.declared.run.PagePlace.TheVariants.{Absent, At, Hole}
use Rattle.domain_faults.proofs.OfExtentMaps.EditLemmas.{over, place_append}
use Rattle.domain_faults.specs.extent_records.Rows.{runs_in, runs_of}
use Rattle.domain_faults.specs.extent_records.Writing.{places_in}
use Rattle.domain_faults.specs.file_chains.Files.{places_of}
use Rattle.domain_faults.specs.fileset_files.Files.{first_record, is_removed}
use Rattle.domain_faults.specs.file_release.Reading.{own_or, read_home}
use Rattle.domain_faults.specs.fileset_table.Table.{entry_of as fileset_of}
use Rattle.domain_faults.specs.fileset_table.declared.slot.FilesetEntry.{FilesetEntry}
use Rattle.domain_faults.specs.fileset_table.declared.slot.SlotItem.{SlotItem}
use Rattle.domain_faults.specs.fileset_table.declared.slot.SlotItem.TheVariants as slots
use Rattle.domain_faults.specs.domain_layout.DirectoryRules.{Has, IsInClone, IsInItem, IsThere}
use Rattle.domain_faults.specs.domain_layout.Faults.{HasNoTablesFault}
use Rattle.domain_faults.specs.domain_layout.Layout.{IsLayout, Layout}
use Rattle.domain_faults.specs.domain_layout.Owners.{frame_of}
use Rattle.domain_faults.specs.domain_layout.Reached.{Frame}
use Rattle.domain_faults.specs.domain_layout.Seen.{IsOwn, IsSource, SeenFile, frozen_of, is_in_sync, seen_in, seen_through, source_of}
use Rattle.domain_faults.specs.domain_layout.TagRules.{HasTags, IsFirstOf}
use Rattle.domain_faults.proofs.OfDomainLayout.Named.{InChain, begins_file, goes_along, place_in}
use Rattle.domain_faults.proofs.OfDomainLayout.OnePage.{some_same}
use Rattle.domain_faults.proofs.OfFilesetShapes.OriginalFiles.{Kept, home_kept, kept, none_some}
use Rattle.domain_faults.proofs.OfDomainLayout.Files.{FirstThere, first_kind, first_used, source_named, tags_of}
use Rattle.domain_faults.proofs.OfDomainLayout.Owned.{AreTables}
use Rattle.domain_faults.specs.page_faults.Files.{HasPageAt}

-- a cell in use says that the page at a home is one of its file
abbrev pub IsFilePage : Pages → Frame → Home → Type 0
IsFilePage pages frame home = (at : CellAt) × (number : ℕ) × HasPageAt pages frame at number home

-- ---- which record says a place

-- a record of a list, and what it says
record SaidBy (records : List Record) (page : ℕ) (home : Home) : Type 0 where
  value : Record
  among : Contains records value
  place : places_in value page ≡ At home

said_by : (records : List Record) (page : ℕ) (home : Home) → place_of (runs_of records) page ≡ At home → SaidBy records page home
said_by [] page home at = absurd (let e : Absent ≡ At home = at in absurd (cc))
said_by (r ∷ rs) page home at = by_place (said_by rs page home) (places_in r page) refl (sym (place_append (runs_in r) (runs_of rs) page) ∙ at)
  where
    by_place : (place_of (runs_of rs) page ≡ At home → SaidBy rs page home) → (place : PagePlace) → places_in r page ≡ place → over place (place_of (runs_of rs) page) ≡ At home → SaidBy (r ∷ rs) page home
    by_place later (At h) here is = record { value = r; among = (0, omega arith, refl); place = here ∙ is }
    by_place later Hole here is = absurd (let e : Hole ≡ At home = is in absurd (cc))
    by_place later Absent here is =
        let rest = later is in
        record { value = rest.value; among = (suc rest.among.0, omega (arith, rest.among.1), rest.among.2); place = rest.place }

-- a record of a chain is one of a cell
record InCell (cells : List PlacedCell) (value : Record) : Type 0 where
  cell : PlacedCell
  is_of : Contains cells cell
  among : Contains cell.cell.records value

in_cell : (cells : List PlacedCell) (value : Record) → Contains (records_of cells) value → InCell cells value
in_cell [] value there = absurd (omega (arith, there.1))
in_cell (c ∷ cs) value there =
    ⊎_elim (λ here. record { cell = c; is_of = (0, omega arith, refl); among = here })
    (λ later.
    let rest = in_cell cs value later in
    record { cell = rest.cell; is_of = (suc rest.is_of.0, omega (arith, rest.is_of.1), rest.is_of.2); among = rest.among })
    (Contains-append_cases c.cell.records (records_of cs) value there)

-- ---- where what is read stands

-- a page is read from the file's own cells, or from those of its source
read_where : (frozen : ℕ) (own source : Places) (page : ℕ) (home : Home) → read_home frozen own source page ≡ Some home → (own page ≡ At home) ⊎ (source page ≡ At home)
read_where frozen own source page home at = by_own (own page) refl at
  where
    by_source : (place : PagePlace) → home_at place ≡ Some home → place ≡ At home
    by_source (At h) is = ap (λ h'. At h') (some_same h home is)
    by_source Hole is = none_some home is
    by_source Absent is = none_some home is

    by_test : (b : Bool) → cond b (home_at (source page)) None ≡ Some home → source page ≡ At home
    by_test true is = by_source (source page) is
    by_test false is = none_some home is

    by_own : (place : PagePlace) → own page ≡ place → own_or place (cond (nat_lt page frozen) (home_at (source page)) None) ≡ Some home → (own page ≡ At home) ⊎ (source page ≡ At home)
    by_own (At h) there is = inl (there ∙ ap (λ h'. At h') (some_same h home is))
    by_own Hole there is = none_some home is
    by_own Absent there is = inr (by_test (nat_lt page frozen) is)

-- what a clone has through its original the original has
through : (number : ℕ) (cells : List PlacedCell) (seen : SeenFile) → seen_through number cells ≡ Some seen → seen_in cells ≡ Some seen
through number cells seen is = by_test (option_map_or (is_in_sync number) (first_record 1 cells) false) is
  where
    by_test : (b : Bool) → cond b (seen_in cells) None ≡ Some seen → seen_in cells ≡ Some seen
    by_test true is = is
    by_test false is = none_some seen is

module _ (pages : Pages) (layout : Layout) (laid : IsLayout pages layout) (none : HasNoTablesFault pages (frame_of layout)) where
  -- ---- chains

  -- each cell of a chain whose first one is in use
  chain_used : (first : PlacedCell) (rest : List PlacedCell) → StandsAt pages first.at first.cell → ¬ ¬ InChain pages layout first.at first.cell → Follow pages first.cell.head rest
      → (c : PlacedCell) → Contains (first ∷ rest) c → StandsAt pages c.at c.cell × (¬ ¬ InChain pages layout c.at c.cell)
  chain_used first [] stands on follow c (zero, within, is) = subst (λ (d : PlacedCell). StandsAt pages d.at d.cell × (¬ ¬ InChain pages layout d.at d.cell)) is (stands, on)
  chain_used first [] stands on follow c (suc k, within, is) = absurd (omega (arith, within))
  chain_used first (d ∷ ds) stands on follow c (zero, within, is) = subst (λ (e : PlacedCell). StandsAt pages e.at e.cell × (¬ ¬ InChain pages layout e.at e.cell)) is (stands, on)
  chain_used first (d ∷ ds) stands on (leads, may, stands_d, more) c (suc k, within, is) =
      chain_used d ds stands_d (λ away. on (λ in_chain. goes_along pages layout laid none first.at d.at first.cell d.cell in_chain leads stands_d away)) more c (k, omega (arith, within), is)

  said_there : (c : PlacedCell) → StandsAt pages c.at c.cell → ¬ ¬ InChain pages layout c.at c.cell → (value : Record) → Contains c.cell.records value → (page : ℕ) (home : Home) → places_in value page ≡ At home → ¬ ¬ IsFilePage pages (frame_of layout) home
  said_there c stands on value among page home at away =
      on (λ in_chain. away (c.at, page, (c.cell, record { place = place_in pages layout laid none c.at c.cell in_chain; stands = stands }, (value, among, at))))

  links_said : (first : PlacedCell) (rest : List PlacedCell) → ¬ ¬ InChain pages layout first.at first.cell → AreLinked pages first rest → (page : ℕ) (home : Home) → places_of (first ∷ rest) page ≡ At home → ¬ ¬ IsFilePage pages (frame_of layout) home
  links_said first rest begins links page home at =
      let said = said_by (records_of (first ∷ rest)) page home at in
      let of = in_cell (first ∷ rest) said.value said.among in
      let used = chain_used first rest links.stands begins links.follow of.cell of.is_of in
      said_there of.cell used.0 used.1 said.value of.among page home said.place

  -- ---- what is there at a tag

  are_tables : AreTables pages pages layout
  are_tables = record {
    laid = laid;
    none = none;
    table = λ home at. refl;
    cells = λ vol member passed home reached may. refl;
    tags = λ number first has passed home reached may. refl;
  }

  there_said : (number : ℕ) (entry : FilesetEntry) (has : HasTags layout.table number entry.first_tag) (tag : Tag) (cells : List PlacedCell) → IsThere pages entry tag cells → (page : ℕ) (home : Home) → places_of cells page ≡ At home → ¬ ¬ IsFilePage pages (frame_of layout) home
  there_said number entry has tag [] there page home at = absurd (let e : Absent ≡ At home = at in absurd (cc))
  there_said number entry has tag (first ∷ rest) there page home at =
      links_said first rest
      (λ away. first_used pages pages layout are_tables number entry has tag first rest there (λ (f : FirstThere pages pages layout are_tables number entry has tag first).
      away (begins_file pages layout laid none first.at first.cell f.used.place f.used.stands f.kind)))
      links page home at
    where
      by_cell : (o : Option CellAt) → IsSomeAnd o (λ a. LinksFrom pages a (first ∷ rest)) → AreLinked pages first rest
      by_cell None links = absurd links
      by_cell (Some a) links = links.1

      links : AreLinked pages first rest
      links = by_cell _ there.leads

  seen_said : (number : ℕ) (entry : FilesetEntry) (has : HasTags layout.table number entry.first_tag) (tag : Tag) (cells : List PlacedCell) → IsThere pages entry tag cells → (seen : SeenFile) → seen_in cells ≡ Some seen
      → (page : ℕ) (home : Home) → seen.homes page ≡ Some home → ¬ ¬ IsFilePage pages (frame_of layout) home
  seen_said number entry has tag cells there seen is page home at =
      let k : Kept cells seen = kept cells seen is in
      there_said number entry has tag cells there page home (home_kept k.keep (places_of cells) page home (sym (k.homes page) ∙ at))

  -- ---- what a clone has

  module _ (number of clone : ℕ) (entry : FilesetEntry) (slot : slice_get layout.table.slots number ≡ Some (slots.Clone of clone entry)) (tag : Tag) where
    own_tags : HasTags layout.table number entry.first_tag
    own_tags = record { item = slots.Clone of clone entry; there = slot; has = refl }

    -- the cells of the source
    source_begins : (first : PlacedCell) (rest : List PlacedCell) → IsThere pages entry tag (first ∷ rest) → is_removed (first ∷ rest) ≡ false → (from : CellAt) → source_of (first ∷ rest) ≡ Some from
        → (one : PlacedCell) (more : List PlacedCell) → LinksFrom pages from (one ∷ more) → ¬ ¬ InChain pages layout one.at one.cell
    source_begins first rest there live from source one more links away =
        source_named pages pages layout are_tables number of clone entry slot tag first rest there live from source
        (λ f. away (begins_at (subst (IsFirstOf pages (frame_of layout) of (record { slot = first.cell.head.slot; seq = first.cell.head.seq })) (sym links.0) f)))
      where
        begins_at : IsFirstOf pages (frame_of layout) of (record { slot = first.cell.head.slot; seq = first.cell.head.seq }) one.at → InChain pages layout one.at one.cell
        begins_at f = begins_file pages layout laid none one.at one.cell f.place links.1.stands (first_kind pages layout of (record { slot = first.cell.head.slot; seq = first.cell.head.seq }) one.at one.cell f links.1.stands)

    source_said : (cells : List PlacedCell) → IsThere pages entry tag cells → is_removed cells ≡ false → (o : Option CellAt) → source_of cells ≡ o → (source : Places) → IsSource pages o source → (page : ℕ) (home : Home) → source page ≡ At home → ¬ ¬ IsFilePage pages (frame_of layout) home
    source_said cells there live None is source reads page home at = absurd (let e : Absent ≡ At home = sym (reads page) ∙ at in absurd (cc))
    source_said [] there live (Some from) is source reads page home at = absurd (let e : None ≡ Some from = is in absurd (cc))
    source_said (first ∷ rest) there live (Some from) is source (list, links, same) page home at = by_list list links (sym (same page) ∙ at)
      where
        by_list : (list : List PlacedCell) → LinksFrom pages from list → places_of list page ≡ At home → ¬ ¬ IsFilePage pages (frame_of layout) home
        by_list [] links at = absurd links
        by_list (one ∷ more) links at = links_said one more (source_begins first rest there live from is one more links) links.1 page home at

    own_said : (cells : List PlacedCell) (seen : SeenFile) → IsThere pages entry tag cells → is_removed cells ≡ false → IsOwn pages cells seen → (page : ℕ) (home : Home) → seen.homes page ≡ Some home → ¬ ¬ IsFilePage pages (frame_of layout) home
    own_said cells seen there live own page home at =
        ⊎_elim (λ here. there_said number entry own_tags tag cells there page home here)
        (λ source. source_said cells there live (source_of cells) refl own.source own.through page home source)
        (read_where (frozen_of cells) (places_of cells) own.source page home (sym (own.homes page) ∙ at))

    in_clone_said : (item : SlotItem) (original : FilesetEntry) → slice_get layout.table.slots of ≡ Some item → fileset_of item ≡ Some original → (cells : List PlacedCell) (seen : SeenFile)
        → IsInClone pages entry original clone tag cells seen → (page : ℕ) (home : Home) → seen.homes page ≡ Some home → ¬ ¬ IsFilePage pages (frame_of layout) home
    in_clone_said item original behind fileset cells seen is page home at =
        ⊎_elim (λ own. own_said cells seen own.0 own.1 own.2 page home at)
        (λ by_original.
        seen_said of original (record { item = item; there = behind; has = tags_of item original fileset }) tag cells by_original.1 seen (through clone cells seen by_original.2) page home at) is.is

  -- ---- each of them

  in_item_said : (number : ℕ) (item : SlotItem) → slice_get layout.table.slots number ≡ Some item → (tag : Tag) (cells : List PlacedCell) (seen : SeenFile)
      → IsInItem pages layout.table item tag cells seen → (page : ℕ) (home : Home) → seen.homes page ≡ Some home → ¬ ¬ IsFilePage pages (frame_of layout) home
  in_item_said number slots.Free slot tag cells seen is page home at = absurd is
  in_item_said number (slots.Removed first_tag quota) slot tag cells seen is page home at = absurd is
  in_item_said number (slots.Original entry) slot tag cells seen is page home at =
      seen_said number entry (record { item = slots.Original entry; there = slot; has = refl }) tag cells is.there seen is.is page home at
  in_item_said number (slots.Clone of clone entry) slot tag cells seen is page home at = by_item (slice_get layout.table.slots of) refl is
    where
      by_entry : (item : SlotItem) → slice_get layout.table.slots of ≡ Some item → (o : Option FilesetEntry) → fileset_of item ≡ o
          → IsSomeAnd o (λ original. IsInClone pages entry original clone tag cells seen) → ¬ ¬ IsFilePage pages (frame_of layout) home
      by_entry item behind None fileset is = absurd is
      by_entry item behind (Some original) fileset is = in_clone_said number of clone entry slot tag item original behind fileset cells seen is page home at

      by_item : (o : Option SlotItem) → slice_get layout.table.slots of ≡ o → IsSomeAnd (option_and_then fileset_of o) (λ original. IsInClone pages entry original clone tag cells seen) → ¬ ¬ IsFilePage pages (frame_of layout) home
      by_item None behind is = absurd is
      by_item (Some item) behind is = by_entry item behind (fileset_of item) refl is

  pub has_said : (number : ℕ) (tag : Tag) (cells : List PlacedCell) (seen : SeenFile) → Has pages layout.table number tag cells seen → (page : ℕ) (home : Home) → seen.homes page ≡ Some home → ¬ ¬ IsFilePage pages (frame_of layout) home
  has_said number tag cells seen has page home at = in_item_said number has.item has.there tag cells seen has.is page home at
