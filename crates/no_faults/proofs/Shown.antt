-- Where a domain stands: what a fileset has at a tag is shown by its set, a directory with the pages at its homes.
use Rattle.std.proofs.Common.{◌≡◌, ◌∙◌, ℕ, ◌*◌, ◌<◌, ◌≤◌, false, cond, nat_lt, List, [], ◌∷◌, length, Option, Some, None, IfSome, IsSomeAnd, slice_get, refl, sym, ap, subst, arith, ⊎_elim}
use Rattle.std.proofs.lemmas.Bool.{cases_Bool, cases_lt, lt-ltb, ltb-true, true≢false}
use Rattle.std.specs.Option.{option_and_then, option_map}
use Rattle.domain_memory.specs.domain_base.Limits.{file_pages, page_bytes}
use Rattle.domain_memory.specs.domain_base.declared.place.CellAt.{CellAt}
use Rattle.domain_memory.specs.domain_base.declared.place.Home.{Home}
use Rattle.domain_memory.specs.domain_base.declared.place.Kind.TheVariants.{Directory}
use Rattle.domain_memory.specs.domain_base.declared.place.Tag.{Tag}
use Rattle.domain_memory.specs.page_store.Bitfiles.{Bitfile}
use Rattle.domain_memory.specs.page_store.Pages.{Pages}
use Rattle.domain_memory.specs.cell_records.declared.record.Record.{Record}
use Rattle.domain_memory.specs.cell_records.declared.record.Record.TheVariants as written
use Rattle.domain_memory.specs.metadata_cells.Chain.{LinksFrom, PlacedCell}
use Rattle.domain_memory.specs.tag_dirs.Directory.{cell_of}
use Rattle.domain_memory.specs.extent_maps.Runs.{Places, home_at}
use Rattle.domain_memory.specs.extent_maps.declared.run.PagePlace.{PagePlace}
use Rattle.domain_memory.specs.extent_maps.declared.run.PagePlace.TheVariants.{Absent, At, Hole}
use Rattle.domain_memory.specs.extent_records.Writing.{places_before}
use Rattle.domain_memory.specs.file_chains.Files.{IsFile, places_of}
use Rattle.domain_memory.specs.fileset_files.Files.{LeadsToFile, attributes_in, attributes_of, first_record, is_removed, keep_in, keep_of}
use Rattle.domain_memory.specs.fileset_files.Index.{index_place_of}
use Rattle.domain_memory.specs.fileset_files.Shown.{IsWhat, ShowsAt, ShowsFile, page_there, shown_page}
use Rattle.domain_memory.specs.fileset_files.State.{FileState, state_of, state_with, states_of}
use Rattle.domain_memory.specs.fileset_files.declared.attributes.Attributes.{Attributes}
use Rattle.domain_memory.specs.stored_set.Whole.{IsWholeAt, IsWholeDirectory}
use Rattle.domain_memory.specs.fileset_model.Filesets.{FilesetMap}
use Rattle.domain_memory.specs.fileset_table.declared.slot.FilesetEntry.{FilesetEntry}
use Rattle.domain_memory.specs.fileset_table.declared.slot.SlotItem.{SlotItem}
use Rattle.domain_memory.specs.fileset_table.declared.slot.SlotItem.TheVariants as slot
use Rattle.domain_memory.proofs.OfFilesetShapes.OriginalFiles.{Kept, kept}
use Rattle.domain_memory.specs.domain_layout.CellRules.{of_clone}
use Rattle.domain_memory.specs.domain_layout.DirectoryRules.{Has, IsInItem, IsInOriginal}
use Rattle.domain_memory.specs.domain_layout.Seen.{SeenFile, kept_by, seen_in}
use Rattle.domain_memory.specs.domain_layout.Shape.{HasChains}
use Rattle.domain_memory.proofs.OfDomainLayout.OneShape.{links_same}
use Rattle.domain_memory.proofs.OfDomainLayout.There.{chain_is}
use Rattle.domain_memory.proofs.OfDomainLayout.OnePage.{HasOne, one_of, some_same}
use Rattle.domain_memory.proofs.OfFilesetsReading.Ways.{within_of}
use Rattle.domain_memory.specs.domain_standing.Domain.{DomainNow, item_in}
use Rattle.domain_memory.specs.domain_standing.Standing.{StandsDomain}
use Rattle.no_faults.proofs.FaultNamed.{NamesChain, names_chain}
use Rattle.no_faults.proofs.Originals.{IsOriginalSlot, original_of}
use Rattle.no_faults.proofs.Ways.{nothing}

not_low : (page : ℕ) → file_pages ≤ page → nat_lt page file_pages ≡ false
not_low page high = ⊎_elim (λ low. absurd (let less = ltb-true page file_pages low in omega (arith, less, high))) (λ other. other) (cases_Bool (nat_lt page file_pages))

absent_at : {P : Type 0} (home : Home) → Absent ≡ At home → P
absent_at home is = absurd (cc)

none_at : (p : PagePlace) (home : Home) → home_at p ≡ Some home → p ≡ At home
none_at Absent home is = nothing home is
none_at (At h) home is = ap At (some_same h home is)
none_at Hole home is = nothing home is

-- a page of a place that is there is at a home
page_home : (pages : Pages) (p : PagePlace) (bytes : List ℕ) → page_there pages p ≡ Some bytes → (home : Home) × (p ≡ At home) × (pages home ≡ Some bytes)
page_home pages Absent bytes is = nothing bytes is
page_home pages (At home) bytes is = (home, refl, is)
page_home pages Hole bytes is = nothing bytes is

-- ---- what the cells of a file say

-- the homes are those of the pages that it keeps
homes_by : (cells : List PlacedCell) (seen : SeenFile) → seen_in cells ≡ Some seen → is_removed cells ≡ false → attributes_of cells ≡ Some seen.is → (keep : ℕ) → keep_of cells ≡ Some keep
    → (page : ℕ) → seen.homes page ≡ home_at (places_before keep (places_of cells) page)
homes_by cells seen sees live what keep keeps page = ap (λ (x : SeenFile). x.homes page) (some_same seen (record { is = seen.is; homes = λ p. home_at (places_before keep (places_of cells) p) }) (sym sees ∙ kept_so))
  where
    kept_so : seen_in cells ≡ Some (record { is = seen.is; homes = λ p. home_at (places_before keep (places_of cells) p) })
    kept_so =
        (λ i. cond (live i) None (option_and_then (kept_by cells) (what i)))
        ∙ ap (option_map (λ n. record { is = seen.is; homes = λ p. home_at (places_before n (places_of cells) p) })) keeps

-- its state
pub record IsStateOf (cells : List PlacedCell) (state : FileState) : Type 0 where
  pub attributes : attributes_of cells ≡ Some state.attributes
  pub keep : keep_of cells ≡ Some state.keep
  pub places : state.places ≡ places_of cells
  pub index : state.index ≡ index_place_of cells

state_is : (cells : List PlacedCell) (state : FileState) → state_of cells ≡ Some state → IsStateOf cells state
state_is cells state is = by_record (first_record 1 cells) refl is
  where
    by_record : (o : Option Record) → first_record 1 cells ≡ o → option_and_then (state_with cells) o ≡ Some state → IsStateOf cells state
    by_record None at is = nothing state is
    by_record (Some (written.Attributes kind uid gid flags size keep links birth unsynced)) at is =
        subst (IsStateOf cells) (some_same _ state is) (record { attributes = ap (option_and_then attributes_in) at; keep = ap (option_and_then keep_in) at; places = refl; index = refl })
    by_record (Some r) at is = nothing state is

module _ (d : DomainNow) (all : FilesetMap) (stands : StandsDomain d all) where
  -- ---- what is at a tag of an original

  -- it has a chain of the domain, and the set shows it
  pub record IsShown (number : ℕ) (entry : FilesetEntry) (o : IsOriginalSlot d all stands.slots number entry) (tag : Tag) (cells : List PlacedCell) (seen : SeenFile) : Type 0 where
    pub at : o.set.chains tag ≡ Some cells
    pub sees : seen_in cells ≡ Some seen
    pub kept : Kept cells seen
    pub start : CellAt
    pub file_there : NamesChain d all stands number tag start
    pub cells_are : file_there.first ∷ file_there.rest ≡ cells
    pub file : Bitfile
    pub shown : o.shape.shown tag ≡ Some file
    pub shows : ShowsFile d.pages cells file
    pub what : IsWhat file seen.is

  module _ (number : ℕ) (entry : FilesetEntry) (there : item_in d number ≡ Some (slot.Original entry)) (o : IsOriginalSlot d all stands.slots number entry) where
    has_chains : HasChains d.pages number entry o.set.chains
    has_chains = record { places = d.tags number; directory = stands.tables.laid.tags number (slot.Original entry) there; files = o.set.stands.together.files }

    -- it is the same as a set shows it
    what_same : (cells : List PlacedCell) (seen : SeenFile) (file : Bitfile) → attributes_of cells ≡ Some seen.is → ShowsFile d.pages cells file → IsWhat file seen.is
    what_same cells seen file what shows = subst (λ o. IsSomeAnd o (IsWhat file)) what shows.what

    module _ (tag : Tag) (cells : List PlacedCell) (seen : SeenFile) (at : o.set.chains tag ≡ Some cells) (sees : seen_in cells ≡ Some seen) where
      k : Kept cells seen
      k = kept cells seen sees

      leads : LeadsToFile number (d.tags number) d.pages tag cells
      leads = subst (λ c. IfSome c (LeadsToFile number (d.tags number) d.pages tag)) at (o.set.stands.together.files.some tag)

      shows_live : (file : Bitfile) → ShowsAt d.pages (Some cells) (Some file) → ShowsFile d.pages cells file
      shows_live file shows = subst (λ b. IsSomeAnd (cond b None (Some cells)) (λ live. ShowsFile d.pages live file)) k.live shows

      by_file : (f : Option Bitfile) → o.shape.shown tag ≡ f → ShowsAt d.pages (Some cells) f → (file : Bitfile) × (o.shape.shown tag ≡ Some file) × ShowsFile d.pages cells file
      by_file None shown none = nothing seen.is (sym none ∙ ap (λ b. cond b None (attributes_of cells)) k.live ∙ k.what)
      by_file (Some file) shown shows = (file, shown, shows_live file shows)

      by_cell : (c : Option CellAt) → cell_of d.pages (d.tags number) tag ≡ c → IsSomeAnd c (λ a. IsFile d.pages a cells) → IsShown number entry o tag cells seen
      by_cell None none file = absurd file
      by_cell (Some start) leads_to file =
          let n = names_chain d all stands number tag start leads_to in
          let f = by_file (o.shape.shown tag) refl (subst (λ c. ShowsAt d.pages c (o.shape.shown tag)) at (o.set.stands.shows tag)) in
          record {
            at = at;
            sees = sees;
            kept = k;
            start = start;
            file_there = n;
            cells_are = same_cells start cells (n.first ∷ n.rest) file n.file;
            file = f.0;
            shown = f.1;
            shows = f.2;
            what = what_same cells seen f.0 k.what f.2;
          }
        where
          same_cells : (start : CellAt) (xs ys : List PlacedCell) → IsFile d.pages start xs → IsFile d.pages start ys → ys ≡ xs
          same_cells start xs ys one other = links_same d.pages start ys xs (links_of start ys other) (links_of start xs one)
            where
              links_of : (start : CellAt) (cs : List PlacedCell) → IsFile d.pages start cs → LinksFrom d.pages start cs
              links_of start [] file = absurd file
              links_of start (first ∷ rest) file = (file.0, file.1.links)

      pub is_shown : IsShown number entry o tag cells seen
      is_shown = by_cell (cell_of d.pages (d.tags number) tag) refl leads.leads

    pub original_shown : (tag : Tag) (cells : List PlacedCell) (seen : SeenFile) → IsInOriginal d.pages entry tag cells seen → IsShown number entry o tag cells seen
    original_shown tag cells seen is = is_shown tag cells seen (chain_is d.pages number entry o.set.chains has_chains tag cells is.there) is.is

  -- what a fileset has is of an original
  pub record HasShown (number : ℕ) (tag : Tag) (cells : List PlacedCell) (seen : SeenFile) : Type 0 where
    pub entry : FilesetEntry
    pub there : item_in d number ≡ Some (slot.Original entry)
    pub original : IsOriginalSlot d all stands.slots number entry
    pub is : IsShown number entry original tag cells seen

  pub has_shown : (number : ℕ) (tag : Tag) (cells : List PlacedCell) (seen : SeenFile) → Has d.pages d.table number tag cells seen → HasShown number tag cells seen
  has_shown number tag cells seen has = by_item has.item has.there has.is
    where
      by_item : (item : SlotItem) → item_in d number ≡ Some item → IsInItem d.pages d.table item tag cells seen → HasShown number tag cells seen
      by_item slot.Free there is = absurd is
      by_item (slot.Removed first quota) there is = absurd is
      by_item (slot.Original entry) there is =
          let o = original_of d all stands.slots number entry there in
          record { entry = entry; there = there; original = o; is = original_shown number entry there o tag cells seen is }
      by_item (slot.Clone of clone entry) there is = absurd (true≢false (sym (ap of_clone there) ∙ stands.slots.no_clone number))

  -- ---- a directory

  module _ (number : ℕ) (entry : FilesetEntry) (o : IsOriginalSlot d all stands.slots number entry) (tag : Tag) (cells : List PlacedCell) (seen : SeenFile) (s : IsShown number entry o tag cells seen) where
    kind_is : s.file.kind ≡ seen.is.kind
    kind_is = s.what.kind

    module _ (directory : seen.is.kind ≡ Directory) where
      pub whole_one : HasOne (states_of o.set.chains tag) (IsWholeDirectory s.file)
      whole_one = one_of (states_of o.set.chains tag) (IsWholeDirectory s.file) (subst (IsWholeAt (states_of o.set.chains tag)) s.shown (o.set.whole tag) (kind_is ∙ directory))

      pub whole : IsWholeDirectory s.file whole_one.value
      whole = whole_one.is

      pub state : IsStateOf cells whole_one.value
      state = state_is cells whole_one.value (ap (option_and_then state_of) (sym s.at) ∙ whole_one.there)

      pub size_is : seen.is.size ≡ page_bytes * length s.file.pages
      size_is = ap (λ (a : Attributes). a.size) (some_same seen.is whole_one.value.attributes (sym s.kept.what ∙ state.attributes)) ∙ whole.size

      homes_are : (page : ℕ) → seen.homes page ≡ home_at (places_before file_pages (places_of cells) page)
      homes_are = homes_by cells seen s.sees s.kept.live s.kept.what file_pages (state.keep ∙ ap Some whole.keeps)

      each : (page : ℕ) → slice_get s.file.pages page ≡ page_there d.pages (places_of cells page)
      each page = s.shows.each page ∙ ap (λ kind. shown_page d.pages cells kind page) (kind_is ∙ directory)

      low_place : (page : ℕ) → page < file_pages → places_before file_pages (places_of cells) page ≡ places_of cells page
      low_place page low = ap (λ b. cond b (places_of cells page) Absent) (lt-ltb page file_pages low)

      -- a page that is shown stands at its home
      pub record AtHome (page : ℕ) (bytes : List ℕ) : Type 0 where
        pub home : Home
        pub at : seen.homes page ≡ Some home
        pub there : d.pages home ≡ Some bytes
        pub placed : places_of cells page ≡ At home

      pub at_home : (page : ℕ) (bytes : List ℕ) → slice_get s.file.pages page ≡ Some bytes → AtHome page bytes
      at_home page bytes is =
          let h = page_home d.pages (places_of cells page) bytes (sym (each page) ∙ is) in
          let low : page < file_pages = (let inside = within_of s.file.pages page bytes is in let fits = whole.fits in omega (arith, inside, fits)) in
          record { home = h.0; at = homes_are page ∙ ap home_at (low_place page low ∙ h.1); there = h.2; placed = h.1 }

      -- and a home is that of a page that is shown
      placed_at : (page : ℕ) (home : Home) → seen.homes page ≡ Some home → places_of cells page ≡ At home
      placed_at page home at = ⊎_elim (λ low. sym (low_place page low) ∙ none_at _ home (sym (homes_are page) ∙ at)) (λ high. too_high high) (cases_lt page file_pages)
        where
          too_high : file_pages ≤ page → places_of cells page ≡ At home
          too_high high = nothing home (sym (ap home_at (past_end page high)) ∙ sym (homes_are page) ∙ at)
            where
              past_end : (page : ℕ) → file_pages ≤ page → places_before file_pages (places_of cells) page ≡ Absent
              past_end page high = ap (λ b. cond b (places_of cells page) Absent) (not_low page high)

      pub inside : (page : ℕ) (home : Home) → seen.homes page ≡ Some home → page < length s.file.pages
      inside page home at =
          ⊎_elim (λ low. low) (λ high. absent_at home (sym (ap (λ (places : Places). places page) (sym state.places) ∙ whole.none page high) ∙ placed_at page home at)) (cases_lt page (length s.file.pages))

      pub page_is : (page : ℕ) (home : Home) → seen.homes page ≡ Some home → slice_get s.file.pages page ≡ d.pages home
      page_is page home at = each page ∙ ap (page_there d.pages) (placed_at page home at)

      -- behind them there is none
      pub no_more : (page : ℕ) → length s.file.pages ≤ page → places_of cells page ≡ Absent
      no_more page high = ap (λ (places : Places). places page) (sym state.places) ∙ whole.none page high
