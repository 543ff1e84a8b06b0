-- Where a domain stands: what the set of an original shows, the fileset has; so its directories' pages are those that rules look at.
use Rattle.std.proofs.Common.{◌≡◌, ◌∙◌, ℕ, Bool, true, false, cond, List, [], ◌∷◌, Option, Some, None, IfSome, IsSomeAnd, slice_get, refl, sym, ap, subst}
use Rattle.std.specs.Option.{option_and_then, option_map, option_map_or}
use Rattle.domain_memory.specs.domain_base.declared.place.CellAt.{CellAt}
use Rattle.domain_memory.specs.domain_base.declared.place.Home.{Home}
use Rattle.domain_memory.specs.domain_base.declared.place.Kind.TheVariants.{Directory}
use Rattle.domain_memory.specs.domain_base.declared.place.Tag.{Tag}
use Rattle.domain_memory.specs.page_store.Bitfiles.{Bitfile}
use Rattle.domain_memory.specs.page_store.Pages.{Pages}
use Rattle.domain_memory.specs.cell_records.declared.record.Record.{Record}
use Rattle.domain_memory.specs.cell_records.declared.record.Record.TheVariants as written
use Rattle.domain_memory.specs.metadata_cells.Chain.{LinksFrom, PlacedCell}
use Rattle.domain_memory.specs.tag_dirs.Directory.{cell_of}
use Rattle.domain_memory.specs.extent_maps.Runs.{home_at}
use Rattle.domain_memory.specs.extent_maps.declared.run.PagePlace.TheVariants.{Absent}
use Rattle.domain_memory.specs.extent_records.Writing.{places_before}
use Rattle.domain_memory.specs.file_chains.Files.{IsFile, places_of}
use Rattle.domain_memory.specs.fileset_files.Files.{LeadsToFile, attributes_in, attributes_of, first_record, is_removed, keep_in, keep_of}
use Rattle.domain_memory.specs.fileset_files.Shown.{IsWhat, ShowsAt, ShowsFile}
use Rattle.domain_memory.specs.fileset_files.declared.attributes.Attributes.{Attributes}
use Rattle.domain_memory.specs.fileset_model.Filesets.{FilesetMap}
use Rattle.domain_memory.specs.fileset_table.declared.slot.FilesetEntry.{FilesetEntry}
use Rattle.domain_memory.specs.fileset_table.declared.slot.SlotItem.TheVariants as slot
use Rattle.domain_memory.specs.domain_layout.DirectoryRules.{Has, IsDirectoryPage, IsInItem}
use Rattle.domain_memory.specs.domain_layout.Seen.{SeenFile, kept_by, seen_in}
use Rattle.domain_memory.proofs.OfDomainLayout.OnePage.{one_of, some_same}
use Rattle.domain_memory.specs.domain_standing.Domain.{DomainNow, item_in}
use Rattle.domain_memory.specs.domain_standing.Holders.{Holder}
use Rattle.domain_memory.specs.domain_standing.Standing.{StandsDomain}
use Rattle.domain_memory.specs.standing_laws.Sound.{StandsSound}
use Rattle.no_faults.proofs.Originals.{IsOriginalSlot}
use Rattle.no_faults.proofs.Shown.{AtHome, IsShown, at_home, is_shown, original_shown, page_is}
use Rattle.no_faults.proofs.Ways.{nothing}

-- what says attributes says how many pages are kept
keeps_some : (cells : List PlacedCell) (is : Attributes) → attributes_of cells ≡ Some is → (keep : ℕ) × (keep_of cells ≡ Some keep)
keeps_some cells is said = by_record (first_record 1 cells) refl said
  where
    by_record : (o : Option Record) → first_record 1 cells ≡ o → option_and_then attributes_in o ≡ Some is → (keep : ℕ) × (keep_of cells ≡ Some keep)
    by_record None at said = nothing is said
    by_record (Some (written.Attributes kind uid gid flags size keep links birth unsynced)) at said = (keep, ap (option_and_then keep_in) at)
    by_record (Some r) at said = nothing is said

links_of : (pages : Pages) (start : CellAt) (cs : List PlacedCell) → IsFile pages start cs → LinksFrom pages start cs
links_of pages start [] file = absurd file
links_of pages start (first ∷ rest) file = (file.0, file.1.links)

module _ (d : DomainNow) (all : FilesetMap) (stands : StandsDomain d all) (number : ℕ) (entry : FilesetEntry) (there : item_in d number ≡ Some (slot.Original entry)) (o : IsOriginalSlot d all stands.slots number entry) where
  -- what the fileset has, its set shows
  pub shown_in : (tag : Tag) (cells : List PlacedCell) (seen : SeenFile) → Has d.pages d.table number tag cells seen → IsShown d all stands number entry o tag cells seen
  shown_in tag cells seen has =
      let item : has.item ≡ slot.Original entry = some_same has.item (slot.Original entry) (sym has.there ∙ there) in
      original_shown d all stands number entry there o tag cells seen (subst (λ i. IsInItem d.pages d.table i tag cells seen) item has.is)

  -- what the set shows, the fileset has
  pub record HasSeen (tag : Tag) (file : Bitfile) : Type 0 where
    pub cells : List PlacedCell
    pub seen : SeenFile
    pub has : Has d.pages d.table number tag cells seen
    pub is : IsShown d all stands number entry o tag cells seen
    pub same : is.file ≡ file

  module _ (tag : Tag) (file : Bitfile) (shown : o.shape.shown tag ≡ Some file) where
    of_cells : (cells : List PlacedCell) → o.set.chains tag ≡ Some cells → is_removed cells ≡ false → ShowsFile d.pages cells file → HasSeen tag file
    of_cells cells at live shows =
        let what = one_of (attributes_of cells) (IsWhat file) shows.what in
        let keep = keeps_some cells what.value what.there in
        let seen : SeenFile = record { is = what.value; homes = λ page. home_at (places_before keep.0 (places_of cells) page) } in
        let sees : seen_in cells ≡ Some seen =
        (λ i. cond (live i) None (option_and_then (kept_by cells) (what.there i)))
        ∙ ap (option_map (λ n. record { is = what.value; homes = λ page. home_at (places_before n (places_of cells) page) })) keep.1 in
        let is = is_shown d all stands number entry there o tag cells seen at sees in
        record {
          cells = cells;
          seen = seen;
          has = record {
            item = slot.Original entry;
            there = there;
            is = record {
              there = record { places = d.tags number; directory = stands.tables.laid.tags number (slot.Original entry) there; leads = links_at cells at };
              is = sees;
            };
          };
          is = is;
          same = some_same is.file file (sym is.shown ∙ shown);
        }
      where
        links_at : (cells : List PlacedCell) → o.set.chains tag ≡ Some cells → IsSomeAnd (cell_of d.pages (d.tags number) tag) (λ at. LinksFrom d.pages at cells)
        links_at cells at = by_cell (cell_of d.pages (d.tags number) tag) (subst (λ c. IfSome c (LeadsToFile number (d.tags number) d.pages tag)) at (o.set.stands.together.files.some tag)).leads
          where
            by_cell : (c : Option CellAt) → IsSomeAnd c (λ a. IsFile d.pages a cells) → IsSomeAnd c (λ a. LinksFrom d.pages a cells)
            by_cell None file = absurd file
            by_cell (Some a) file = links_of d.pages a cells file

    by_live : (cells : List PlacedCell) → o.set.chains tag ≡ Some cells → (b : Bool) → is_removed cells ≡ b → IsSomeAnd (cond b None (Some cells)) (λ live. ShowsFile d.pages live file) → HasSeen tag file
    by_live cells at true gone shows = absurd shows
    by_live cells at false live shows = of_cells cells at live shows

    by_chain : (c : Option (List PlacedCell)) → o.set.chains tag ≡ c → ShowsAt d.pages c (Some file) → HasSeen tag file
    by_chain None at shows = absurd shows
    by_chain (Some cells) at shows = by_live cells at (is_removed cells) refl shows

    pub has_seen : HasSeen tag file
    has_seen = by_chain (o.set.chains tag) refl (subst (ShowsAt d.pages (o.set.chains tag)) shown (o.set.stands.shows tag))

  -- ---- pages of directories

  -- a page of a directory is shown
  pub page_shown : (dir : Tag) (page : ℕ) (home : Home) (bytes : List ℕ) → IsDirectoryPage d.pages d.frame d.table number dir page home bytes → (file : Bitfile) → o.shape.shown dir ≡ Some file → slice_get file.pages page ≡ Some bytes
  page_shown dir page home bytes is file shown =
      let s = shown_in dir is.cells is.seen is.has in
      ap (λ (f : Bitfile). slice_get f.pages page) (some_same file s.file (sym shown ∙ s.shown)) ∙ page_is d all stands number entry o dir is.cells is.seen s is.kind page home is.at ∙ is.there

  module _ (sound : StandsSound d stands.files stands.indexes) where
    -- and a page that is shown is one of a directory
    pub shown_page : (dir : Tag) (file : Bitfile) → o.shape.shown dir ≡ Some file → file.kind ≡ Directory → (page : ℕ) (bytes : List ℕ) → slice_get file.pages page ≡ Some bytes
        → (home : Home) × IsDirectoryPage d.pages d.frame d.table number dir page home bytes
    shown_page dir file shown kind page bytes at =
        let h = has_seen dir file shown in
        let directory : h.seen.is.kind ≡ Directory = sym h.is.what.kind ∙ ap (λ (f : Bitfile). f.kind) h.same ∙ kind in
        let a : AtHome d all stands number entry o dir h.cells h.seen h.is directory page bytes =
        at_home d all stands number entry o dir h.cells h.seen h.is directory page bytes (ap (λ (f : Bitfile). slice_get f.pages page) h.same ∙ at) in
        let held = ap (λ c. option_map_or (λ cs. places_of cs page) c Absent) (h.is.file_there.there ∙ ap Some h.is.cells_are) ∙ a.placed in (
          a.home,
          record { cells = h.cells; seen = h.seen; has = h.has; kind = directory; at = a.at; within = sound.within a.home (Holder.of_file h.is.start page) (λ same. cc) (λ same. cc) held; there = a.there },
        )
