-- What is read at a tag of a clone.
use Rattle.std.proofs.Common.{◌≡◌, ◌∙◌, ◌⊎◌, inl, inr, ℕ, Bool, true, false, cond, nat_lt, List, [], ◌∷◌, Option, Some, None, IfSome, IsSomeAnd, slice_get, refl, sym, ap, subst, ⊎_elim}
use Rattle.std.specs.Option.{option_and_then, option_map_or}
use Rattle.filesets_reading.specs.domain_base.declared.place.CellAt.{CellAt}
use Rattle.filesets_reading.specs.domain_base.declared.place.Home.{Home}
use Rattle.filesets_reading.specs.domain_base.declared.place.Kind.{Kind}
use Rattle.filesets_reading.specs.domain_base.declared.place.Kind.TheVariants.{Directory, File}
use Rattle.filesets_reading.specs.domain_base.declared.place.Tag.{Tag}
use Rattle.filesets_reading.specs.page_store.Pages.{Pages}
use Rattle.filesets_reading.specs.metadata_cells.Chain.{LinksFrom, PlacedCell}
use Rattle.filesets_reading.specs.tag_dirs.Directory.{cell_of}
use Rattle.filesets_reading.specs.extent_maps.Runs.{Places, home_at}
use Rattle.filesets_reading.specs.extent_maps.declared.run.PagePlace.{PagePlace}
use Rattle.filesets_reading.specs.extent_maps.declared.run.PagePlace.TheVariants.{Absent, At, Hole}
use Rattle.filesets_reading.specs.file_chains.Files.{AreFile, IsFile, places_of}
use Rattle.filesets_reading.specs.fileset_files.Files.{AreFiles, Chains, LeadsToFile, attributes_of, first_record, is_removed}
use Rattle.filesets_reading.specs.fileset_files.declared.attributes.Attributes.{Attributes}
use Rattle.filesets_reading.specs.file_release.Reading.{own_or, read_home}
use Rattle.filesets_reading.specs.fileset_table.Table.{entry_of}
use Rattle.filesets_reading.specs.fileset_table.declared.slot.FilesetEntry.{FilesetEntry}
use Rattle.filesets_reading.specs.fileset_table.declared.slot.SlotItem.{SlotItem}
use Rattle.filesets_reading.specs.fileset_table.declared.slot.SlotItem.TheVariants as slot
use Rattle.filesets_reading.proofs.OfDomainLayout.NoTables.{none_of_extents}
use Rattle.filesets_reading.proofs.OfDomainLayout.There.{is_not_there, is_there}
use Rattle.filesets_reading.proofs.ChainsThere.{file_there}
use Rattle.filesets_reading.specs.domain_layout.Layout.{first_tag_of}
use Rattle.fileset_shapes.specs.Stored.{AreStored}
use Rattle.filesets_reading.specs.domain_layout.DirectoryRules.{Has, IsInClone}
use Rattle.filesets_reading.specs.domain_layout.Reached.{MayBe}
use Rattle.filesets_reading.specs.domain_layout.Seen.{IsOfClone, IsOwn, IsOwnUnless, IsSource, SeenFile, frozen_of, is_in_sync, seen_in, seen_through, source_of}
use Rattle.filesets_reading.specs.domain_layout.Shape.{HasChains, ShowsSeen, shown_at}
use Rattle.filesets_reading.specs.domain_layout.Owners.{frame_of}
use Rattle.filesets_reading.specs.domain_layout.TagRules.{HasTags, IsFirstOf}
use Rattle.filesets_reading.specs.Seen.{HasFewHomes, IsSeenAs, IsSeenThere}
use Rattle.filesets_reading.specs.declared.seen.SeenPages.{SeenPages}
use Rattle.filesets_reading.proofs.OfDomainLayout.OnePage.{some_same}
use Rattle.fileset_shapes.specs.Clones.{AreOfClone, ReadsOfClone}
use Rattle.fileset_shapes.specs.declared.files.FilesetFiles.{FilesetFiles}
use Rattle.fileset_shapes.proofs.OwnFiles.{named_source}
use Rattle.fileset_shapes.specs.Files.{AreClones, ReadsClone, ReadsCloneAt}
use Rattle.fileset_shapes.specs.Found.{index_shown, shown_by, shown_pages}
use Rattle.fileset_shapes.specs.declared.found.TaggedFile.{TaggedFile}
use Rattle.fileset_shapes.proofs.OriginalFiles.{FileOf, Kept, file_of, home_kept, kept, no_gap, none_some, stored_by}
use Rattle.fileset_shapes.proofs.Held.{page_held}
use Rattle.fileset_shapes.proofs.Shown.{pages_in_order}
use Rattle.fileset_shapes.proofs.Stored.{page_may}

-- ---- tables

-- where the tag directory of a fileset begins
pub entry_tags : (item : SlotItem) (entry : FilesetEntry) → entry_of item ≡ Some entry → first_tag_of item ≡ Some entry.first_tag
entry_tags slot.Free entry is = none_some entry is
entry_tags (slot.Original found) entry is = ap (λ (e : FilesetEntry). Some e.first_tag) (some_same found entry is)
entry_tags (slot.Clone of number found) entry is = ap (λ (e : FilesetEntry). Some e.first_tag) (some_same found entry is)
entry_tags (slot.Removed first_tag quota) entry is = none_some entry is

-- ---- where a page is read

-- a page that is read stands in the file itself, or in its source
read_where : (frozen : ℕ) (own source : Places) (page : ℕ) (home : Home) → read_home frozen own source page ≡ Some home → (own page ≡ At home) ⊎ (source page ≡ At home)
read_where frozen own source page home at = by_own (own page) refl at
  where
    by_source : (place : PagePlace) → home_at place ≡ Some home → place ≡ At home
    by_source (At h) is = ap (λ h'. At h') (some_same h home is)
    by_source Hole is = none_some home is
    by_source Absent is = none_some home is

    by_test : (b : Bool) → cond b (home_at (source page)) None ≡ Some home → source page ≡ At home
    by_test true is = by_source (source page) is
    by_test false is = none_some home is

    by_own : (place : PagePlace) → own page ≡ place → own_or place (cond (nat_lt page frozen) (home_at (source page)) None) ≡ Some home → (own page ≡ At home) ⊎ (source page ≡ At home)
    by_own (At h) there is = inl (there ∙ ap (λ h'. At h') (some_same h home is))
    by_own Hole there is = none_some home is
    by_own Absent there is = inr (by_test (nat_lt page frozen) is)

-- what a clone has through its original the original has
through : (number : ℕ) (cells : List PlacedCell) (seen : SeenFile) → seen_through number cells ≡ Some seen → seen_in cells ≡ Some seen
through number cells seen is = by_test (option_map_or (is_in_sync number) (first_record 1 cells) false) is
  where
    by_test : (b : Bool) → cond b (seen_in cells) None ≡ Some seen → seen_in cells ≡ Some seen
    by_test true is = is
    by_test false is = none_some seen is

module _ (pages : Pages) (own behind : FilesetFiles) (number : ℕ) (are : AreClones pages own behind number) where
  own_tags : HasTags are.layout.table own.files.fileset are.entry.first_tag
  own_tags = record { item = slot.Clone behind.files.fileset number are.entry; there = are.there; has = refl }

  behind_tags : HasTags are.layout.table behind.files.fileset are.original.first_tag
  behind_tags = record { item = are.item; there = are.there_behind; has = entry_tags are.item are.original are.original_is }

  pub of_clone : AreOfClone pages own behind number
  of_clone = record {
    own = are.own_files.are;
    behind = are.behind_files.are;
    may = record {
      layout = are.layout;
      laid = are.whole.laid;
      no_fault = none_of_extents pages (frame_of are.layout) are.whole.no_fault;
      small = are.whole.small;
      first = are.entry.first_tag;
      has = own_tags;
      directory = are.own_files.directory;
    };
    entry = are.entry;
    is = are.there;
  }

  module _ (tag : Tag) (chains chains_behind : Chains) (fs : AreFiles own.files.fileset own.tags pages chains) (fs_behind : AreFiles behind.files.fileset behind.tags pages chains_behind) where
    -- the file that a clone has at a tag, with the cells that say it
    pub record CloneFile (seen : SeenFile) : Type 0 where
      pub first : PlacedCell
      pub rest : List PlacedCell
      pub file : AreFile pages first rest
      pub what : attributes_of (first ∷ rest) ≡ Some seen.is
      pub has : Has pages are.layout.table own.files.fileset tag (first ∷ rest) seen
      pub may : (page : ℕ) (home : Home) → seen.homes page ≡ Some home → MayBe (frame_of are.layout) home

    has_in : (cells : List PlacedCell) (seen : SeenFile) → IsInClone pages are.entry are.original number tag cells seen → Has pages are.layout.table own.files.fileset tag cells seen
    has_in cells seen is = record {
      item = slot.Clone behind.files.fileset number are.entry;
      there = are.there;
      is = subst (λ o. IsSomeAnd o (λ (original : FilesetEntry). IsInClone pages are.entry original number tag cells seen)) (sym (ap (option_and_then entry_of) are.there_behind ∙ are.original_is)) is;
    }

    own_chains : HasChains pages own.files.fileset are.entry chains
    own_chains = record { places = own.tags; directory = are.own_files.directory; files = fs }

    behind_chains : HasChains pages behind.files.fileset are.original chains_behind
    behind_chains = record { places = behind.tags; directory = are.behind_files.directory; files = fs_behind }

    -- a page of the file through which one is read
    source_may : (first : PlacedCell) (rest : List PlacedCell) → chains tag ≡ Some (first ∷ rest) → is_removed (first ∷ rest) ≡ false → (source : Places) → IsSource pages (source_of (first ∷ rest)) source
        → (page : ℕ) (home : Home) → source page ≡ At home → MayBe (frame_of are.layout) home
    unfolding of_clone
    source_may first rest there live source reads page home at = by_source (source_of (first ∷ rest)) refl reads
      where
        leads : LeadsToFile own.files.fileset own.tags pages tag (first ∷ rest)
        leads = subst (λ o. IfSome o (LeadsToFile own.files.fileset own.tags pages tag)) there (fs.some tag)

        named : (from : CellAt) → source_of (first ∷ rest) ≡ Some from → ¬ ¬ IsFirstOf pages (frame_of are.layout) behind.files.fileset tag from
        named from is = by_cell (cell_of pages own.tags tag) refl leads.leads
          where
            by_cell : (o : Option CellAt) → cell_of pages own.tags tag ≡ o → IsSomeAnd o (λ a. IsFile pages a (first ∷ rest)) → ¬ ¬ IsFirstOf pages (frame_of are.layout) behind.files.fileset tag from
            by_cell None none file = absurd file
            by_cell (Some a) at_cell file = named_source pages own behind number of_clone tag a from first rest at_cell file live is

        by_cells : (from : CellAt) → source_of (first ∷ rest) ≡ Some from → (cells : List PlacedCell) → LinksFrom pages from cells → source page ≡ places_of cells page → MayBe (frame_of are.layout) home
        by_cells from is [] links same = absurd links
        by_cells from is (one ∷ more) links same =
            let first_of : ¬ ¬ IsFirstOf pages (frame_of are.layout) behind.files.fileset tag one.at =
            subst (λ a. ¬ ¬ IsFirstOf pages (frame_of are.layout) behind.files.fileset tag a) (sym links.0) (named from is) in
            let file =
            file_there pages are.layout are.whole.laid (none_of_extents pages (frame_of are.layout) are.whole.no_fault) are.whole.small behind.files.fileset tag one more first_of links.1 in
            page_may pages are.layout are.whole.laid are.whole.no_fault behind.files.fileset tag one more first_of file.is page home (sym same ∙ at)

        by_source : (o : Option CellAt) → source_of (first ∷ rest) ≡ o → IsSource pages o source → MayBe (frame_of are.layout) home
        by_source None is reads = absurd (let e : Absent ≡ At home = sym (reads page) ∙ at in absurd (cc))
        by_source (Some from) is reads = by_cells from is reads.0 reads.1 (reads.2 page)

    own_file : (cells : List PlacedCell) → chains tag ≡ Some cells → is_removed cells ≡ false → (seen : SeenFile) → IsOwn pages cells seen → CloneFile seen
    own_file [] there live seen is = absurd (subst (λ o. IfSome o (LeadsToFile own.files.fileset own.tags pages tag)) there (fs.some tag)).is_of
    own_file (first ∷ rest) there live seen is = record {
      first = first;
      rest = rest;
      file = of.file;
      what = is.is;
      has = has_in (first ∷ rest) seen (record { is = inl (is_there pages own.files.fileset are.entry chains own_chains tag (first ∷ rest) there, live, is) });
      may = λ page home at.
          ⊎_elim (λ here. page_may pages are.layout are.whole.laid are.whole.no_fault own.files.fileset tag first rest of.named of.file page home here)
          (λ there_source. source_may first rest there live is.source is.through page home there_source)
          (read_where (frozen_of (first ∷ rest)) (places_of (first ∷ rest)) is.source page home (sym (is.homes page) ∙ at));
    }
      where
        of : FileOf pages are.layout are.whole.laid are.whole.no_fault own.files.fileset tag first rest
        of = file_of pages are.layout are.whole.laid are.whole.no_fault own.files.fileset are.entry.first_tag own_tags own.tags are.own_files.directory chains fs tag first rest there

    through_file : chains tag ≡ None → (cells : List PlacedCell) → chains_behind tag ≡ Some cells → (seen : SeenFile) → seen_through number cells ≡ Some seen → CloneFile seen
    through_file none [] there seen is = absurd (subst (λ o. IfSome o (LeadsToFile behind.files.fileset behind.tags pages tag)) there (fs_behind.some tag)).is_of
    through_file none (first ∷ rest) there seen is = record {
      first = first;
      rest = rest;
      file = of.file;
      what = k.what;
      has = has_in (first ∷ rest) seen (record {
        is = inr (
          is_not_there pages own.files.fileset are.entry chains own_chains tag none,
          is_there pages behind.files.fileset are.original chains_behind behind_chains tag (first ∷ rest) there,
          is,
        );
      });
      may = λ page home at. page_may pages are.layout are.whole.laid are.whole.no_fault behind.files.fileset tag first rest of.named of.file page home (home_kept k.keep (places_of (first ∷ rest)) page home (sym (k.homes page) ∙ at));
    }
      where
        of : FileOf pages are.layout are.whole.laid are.whole.no_fault behind.files.fileset tag first rest
        of = file_of pages are.layout are.whole.laid are.whole.no_fault behind.files.fileset are.original.first_tag behind_tags behind.tags are.behind_files.directory chains_behind fs_behind tag first rest there

        k : Kept (first ∷ rest) seen
        k = kept (first ∷ rest) seen (through number (first ∷ rest) seen is)

    pub clone_file : (seen : SeenFile) → IsOfClone pages number (chains tag) (chains_behind tag) (Some seen) → CloneFile seen
    clone_file seen is = by_own (chains tag) refl is
      where
        by_removed : (cells : List PlacedCell) → chains tag ≡ Some cells → (b : Bool) → is_removed cells ≡ b → IsOwnUnless b pages cells (Some seen) → CloneFile seen
        by_removed cells there true gone is = none_some seen (sym is)
        by_removed cells there false live is = own_file cells there live seen is

        by_behind : chains tag ≡ None → (o : Option (List PlacedCell)) → chains_behind tag ≡ o → Some seen ≡ option_and_then (seen_through number) o → CloneFile seen
        by_behind none None there is = none_some seen (sym is)
        by_behind none (Some cells) there is = through_file none cells there seen (sym is)

        by_own : (o : Option (List PlacedCell)) → chains tag ≡ o → IsOfClone pages number o (chains_behind tag) (Some seen) → CloneFile seen
        by_own None none is = by_behind none (chains_behind tag) refl is
        by_own (Some cells) there is = by_removed cells there (is_removed cells) refl is

    -- ---- what was read

    module _ (file : TaggedFile) (plain : file.index.items ≡ []) where
      file_stored : (seen : SeenFile) → CloneFile seen → IsSeenAs seen file.seen → AreStored pages file.seen.homes.items
      file_stored seen of same = stored_by pages seen file.seen same (λ page home at. page_held pages are.layout are.whole.laid are.whole.all own.files.fileset tag (of.first ∷ of.rest) seen of.has page home at (of.may page home at))

      page_shown : (seen : SeenFile) → CloneFile seen → IsSeenAs seen file.seen → (kind : Kind) → file.seen.is.kind ≡ kind → (page : ℕ) → slice_get (shown_pages pages file.seen.homes.items kind) page ≡ shown_at pages seen kind page
      page_shown seen of same File is_kind page = refl
      page_shown seen of same Directory is_kind page =
          let kind : seen.is.kind ≡ Directory = sym (ap (λ (a : Attributes). a.kind) same.is) ∙ is_kind in
          pages_in_order pages file.seen.homes.items (no_gap pages are.layout are.whole.laid are.whole.no_fault own.files.fileset tag of.first of.rest seen of.has kind file.seen same) (file_stored seen of same) page
          ∙ ap (option_and_then pages) (same.homes page)

      file_shown : (seen : SeenFile) → CloneFile seen → IsSeenAs seen file.seen → ShowsSeen pages seen (shown_by pages file)
      file_shown seen of same = record {
        what = record {
          kind = ap (λ (a : Attributes). a.kind) same.is;
          uid = ap (λ (a : Attributes). a.uid) same.is;
          gid = ap (λ (a : Attributes). a.gid) same.is;
          links = ap (λ (a : Attributes). a.links) same.is;
        };
        each = page_shown seen of same file.seen.is.kind refl;
        index = ap (index_shown pages) plain;
      }

      pub clone_reads : ReadsOfClone pages number (chains tag) (chains_behind tag) (Some file.seen) → ReadsClone pages number (chains tag) (chains_behind tag) (Some file)
      clone_reads reads = by_seen reads.0 reads.1 reads.2
        where
          by_seen : (o : Option SeenFile) → IsOfClone pages number (chains tag) (chains_behind tag) o → IsSeenThere o (Some file.seen) → ReadsClone pages number (chains tag) (chains_behind tag) (Some file)
          by_seen None is sees = none_some file.seen (sym sees)
          by_seen (Some seen) is sees = record { seen = Some seen; is = is; sees = sees; shown = file_shown seen (clone_file seen is) sees }

      pub clone_stored : ReadsOfClone pages number (chains tag) (chains_behind tag) (Some file.seen) → AreStored pages file.seen.homes.items
      clone_stored reads = by_seen reads.0 reads.1 reads.2
        where
          by_seen : (o : Option SeenFile) → IsOfClone pages number (chains tag) (chains_behind tag) o → IsSeenThere o (Some file.seen) → AreStored pages file.seen.homes.items
          by_seen None is sees = none_some file.seen (sym sees)
          by_seen (Some seen) is sees = file_stored seen (clone_file seen is) sees

    pub clone_reads_none : ReadsOfClone pages number (chains tag) (chains_behind tag) None → ReadsClone pages number (chains tag) (chains_behind tag) None
    clone_reads_none reads = by_seen reads.0 reads.1 reads.2
      where
        by_seen : (o : Option SeenFile) → IsOfClone pages number (chains tag) (chains_behind tag) o → IsSeenThere o None → ReadsClone pages number (chains tag) (chains_behind tag) None
        by_seen None is sees = record { seen = None; is = is; sees = refl; shown = refl }
        by_seen (Some seen) is sees = absurd sees

  -- ---- the answers

  abbrev Sees : Tag → Option SeenPages → Type 0
  Sees tag found = (chains chains_behind : Chains) → AreFiles own.files.fileset own.tags pages chains → AreFiles behind.files.fileset behind.tags pages chains_behind
      → ReadsOfClone pages number (chains tag) (chains_behind tag) found

  pub clone_none : (tag : Tag) → Sees tag None → ReadsCloneAt pages own behind number tag None
  clone_none tag sees = record { is = tt; reads = λ chains chains_behind fs fs_behind. clone_reads_none tag chains chains_behind fs fs_behind (sees chains chains_behind fs fs_behind) }

  pub clone_some : (tag : Tag) (file : TaggedFile) → file.tag ≡ tag → file.index.items ≡ [] → HasFewHomes file.seen → Sees tag (Some file.seen) → ReadsCloneAt pages own behind number tag (Some file)
  clone_some tag file of plain few sees =
      let chains = are.own_files.are.has.0 in
      let fs = are.own_files.are.has.1 in
      let chains_behind = are.behind_files.are.has.0 in
      let fs_behind = are.behind_files.are.has.1 in
      record {
        is = record { tag_is = of; stored = record { few = few; stored = clone_stored tag chains chains_behind fs fs_behind file plain (sees chains chains_behind fs fs_behind) } };
        reads = λ chains chains_behind fs fs_behind. clone_reads tag chains chains_behind fs fs_behind file plain (sees chains chains_behind fs fs_behind);
      }
