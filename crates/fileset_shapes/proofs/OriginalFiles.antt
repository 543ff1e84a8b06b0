-- Where no rule is broken: what a fileset has is right, and how an original's files are shown.
use Rattle.std.proofs.Common.{◌≡◌, ◌∙◌, inl, inr, ℕ, ◌<◌, Bool, true, false, cond, nat_lt, List, ◌∷◌, Option, Some, None, IfSome, IsSome, IsSomeAnd, slice_get, refl, sym, ap, subst, arith}
use Rattle.std.specs.Option.{option_and_then, option_map}
use Rattle.filesets_reading.specs.domain_base.declared.place.CellAt.{CellAt}
use Rattle.filesets_reading.specs.domain_base.declared.place.Home.{Home}
use Rattle.filesets_reading.specs.domain_base.declared.place.Kind.{Kind}
use Rattle.filesets_reading.specs.domain_base.declared.place.Kind.TheVariants.{Directory, File}
use Rattle.filesets_reading.specs.domain_base.declared.place.Tag.{Tag}
use Rattle.filesets_reading.specs.page_store.Pages.{Pages}
use Rattle.filesets_reading.specs.cell_records.Fields.{number_at}
use Rattle.filesets_reading.specs.cell_records.declared.record.Record.{Record}
use Rattle.filesets_reading.specs.metadata_cells.Cell.{record_of}
use Rattle.filesets_reading.specs.metadata_cells.CellPage.{home_of}
use Rattle.filesets_reading.specs.metadata_cells.Chain.{PlacedCell}
use Rattle.filesets_reading.specs.tag_dirs.declared.dir.TagPlace.{TagPlace}
use Rattle.filesets_reading.specs.tag_dirs.Directory.{IsDirectoryAt, cell_of}
use Rattle.filesets_reading.specs.extent_maps.Runs.{Places, home_at}
use Rattle.filesets_reading.specs.extent_maps.declared.run.PagePlace.{PagePlace}
use Rattle.filesets_reading.specs.extent_maps.declared.run.PagePlace.TheVariants.{Absent, At, Hole}
use Rattle.filesets_reading.specs.extent_records.Writing.{places_before}
use Rattle.filesets_reading.specs.file_chains.Files.{AreFile, IsFile, places_of}
use Rattle.filesets_reading.specs.fileset_files.Files.{AreFiles, Chains, LeadsToFile, attributes_of, is_removed, keep_of, of_live}
use Rattle.filesets_reading.specs.fileset_files.Shown.{AreIndexPages, IsWhat, ShowsAt, ShowsFile, index_in, index_of, page_there, shown_page}
use Rattle.filesets_reading.specs.fileset_files.declared.attributes.Attributes.{Attributes}
use Rattle.fileset_shapes.specs.Stored.{AreStored}
use Rattle.filesets_reading.specs.domain_layout.DirectoryRules.{Has, HasIndexAt, HasWrongSize, IsWrongFile}
use Rattle.filesets_reading.proofs.OfDomainLayout.NoTables.{none_of_tables}
use Rattle.filesets_reading.specs.domain_layout.Faults.{HasNoFault, HasNoTablesFault}
use Rattle.filesets_reading.specs.domain_layout.Layout.{IsLayout, Layout}
use Rattle.filesets_reading.specs.domain_layout.Owners.{frame_of}
use Rattle.filesets_reading.specs.domain_layout.Reached.{MayBe}
use Rattle.filesets_reading.specs.domain_layout.Seen.{SeenFile, kept_by, seen_in}
use Rattle.filesets_reading.specs.domain_layout.TagRules.{HasTags, IsFirstOf}
use Rattle.filesets_reading.proofs.OfDomainLayout.Named.{first_there}
use Rattle.filesets_reading.proofs.OfDomainLayout.OnePage.{some_same}
use Rattle.filesets_reading.proofs.OfDomainLayout.OwnedOnce.{index_read, no_files, no_index}
use Rattle.filesets_reading.specs.Seen.{IsSeenAs, home_in}
use Rattle.filesets_reading.specs.declared.seen.SeenPages.{SeenPages}
use Rattle.filesets_reading.proofs.Originals.{keep_there}
use Rattle.filesets_reading.proofs.TagPlaces.{most_by}
use Rattle.fileset_shapes.specs.Found.{HasAllPages, index_shown, shown_by, shown_pages}
use Rattle.fileset_shapes.specs.Indexes.{IsReadIndex}
use Rattle.fileset_shapes.specs.declared.found.TaggedFile.{TaggedFile}
use Rattle.fileset_shapes.proofs.Held.{page_held}
use Rattle.fileset_shapes.proofs.Shown.{HasNoGap, pages_in_order}
use Rattle.fileset_shapes.proofs.Stored.{page_may}

no_bool : false ≡ true → ⊥
no_bool is = cc

pub none_some : {P : Type 0} {X : Type 0} (x : X) → None ≡ Some x → P
none_some x is = absurd (cc)

-- ---- what is kept of a file

-- a file that stays, with the pages that it keeps
pub record Kept (cells : List PlacedCell) (seen : SeenFile) : Type 0 where
  pub live : is_removed cells ≡ false
  pub what : attributes_of cells ≡ Some seen.is
  pub keep : ℕ
  pub homes : (page : ℕ) → seen.homes page ≡ home_at (places_before keep (places_of cells) page)

pub kept : (cells : List PlacedCell) (seen : SeenFile) → seen_in cells ≡ Some seen → Kept cells seen
kept cells seen there = by_removed (is_removed cells) refl there
  where
    file : Attributes → ℕ → SeenFile
    file is keep = record { is = is; homes = λ page. home_at (places_before keep (places_of cells) page) }

    by_keep : is_removed cells ≡ false → (is : Attributes) → attributes_of cells ≡ Some is → (o : Option ℕ) → option_map (file is) o ≡ Some seen → Kept cells seen
    by_keep live is what None there = none_some seen there
    by_keep live is what (Some keep) there =
        let same : file is keep ≡ seen = some_same (file is keep) seen there in
        record {
          live = live;
          what = what ∙ ap (λ (s : SeenFile). Some s.is) same;
          keep = keep;
          homes = λ page. ap (λ (s : SeenFile). s.homes page) (sym same);
        }

    by_what : is_removed cells ≡ false → (o : Option Attributes) → attributes_of cells ≡ o → option_and_then (kept_by cells) o ≡ Some seen → Kept cells seen
    by_what live None what there = none_some seen there
    by_what live (Some is) what there = by_keep live is what (keep_of cells) there

    by_removed : (b : Bool) → is_removed cells ≡ b → cond b None (option_and_then (kept_by cells) (attributes_of cells)) ≡ Some seen → Kept cells seen
    by_removed true gone there = none_some seen there
    by_removed false live there = by_what live (attributes_of cells) refl there

-- a page that is kept stands where the cells say
pub home_kept : (keep : ℕ) (places : Places) (page : ℕ) (home : Home) → home_at (places_before keep places page) ≡ Some home → places page ≡ At home
home_kept keep places page home at = by_test (nat_lt page keep) at
  where
    by_place : (place : PagePlace) → home_at place ≡ Some home → place ≡ At home
    by_place (At h) is = ap (λ h'. At h') (some_same h home is)
    by_place Hole is = none_some home is
    by_place Absent is = none_some home is

    by_test : (b : Bool) → home_at (cond b (places page) Absent) ≡ Some home → places page ≡ At home
    by_test true is = by_place (places page) is
    by_test false is = none_some home is

-- where they say none, none is kept
none_kept : (keep : ℕ) (places : Places) (page : ℕ) → home_at (places page) ≡ None → home_at (places_before keep places page) ≡ None
none_kept keep places page none = by_test (nat_lt page keep)
  where
    by_test : (b : Bool) → home_at (cond b (places page) Absent) ≡ None
    by_test true = none
    by_test false = refl

-- and a page that is not lost stands at its home
some_kept : (keep : ℕ) (places : Places) (page : ℕ) (home : Home) → places page ≡ At home → ¬ home_at (places_before keep places page) ≡ None → home_at (places_before keep places page) ≡ Some home
some_kept keep places page home at some = by_test (nat_lt page keep) some
  where
    by_test : (b : Bool) → ¬ home_at (cond b (places page) Absent) ≡ None → home_at (cond b (places page) Absent) ≡ Some home
    by_test true some = ap home_at at
    by_test false some = absurd (some refl)

-- what has no home is no file that stays
pub none_shown : (chain : Option (List PlacedCell)) → option_and_then seen_in chain ≡ None → option_and_then (of_live attributes_of) chain ≡ None
none_shown None none = refl
none_shown (Some cells) none = by_removed (is_removed cells) refl none (keep_there (Some cells))
  where
    by_keep : (is : Attributes) (o : Option ℕ) → option_map {U = SeenFile} (λ (keep : ℕ). record { is = is; homes = λ page. home_at (places_before keep (places_of cells) page) }) o ≡ None → (o ≡ None → ⊥) → Some is ≡ None
    by_keep is None none some = absurd (some refl)
    by_keep is (Some keep) none some = none_some _ (sym none)

    by_what : (o : Option Attributes) → option_and_then (kept_by cells) o ≡ None → ((is : Attributes) → o ≡ Some is → keep_of cells ≡ None → ⊥) → o ≡ None
    by_what None none keeps = refl
    by_what (Some is) none keeps = by_keep is (keep_of cells) none (keeps is refl)

    by_removed : (b : Bool) → is_removed cells ≡ b → cond b None (option_and_then (kept_by cells) (attributes_of cells)) ≡ None
        → ((is : Attributes) → cond b None (attributes_of cells) ≡ Some is → cond b None (keep_of cells) ≡ None → ⊥) → cond b None (attributes_of cells) ≡ None
    by_removed true gone none keeps = refl
    by_removed false live none keeps = by_what (attributes_of cells) none keeps

-- ---- what was read

-- the home of a page in a list
listed : (homes : List (Option Home)) (page : ℕ) (home : Home) → slice_get homes page ≡ Some (Some home) → home_in homes page ≡ Some home
listed homes page home at = ap (option_and_then (λ (h : Option Home). h)) at

-- a page stands at each home that was read, if one does at each home of the file
pub stored_by : (pages : Pages) (seen : SeenFile) (found : SeenPages) → IsSeenAs seen found → ((page : ℕ) (home : Home) → seen.homes page ≡ Some home → IsSome (pages home)) → AreStored pages found.homes.items
stored_by pages seen found is stands page home at = stands page home (sym (is.homes page) ∙ listed found.homes.items page home at)

module _ (pages : Pages) (layout : Layout) (laid : IsLayout pages layout) (no_fault : HasNoFault pages (frame_of layout)) where
  tables : HasNoTablesFault pages (frame_of layout)
  tables = none_of_tables pages (frame_of layout) no_fault

  -- ---- the rules of files and directories

  right_file : (number : ℕ) (tag : Tag) (first : PlacedCell) (rest : List PlacedCell) (seen : SeenFile) → Has pages layout.table number tag (first ∷ rest) seen
      → ¬ IsWrongFile pages (frame_of layout) layout.table number tag (first ∷ rest) seen seen.is.kind
  right_file number tag first rest seen has wrong =
      no_files pages layout laid no_fault (record { code = 9; home = home_of first.at }) (
        layout,
        refl,
        laid,
        inr (inr (inl (refl, inr (inr (inr (inr (record { number = number; tag = tag; cells = first ∷ rest; seen = seen; has = has; at = refl; wrong = wrong }))))))),
      )

  -- a directory's size is right
  pub right_size : (number : ℕ) (tag : Tag) (first : PlacedCell) (rest : List PlacedCell) (seen : SeenFile) → Has pages layout.table number tag (first ∷ rest) seen → seen.is.kind ≡ Directory
      → ¬ HasWrongSize (first ∷ rest) seen
  right_size number tag first rest seen has kind wrong =
      right_file number tag first rest seen has (subst (IsWrongFile pages (frame_of layout) layout.table number tag (first ∷ rest) seen) (sym kind) (inl wrong))

  -- so its pages have no gap
  pub no_gap : (number : ℕ) (tag : Tag) (first : PlacedCell) (rest : List PlacedCell) (seen : SeenFile) → Has pages layout.table number tag (first ∷ rest) seen → seen.is.kind ≡ Directory
      → (found : SeenPages) → IsSeenAs seen found → HasNoGap found.homes.items
  no_gap number tag first rest seen has kind found is page earlier less some =
      subst IsSome (sym (is.homes earlier)) (by_home (seen.homes earlier) refl)
    where
      by_home : (o : Option Home) → seen.homes earlier ≡ o → IsSome o
      by_home (Some home) at = refl
      by_home None none =
          absurd
          (right_size number tag first rest seen has kind
          (inl (λ sized.
          let within : page < sized.0 = (sized.2 page).0 (subst IsSome (is.homes page) some) in
          no_bool (subst IsSome none ((sized.2 earlier).1 (omega (arith, less, within)))))))

  -- ---- what a tag names

  -- the cells of a tag's file
  pub record FileOf (number : ℕ) (tag : Tag) (first : PlacedCell) (rest : List PlacedCell) : Type 0 where
    pub named : ¬ ¬ IsFirstOf pages (frame_of layout) number tag first.at
    pub file : AreFile pages first rest

  pub file_of : (number : ℕ) (first_tag : Home) → HasTags layout.table number first_tag → (places : List TagPlace) → IsDirectoryAt pages first_tag places
      → (chains : Chains) → AreFiles number places pages chains → (tag : Tag) (first : PlacedCell) (rest : List PlacedCell) → chains tag ≡ Some (first ∷ rest) → FileOf number tag first rest
  file_of number first_tag has places directory chains are tag first rest there = by_cell (cell_of pages places tag) refl leads.leads
    where
      leads : LeadsToFile number places pages tag (first ∷ rest)
      leads = subst (λ o. IfSome o (LeadsToFile number places pages tag)) there (are.some tag)

      by_cell : (o : Option CellAt) → cell_of pages places tag ≡ o → IsSomeAnd o (λ at. IsFile pages at (first ∷ rest)) → FileOf number tag first rest
      by_cell None leads is = absurd is
      by_cell (Some at) leads is = record {
        named = subst (λ a. ¬ ¬ IsFirstOf pages (frame_of layout) number tag a) (sym is.0) (first_there pages layout laid tables number first_tag has places directory tag at leads);
        file = is.1;
      }

  -- the index of a file
  pub whole_index : (number : ℕ) (tag : Tag) (first : PlacedCell) (rest : List PlacedCell) → FileOf number tag first rest → IfSome (index_of (first ∷ rest)) (IsReadIndex pages (frame_of layout))
  whole_index number tag first rest is = by_record (record_of 9 first.cell.records) refl
    where
      has : (value : Record) → record_of 9 first.cell.records ≡ Some value → (home : Home) → index_in value ≡ Some home → IsFirstOf pages (frame_of layout) number tag first.at → HasIndexAt pages (frame_of layout) first.at home
      has value there home begins_at named = record { cell = first.cell; is = record { place = named.place; stands = is.file.links.stands }; value = value; there = there; begins = begins_at }

      index : (value : Record) → record_of 9 first.cell.records ≡ Some value → (home : Home) → index_in value ≡ Some home → IsReadIndex pages (frame_of layout) home
      index value there home begins_at = record {
        read = λ h unread. is.named (λ named. index_read pages layout laid no_fault first.at home (has value there home begins_at named) h unread);
        next = λ place h page read.
            most_by (number_at 4 8 page) 8
            (λ bad. is.named (λ named.
            no_index pages layout laid no_fault h
            (inl (record { at = first.at; first = home; has = has value there home begins_at named; wrong = inr (place, page, read, inl (λ good. bad good.1)) }))));
      }

      by_home : (value : Record) → record_of 9 first.cell.records ≡ Some value → (o : Option Home) → index_in value ≡ o → IfSome o (IsReadIndex pages (frame_of layout))
      by_home value there None none = tt
      by_home value there (Some home) begins_at = index value there home begins_at

      by_record : (o : Option Record) → record_of 9 first.cell.records ≡ o → IfSome (option_and_then index_in o) (IsReadIndex pages (frame_of layout))
      by_record None none = tt
      by_record (Some value) there = by_home value there (index_in value) refl

  -- ---- a file of an original

  module _ (number : ℕ) (tag : Tag) (first : PlacedCell) (rest : List PlacedCell) (is : FileOf number tag first rest) (seen : SeenFile) (there : seen_in (first ∷ rest) ≡ Some seen) where
    what_kept : Kept (first ∷ rest) seen
    what_kept = kept (first ∷ rest) seen there

    -- its pages stand where they may
    pub original_may : (page : ℕ) (home : Home) → seen.homes page ≡ Some home → MayBe (frame_of layout) home
    original_may page home at =
        page_may pages layout laid no_fault number tag first rest is.named is.file page home (home_kept what_kept.keep (places_of (first ∷ rest)) page home (sym (what_kept.homes page) ∙ at))

    -- a directory keeps all of them
    pub home_there : Has pages layout.table number tag (first ∷ rest) seen → seen.is.kind ≡ Directory → (page : ℕ) → option_and_then pages (seen.homes page) ≡ page_there pages (places_of (first ∷ rest) page)
    home_there has kind page = by_place (places_of (first ∷ rest) page) refl
      where
        by_place : (place : PagePlace) → places_of (first ∷ rest) page ≡ place → option_and_then pages (seen.homes page) ≡ page_there pages place
        by_place (At home) at =
            let some : ¬ seen.homes page ≡ None = (λ gone. right_size number tag first rest seen has kind (inr (page, subst (λ p. IsSome (home_at p)) (sym at) refl, gone))) in
            ap (option_and_then pages) (what_kept.homes page ∙ some_kept what_kept.keep (places_of (first ∷ rest)) page home at (λ gone. some (what_kept.homes page ∙ gone)))
        by_place Hole at = ap (option_and_then pages) (what_kept.homes page ∙ none_kept what_kept.keep (places_of (first ∷ rest)) page (ap home_at at))
        by_place Absent at = ap (option_and_then pages) (what_kept.homes page ∙ none_kept what_kept.keep (places_of (first ∷ rest)) page (ap home_at at))

    module _ (all : HasAllPages pages (frame_of layout)) (has : Has pages layout.table number tag (first ∷ rest) seen) (file : TaggedFile) (same : IsSeenAs seen file.seen) where
      pub original_stored : AreStored pages file.seen.homes.items
      original_stored = stored_by pages seen file.seen same (λ page home at. page_held pages layout laid all number tag (first ∷ rest) seen has page home at (original_may page home at))

      page_shown : (kind : Kind) → file.seen.is.kind ≡ kind → (page : ℕ) → slice_get (shown_pages pages file.seen.homes.items kind) page ≡ shown_page pages (first ∷ rest) kind page
      page_shown File is_kind page = refl
      page_shown Directory is_kind page =
          let kind : seen.is.kind ≡ Directory = sym (ap (λ (a : Attributes). a.kind) same.is) ∙ is_kind in
          pages_in_order pages file.seen.homes.items (no_gap number tag first rest seen has kind file.seen same) original_stored page
          ∙ ap (option_and_then pages) (same.homes page) ∙ home_there has kind page

      pub original_shown : AreIndexPages pages (index_of (first ∷ rest)) (index_shown pages file.index.items) → ShowsAt pages (Some (first ∷ rest)) (Some (shown_by pages file))
      original_shown index =
          subst (λ b. IsSomeAnd (cond b None (Some (first ∷ rest))) (λ live. ShowsFile pages live (shown_by pages file))) (sym what_kept.live)
          (record {
            what = subst (λ o. IsSomeAnd o (IsWhat (shown_by pages file))) (sym what_kept.what)
                (record {
                  kind = ap (λ (a : Attributes). a.kind) same.is;
                  uid = ap (λ (a : Attributes). a.uid) same.is;
                  gid = ap (λ (a : Attributes). a.gid) same.is;
                  links = ap (λ (a : Attributes). a.links) same.is;
                });
            each = page_shown file.seen.is.kind refl;
            index = index;
          })
