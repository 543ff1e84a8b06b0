-- Pages that are none of a set's are given back: it shows the same.
use Rattle.std.proofs.Common.{◌≡◌, ◌∙◌, ◌≤◌, ℕ, Bool, true, false, cond, Option, Some, None, IfSome, List, [], ◌∷◌, Contains, refl, sym, ap, subst}
use Rattle.std.proofs.lemmas.Bool.{true≢false}
use Rattle.std.specs.List.{AllByRecursion}
use Rattle.std.specs.Option.{option_and_then, option_map_or}
use Rattle.index_pages.specs.domain_base.declared.place.CellAt.{CellAt}
use Rattle.index_pages.specs.domain_base.declared.place.Home.{Home}
use Rattle.index_pages.specs.domain_base.declared.place.Tag.{Tag}
use Rattle.index_pages.specs.page_store.Bitfiles.{Bitfiles, same_tag, without_file}
use Rattle.index_pages.specs.page_store.Pages.{Pages}
use Rattle.index_pages.specs.cell_records.declared.record.Record.{Record}
use Rattle.index_pages.specs.cell_records.declared.record.Record.TheVariants as written
use Rattle.index_pages.specs.cell_records.Records.{Allowed}
use Rattle.index_pages.specs.metadata_cells.Cell.{record_of}
use Rattle.index_pages.specs.metadata_cells.Chain.{PlacedCell, records_of}
use Rattle.index_pages.specs.tag_dirs.declared.dir.TagPlace.{TagPlace}
use Rattle.index_pages.specs.tag_dirs.Directory.{has_home}
use Rattle.index_pages.specs.extent_maps.declared.run.PagePlace.TheVariants.{Absent, At}
use Rattle.index_pages.specs.extent_records.Rows.{runs_of}
use Rattle.index_pages.specs.free_cells.Cells.{Cells, table_of}
use Rattle.index_pages.specs.free_space.VolumeSpace.{with_waiting}
use Rattle.index_pages.specs.free_space.declared.waiting.PageUse.TheVariants.{Metadata}
use Rattle.index_pages.specs.free_space.Spaces.{IsHeld, Spaces, change_volume}
use Rattle.index_pages.specs.file_chains.Allocated.{AreAllocated}
use Rattle.index_pages.specs.file_chains.Files.{IsFile, places_of}
use Rattle.index_pages.specs.fileset_files.Changes.{ChangesBeside, IsLive, without_chain}
use Rattle.index_pages.specs.fileset_files.Files.{AreFiles, Chains, place_at}
use Rattle.index_pages.specs.fileset_files.Shown.{index_in, index_of}
use Rattle.index_pages.specs.fileset_files.Together.{AreTogether, IsHeldApart}
use Rattle.index_pages.proofs.OfFilesetFiles.OneChain.{same_tag_itself}
use Rattle.index_pages.proofs.OfFilesetFiles.Room.{allowed_found}
use Rattle.index_pages.proofs.OfFilesetFiles.Parts.{file_at}
use Rattle.index_pages.proofs.OfFileRelease.Given.{allocated_given}
use Rattle.index_pages.proofs.OfFileRelease.Once.{absent_not, file_map, good_page}
use Rattle.index_pages.specs.Changes.{DropsIndex, with_waiting_at}
use Rattle.index_pages.proofs.Dropped.{held_beside, low_from, only}
use Rattle.index_pages.proofs.Homes.{head_there, kept_same, tail_there}
use Rattle.stored_set.specs.Standing.{AreTagsOnVolumes, Indexes, StandsShown, with_index}
use Rattle.stored_set.proofs.Beside.{shown_still}
use Rattle.stored_set.proofs.TakenOut.{in_index, none_in, place_before, taken_out}
use Rattle.stored_set.proofs.Together.{together_away}

-- ---- the volumes on which the pages of files and indexes stand

index_low : (r : Record) → Allowed r → IfSome (index_in r) (λ h. 1 ≤ h.vol)
unfolding Allowed
index_low (written.DirIndex vol page entries) allowed = allowed.0.0
index_low r allowed = tt

module _ (fileset : ℕ) (places : List TagPlace) (pages : Pages) (chains : Chains) (are : AreFiles fileset places pages chains) where
  pub low_place : (t : Tag) (k : ℕ) (h : Home) → place_at chains t k ≡ At h → 1 ≤ h.vol
  low_place t k h at = by_chain (chains t) refl at
    where
      by_chain : (o : Option (List PlacedCell)) → chains t ≡ o → option_map_or (λ cs. places_of cs k) o Absent ≡ At h → 1 ≤ h.vol
      by_chain None is at = absurd (absent_not h at)
      by_chain (Some cs) is at = let f = file_at fileset places pages chains are t cs is in (good_page (runs_of (records_of cs)) (file_map pages f.at cs f.is_file).placed k h at).low

  begins_low : (t : Tag) → IfSome (option_and_then index_of (chains t)) (λ h. 1 ≤ h.vol)
  begins_low t = by_chain (chains t) refl
    where
      by_record : (rs : List Record) → AllByRecursion Allowed rs → (o : Option Record) → record_of 9 rs ≡ o → IfSome (option_and_then index_in o) (λ h. 1 ≤ h.vol)
      by_record rs allowed None is = tt
      by_record rs allowed (Some r) is = index_low r (allowed_found 9 rs r is allowed)

      by_cells : (at : CellAt) (cs : List PlacedCell) → IsFile pages at cs → IfSome (index_of cs) (λ h. 1 ≤ h.vol)
      by_cells at [] is = absurd is
      by_cells at (first ∷ rest) is = by_record first.cell.records is.1.links.stands.is.well_formed.allowed (record_of 9 first.cell.records) refl

      by_chain : (o : Option (List PlacedCell)) → chains t ≡ o → IfSome (option_and_then index_of o) (λ h. 1 ≤ h.vol)
      by_chain None is = tt
      by_chain (Some cs) is = let f = file_at fileset places pages chains are t cs is in by_cells f.at cs f.is_file

-- ---- free space in which pages wait

module _ (group : ℕ) where
  pub held_while : (homes : List Home) (space : Spaces) (h : Home) → ((x : Home) → Contains homes x → 1 ≤ x.vol) → 1 ≤ h.vol → ¬ Contains homes h → IsHeld space h.vol h.page → IsHeld (with_waiting_at homes group space) h.vol h.page
  held_while [] space h low own off held = held
  held_while (x ∷ more) space h low own off held =
      held_while more (change_volume (with_waiting (record { page = x.page; kind = Metadata; group = group })) space x.vol) h (λ y inside. low y (tail_there x more y inside)) own (λ inside. off (tail_there x more h inside))
      (held_beside group space x h (low x (head_there x more)) own (λ e. off (subst (Contains (x ∷ more)) e (head_there x more))) held)

  pub allocated_while : (homes : List Home) (space : Spaces) (cells : Cells) (pages : Pages) → ((x : Home) → Contains homes x → 1 ≤ x.vol) → ((x : Home) → Contains homes x → ¬ Contains (table_of cells x.vol) x.page)
      → AreAllocated space cells pages → AreAllocated (with_waiting_at homes group space) cells pages
  allocated_while [] space cells pages low off are = are
  allocated_while (x ∷ more) space cells pages low off are =
      allocated_while more (change_volume (with_waiting (record { page = x.page; kind = Metadata; group = group })) space x.vol) cells pages (λ y inside. low y (tail_there x more y inside)) (λ y inside. off y (tail_there x more y inside))
      (allocated_given Metadata group (x ∷ []) space cells pages (λ y inside. low y (subst (Contains (x ∷ more)) (only x y inside) (head_there x more)))
      (λ y inside. off y (subst (Contains (x ∷ more)) (only x y inside) (head_there x more))) are)

-- ---- pages of no file, directory or index

pub record IsOfNone (places : List TagPlace) (cells : Cells) (chains : Chains) (indexes : Indexes) (home : Home) : Type 0 where
  pub low : 1 ≤ home.vol
  pub off_table : ¬ Contains (table_of cells home.vol) home.page
  pub no_tags : has_home places home ≡ false
  pub no_file : (t : Tag) (k : ℕ) → ¬ place_at chains t k ≡ At home
  pub no_index : (t : Tag) → ¬ Contains (indexes t) home

module _ (fileset : ℕ) (places : List TagPlace) (space : Spaces) (cells : Cells) (old new : Pages) (chains : Chains) (indexes : Indexes) (files : Bitfiles) (was : StandsShown fileset places space cells old chains indexes files) (tags_low : AreTagsOnVolumes places)
    (homes : List Home) (none : (h : Home) → Contains homes h → IsOfNone places cells chains indexes h) (group : ℕ) (others : (h : Home) → ¬ Contains homes h → new h ≡ old h) where
  abbrev space_now : Spaces
  space_now = with_waiting_at homes group space

  index_stays : (t : Tag) (h : Home) → Contains (indexes t) h → new h ≡ old h
  index_stays t h inside = others h (λ there. (none h there).no_index t inside)

  away : AreTogether fileset places space cells new chains
  away =
      together_away old new cells (λ h on. others h (λ inside. (none h inside).off_table on)) fileset places space chains (λ h has. others h (λ inside. true≢false (sym has ∙ (none h inside).no_tags))) was.together

  held_now : (h : Home) → 1 ≤ h.vol → ¬ Contains homes h → IsHeldApart space cells h → IsHeldApart space_now cells h
  held_now h own off is = record { held = held_while group homes space h (λ x inside. (none x inside).low) own off is.held; off_table = is.off_table }

  pub given_back : StandsShown fileset places space_now cells new chains indexes files
  given_back = record {
    together = record {
      files = away.files;
      allocated = allocated_while group homes space cells new (λ x inside. (none x inside).low) (λ x inside. (none x inside).off_table) away.allocated;
      on_tables = away.on_tables;
      tag_pages = λ h has. held_now h (tags_low h has) (λ inside. true≢false (sym has ∙ (none h inside).no_tags)) (away.tag_pages h has);
      file_pages = λ t k h at. record {
        apart = held_now h (low_place fileset places old chains was.together.files t k h at) (λ inside. (none h inside).no_file t k at) (away.file_pages t k h at).apart;
        no_tags = (away.file_pages t k h at).no_tags;
      };
      once = away.once;
    };
    shows = λ t. shown_still old new chains indexes t (files t) (was.indexed t) (λ k h at. others h (λ inside. (none h inside).no_file t k at)) (index_stays t) (was.shows t);
    indexed = λ t. kept_same old new (option_and_then index_of (chains t)) (indexes t) (was.indexed t) (index_stays t);
    stand = λ t h inside. record {
      apart = held_now h (low_from old (option_and_then index_of (chains t)) (indexes t) (was.indexed t) (begins_low fileset places old chains was.together.files t) h inside) (λ there. (none h there).no_index t inside) (was.stand t h inside).apart;
      no_tags = (was.stand t h inside).no_tags;
    };
    apart = was.apart;
    once = was.once;
  }

-- ---- a directory that goes with its index

module _ (fileset group : ℕ) (places : List TagPlace) (space space_now : Spaces) (cells : Cells) (old mid new : Pages) (chains : Chains) (indexes : Indexes) (files : Bitfiles) (was : StandsShown fileset places space cells old chains indexes files)
    (tags_low : AreTagsOnVolumes places) (tag : Tag) (live : IsLive tag chains) (beside : ChangesBeside places (chains tag) old mid) (together : AreTogether fileset places space cells mid (without_chain tag chains)) (drops : DropsIndex group space space_now mid new (indexes tag)) where
  none_has : (h : Home) → Contains (indexes tag) h → IsOfNone places cells (without_chain tag chains) (with_index tag [] indexes) h
  none_has h inside = record {
    low = low_from old (option_and_then index_of (chains tag)) (indexes tag) (was.indexed tag) (begins_low fileset places old chains was.together.files tag) h inside;
    off_table = (was.stand tag h inside).apart.off_table;
    no_tags = (was.stand tag h inside).no_tags;
    no_file = λ t k at. was.apart tag t k h inside (place_before fileset places space cells old mid chains indexes files was tag live beside t k h at);
    no_index = λ t there. by_tag t there (same_tag t tag) refl;
  }
    where
      by_tag : (t : Tag) → Contains (with_index tag [] indexes t) h → (b : Bool) → same_tag t tag ≡ b → ⊥
      by_tag t there true same = none_in h (subst (λ (hs : List Home). Contains hs h) (ap (λ (b : Bool). cond b [] (indexes t)) same) there)
      by_tag t there false other =
          true≢false (sym (same_tag_itself tag) ∙ ap (λ (u : Tag). same_tag u tag) (was.once tag t h inside (in_index fileset places space cells old mid chains indexes files was tag live beside t h there)) ∙ other)

  pub taken_with_index : StandsShown fileset places space_now cells new (without_chain tag chains) (with_index tag [] indexes) (without_file tag files)
  taken_with_index =
      subst (λ (s : Spaces). StandsShown fileset places s cells new (without_chain tag chains) (with_index tag [] indexes) (without_file tag files)) (sym drops.waits)
      (given_back fileset places space cells mid new (without_chain tag chains) (with_index tag [] indexes) (without_file tag files) (taken_out fileset places space cells old mid chains indexes files was tag live beside together) tags_low (indexes tag) none_has group drops.others)
