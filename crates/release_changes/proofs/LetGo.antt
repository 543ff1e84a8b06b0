-- A domain once things on its list were let go of.
use Rattle.std.proofs.Common.{◌≡◌, ◌∙◌, ◌<◌, ℕ, Bool, true, false, not, List, [], ◌∷◌, Option, Some, None, IsSomeAnd, Contains, is_some, length, slice_get, if◌then◌else◌, refl, sym, ap, subst, arith, ⊎_elim}
use Rattle.std.proofs.lemmas.Bool.{and_parts, or_cases, true≢false}
use Rattle.std.specs.FinMap.{get}
use Rattle.std.specs.Option.{option_and_then, option_map_or, unwrap_or}
use Rattle.domain_changes.specs.domain_base.declared.place.CellAt.{CellAt}
use Rattle.domain_changes.specs.domain_base.declared.place.Home.{Home}
use Rattle.domain_changes.specs.domain_base.declared.place.Kind.TheVariants.{Directory, File}
use Rattle.domain_changes.specs.page_store.declared.fault.StoreFault.{StoreFault}
use Rattle.domain_changes.specs.page_store.declared.fault.StoreFault.TheVariants.{NoPage, OutOfMemory}
use Rattle.domain_changes.specs.cell_records.Records.{kind_of}
use Rattle.domain_changes.specs.cell_records.declared.record.Record.{Record}
use Rattle.domain_changes.specs.cell_records.declared.record.Record.TheVariants as written
use Rattle.domain_changes.specs.cell_records.declared.record.Leftover.TheVariants.{Remove, Trim}
use Rattle.domain_changes.specs.metadata_cells.Cell.{record_of}
use Rattle.domain_changes.specs.metadata_cells.Chain.{PlacedCell, StandsAt}
use Rattle.domain_changes.specs.file_chains.Allocated.{FindsNone}
use Rattle.domain_changes.proofs.OfFileChains.MapRecords.{kind_found}
use Rattle.domain_changes.specs.fileset_files.Files.{attributes_in, says_remove}
use Rattle.domain_changes.specs.fileset_files.Shown.{index_in, index_of}
use Rattle.domain_changes.specs.file_release.declared.reader.Reader.{Reader}
use Rattle.domain_changes.specs.file_release.Sharing.{frozen_of}
use Rattle.domain_changes.specs.file_release.Releases.{LacksPlace}
use Rattle.domain_changes.specs.release_list.declared.list.Entry.{Entry}
use Rattle.domain_changes.specs.release_list.Listed.{leftover_in}
use Rattle.domain_changes.specs.release_list.Listing.{Listing}
use Rattle.domain_changes.specs.release_list.Standing.{Files, IsFileOrQuotas, IsStanding}
use Rattle.domain_changes.specs.release_list.Steps.{IsGiven, IsWell, LacksRoom, LetsGo, Steps, StopsAfter, now_of}
use Rattle.domain_changes.proofs.OfReleaseList.Spread.{none_not}
use Rattle.domain_changes.proofs.OfReleaseList.Standings.{quota_first, standing}
use Rattle.domain_changes.proofs.OfReleaseSteps.Narrower.{in_last}
use Rattle.domain_changes.proofs.OfReleaseSteps.Others.{others_stay}
use Rattle.domain_changes.specs.fileset_model.Filesets.{FilesetMap}
use Rattle.domain_changes.specs.free_space.Spaces.{Spaces, kept_spaces}
use Rattle.domain_changes.specs.domain_layout.CellRules.{has_kind, say_removed, says_directory}
use Rattle.domain_changes.specs.domain_standing.Chains.{AreQuotasOf, IndexesAt, IsQuotaOf}
use Rattle.domain_changes.specs.domain_standing.Domain.{DomainNow, all_of}
use Rattle.domain_changes.specs.domain_standing.Sources.{StandAlone}
use Rattle.domain_changes.specs.domain_standing.Standing.{IsMarkedBut}
use Rattle.domain_changes.specs.page_ways.Frame.{frame_in}
use Rattle.domain_changes.specs.quota_book.Book.{Book}
use Rattle.domain_changes.specs.quota_book.Sums.{IsBookOf}
use Rattle.domain_changes.specs.staged_pages.Store.{pages_of}
use Rattle.domain_changes.specs.standing_laws.Leads.{StandsBelow}
use Rattle.domain_changes.specs.standing_laws.Sound.{StandsSound}
use Rattle.domain_changes.specs.domain_memory.Listing.{HaveOnce, list_with}
use Rattle.domain_changes.specs.domain_memory.Slots.{book_in, places_in, slot_in}
use Rattle.domain_changes.specs.domain_memory.Staged.{IsSettled, MayBeKept, staged_in}
use Rattle.domain_changes.specs.domain_memory.declared.memory.DomainMemory.{DomainMemory}
use Rattle.release_laws.specs.Released.{QuotasStay, Releases}
use Rattle.release_laws.specs.Trimmed.{TrimsFiles}
use Rattle.release_laws.proofs.BelowGo.{alone_goes, below_goes}
use Rattle.release_laws.proofs.BitsOver.{bits_over}
use Rattle.release_laws.proofs.Entries.{gives_none}
use Rattle.release_laws.proofs.PagesOver.{none_listed}
use Rattle.release_laws.proofs.ParentsOver.{parents_over}
use Rattle.release_laws.proofs.SlotsOver.{slots_over}
use Rattle.release_laws.proofs.SoundGo.{sound_goes}
use Rattle.release_laws.proofs.SpacesOver.{alone_over, space_over}
use Rattle.domain_changes.specs.domain_memory.Going.{MayLetGo, are_plain, say_directory}

-- ---- want of a page

zero_below : (page : ℕ) → page < 0 → ⊥
zero_below page less = omega (arith, less)

-- if no entry gives a clone's file none is wanted
pub no_lack : (list : Listing) (files : Files) → ((e : Entry) → Contains list.entries e → e.clone ≡ None) → LacksRoom list files → ⊥
no_lack list files alone lacks = by_reader lacks.reader (alone lacks.entry (in_last list lacks.front lacks.entry lacks.last)) lacks.given lacks.lacks
  where
    by_reader : {from : ℕ} {chain : List PlacedCell} (reader : Option Reader) → lacks.entry.clone ≡ None → IsGiven files lacks.entry.clone reader lacks.own → LacksPlace from (frozen_of reader) chain lacks.own → ⊥
    by_reader None none given place = zero_below place.page place.is_frozen
    by_reader (Some reader) none given place = subst (λ (o : Option CellAt). IsGiven files o (Some reader) lacks.own) none given

-- ---- first cells that are plain

module _ (cell : PlacedCell) (plain : are_plain cell.cell.records ≡ true) where
  has_attributes : has_kind 1 cell.cell.records ≡ true
  has_attributes = (and_parts (has_kind 1 cell.cell.records) _ plain).0

  no_index : has_kind 9 cell.cell.records ≡ false
  no_index = not_true (has_kind 9 cell.cell.records) (and_parts (not (has_kind 9 cell.cell.records)) _ (and_parts (has_kind 1 cell.cell.records) _ plain).1).0
    where
      not_true : (b : Bool) → not b ≡ true → b ≡ false
      not_true true is = absurd (true≢false (sym is))
      not_true false is = refl

  all_goes : say_removed cell.cell.records ≡ false → say_directory cell.cell.records ≡ false
  all_goes stays = ⊎_elim
      (λ no. not_true (say_directory cell.cell.records) no)
      (λ removed. absurd (true≢false (sym removed ∙ stays)))
      (or_cases (not (say_directory cell.cell.records)) (say_removed cell.cell.records) (and_parts (not (has_kind 9 cell.cell.records)) _ (and_parts (has_kind 1 cell.cell.records) _ plain).1).1)
    where
      not_true : (b : Bool) → not b ≡ true → b ≡ false
      not_true true is = absurd (true≢false (sym is))
      not_true false is = refl

file_of : (r : Record) → kind_of r ≡ 1 → says_directory r ≡ false → IsSomeAnd (attributes_in r) (λ is. is.kind ≡ File)
file_of (written.Attributes kind uid gid flags size keep links birth unsynced) is other = ap (λ (b : Bool). if b then Directory else File) other
file_of (written.CloneFile vol cell page frozen) is other = absurd (omega (arith, is))
file_of (written.Extents rows) is other = absurd (omega (arith, is))
file_of (written.ShortExtents rows) is other = absurd (omega (arith, is))
file_of (written.Holes rows) is other = absurd (omega (arith, is))
file_of (written.Pending what) is other = absurd (omega (arith, is))
file_of (written.UserQuota id files blocks) is other = absurd (omega (arith, is))
file_of (written.GroupQuota id files blocks) is other = absurd (omega (arith, is))
file_of (written.DirIndex vol page entries) is other = absurd (omega (arith, is))
file_of (written.Parent slot seq) is other = absurd (omega (arith, is))
file_of (written.Stripe width mark vols) is other = absurd (omega (arith, is))
file_of (written.Volume vol pages bitmap_pages) is other = absurd (omega (arith, is))
file_of (written.DenseExtents rows) is other = absurd (omega (arith, is))
file_of (written.ShortDense rows) is other = absurd (omega (arith, is))

-- what says that pages alone go does not say that all goes
trim_stays : (o : Option Record) → option_and_then leftover_in o ≡ Some Trim → option_map_or says_remove o false ≡ false
trim_stays None is = refl
trim_stays (Some (written.Pending Trim)) is = refl
trim_stays (Some (written.Pending Remove)) is = absurd (let e : Some Remove ≡ Some Trim = is in absurd (cc))
trim_stays (Some (written.Attributes kind uid gid flags size keep links birth unsynced)) is = refl
trim_stays (Some (written.CloneFile vol cell page frozen)) is = refl
trim_stays (Some (written.Extents rows)) is = refl
trim_stays (Some (written.ShortExtents rows)) is = refl
trim_stays (Some (written.Holes rows)) is = refl
trim_stays (Some (written.UserQuota id files blocks)) is = refl
trim_stays (Some (written.GroupQuota id files blocks)) is = refl
trim_stays (Some (written.DirIndex vol page entries)) is = refl
trim_stays (Some (written.Parent slot seq)) is = refl
trim_stays (Some (written.Stripe width mark vols)) is = refl
trim_stays (Some (written.Volume vol pages bitmap_pages)) is = refl
trim_stays (Some (written.DenseExtents rows)) is = refl
trim_stays (Some (written.ShortDense rows)) is = refl

nil_of : (homes : List Home) → ((home : Home) → ¬ Contains homes home) → homes ≡ []
nil_of [] none = refl
nil_of (home ∷ homes) none = absurd (none home (0, omega arith, refl))

nothing_in : (homes : List Home) → homes ≡ [] → (home : Home) → ¬ Contains homes home
nothing_in homes empty home inside = let e : length homes ≡ 0 = ap length empty in omega (arith, e, inside.1)

-- ---- the steps

module _ (old new : DomainMemory) (settled : IsSettled old) (may : MayLetGo old) (same : new ≡ record old { pages = new.pages; space = new.space; cells = new.cells; list = new.list }) (group count : ℕ)
    (goes : (files : Files) → IsWell (now_of old.list.list files old.space old.cells (pages_of old.pages)) → LetsGo group old.frame.version (now_of old.list.list files old.space old.cells (pages_of old.pages)) count new.list.list new.space new.cells (pages_of new.pages))
    (all : FilesetMap) (ready : MayBeKept old all)
  where
    abbrev d : DomainNow
    d = staged_in old

    abbrev now : DomainNow
    now = staged_in new

    abbrev files : Files
    files = ready.staged.sound.files

    abbrev indexes : IndexesAt
    indexes = ready.staged.sound.indexes

    below : StandsBelow d files indexes
    below = ready.staged.sound.below

    list_was : d.list ≡ old.list.list
    list_was = ap (λ l. list_with l old.list.list) settled.listed

    listed_now : new.listed.items ≡ []
    listed_now = ap (λ (m : DomainMemory). m.listed.items) same ∙ settled.listed

    list_now : now.list ≡ new.list.list
    list_now = ap (λ l. list_with l new.list.list) listed_now

    well_then : IsWell (now_of old.list.list files old.space old.cells (pages_of old.pages))
    well_then = subst (λ (l : Listing). IsWell (now_of l files old.space old.cells (pages_of old.pages))) list_was below.chains.well

    alone_then : (e : Entry) → Contains old.list.list.entries e → e.clone ≡ None
    alone_then = subst (λ (l : Listing). (e : Entry) → Contains l.entries e → e.clone ≡ None) list_was (gives_none d files indexes below ready.staged.alone)

    record AreSteps : Type 0 where
      files_now : Files
      steps : Steps group old.frame.version (now_of old.list.list files old.space old.cells (pages_of old.pages)) count (now_of new.list.list files_now new.space new.cells (pages_of new.pages))

    stops : (s : StopsAfter group old.frame.version (now_of old.list.list files old.space old.cells (pages_of old.pages)) count new.list.list new.space new.cells (pages_of new.pages)) → AreSteps
    stops s = by_fault s.fault s.cause s.full
      where
        by_fault : (fault : StoreFault) → FindsNone s.before new.space new.cells fault → (fault ≡ NoPage → LacksRoom new.list.list s.files) → AreSteps
        by_fault OutOfMemory none full = record {
          files_now = s.files;
          steps = subst (λ (space : Spaces). Steps group old.frame.version (now_of old.list.list files old.space old.cells (pages_of old.pages)) count (now_of new.list.list s.files space new.cells (pages_of new.pages))) (sym none) s.steps;
        }
        by_fault NoPage none full = absurd (no_lack new.list.list s.files (alone_over group old.frame.version (now_of old.list.list files old.space old.cells (pages_of old.pages)) count (now_of new.list.list s.files s.before new.cells (pages_of new.pages)) well_then s.steps alone_then) (full refl))

    are : AreSteps
    are = ⊎_elim (λ l. record { files_now = l.files; steps = l.steps }) stops (goes files well_then)

    abbrev files_now : Files
    files_now = are.files_now

    -- ---- entries of the list

    in_list : (e : Entry) → Contains d.list.entries e → Contains old.list.list.entries e
    in_list e = subst (λ (l : Listing). Contains l.entries e) list_was

    its_standing : (at : CellAt) (chain : List PlacedCell) → files at ≡ Some chain → IsStanding d.cells d.pages at chain
    its_standing at chain there = standing d.space d.cells d.pages files below.chains.well.together at chain there

    -- the first cell of an entry's chain is plain
    plain_at : (e : Entry) → Contains d.list.entries e → (first : PlacedCell) (rest : List PlacedCell) → files e.at ≡ Some (first ∷ rest) → are_plain first.cell.records ≡ true
    plain_at e inside first rest there = may.plain e (in_list e inside) first.cell (by_stands (its_standing e.at (first ∷ rest) there).stands)
      where
        by_stands : IsFileOrQuotas d.pages e.at (first ∷ rest) → StandsAt d.pages e.at first.cell
        by_stands = ⊎_elim
            (λ file. subst (λ (a : CellAt). StandsAt d.pages a first.cell) file.0 file.1.links.stands)
            (λ quotas. subst (λ (a : CellAt). StandsAt d.pages a first.cell) quotas.0 quotas.1.links.stands)

    no_quotas : (number : ℕ) (at : CellAt) → IsQuotaOf d number at → (e : Entry) → Contains d.list.entries e → ¬ e.at ≡ at
    no_quotas number at quota e inside same_at = by_chain (files at) refl (below.chains.quotas number at quota)
      where
        by_chain : (o : Option (List PlacedCell)) → files at ≡ o → IsSomeAnd o (AreQuotasOf d number at) → ⊥
        by_chain None there are = are
        by_chain (Some []) there are = are.quotas
        by_chain (Some (first ∷ rest)) there are =
            let none : record_of 1 first.cell.records ≡ None = quota_first d.pages at (first ∷ rest) are.quotas 1 (λ e. omega (arith, e)) (λ e. omega (arith, e)) in
            true≢false (sym (has_attributes first (plain_at e inside first rest (ap files same_at ∙ there))) ∙ ap is_some none)

    stays : (at : CellAt) → ((e : Entry) → Contains old.list.list.entries e → ¬ e.at ≡ at) → files_now at ≡ files at
    stays at nobody = others_stay group old.frame.version (now_of old.list.list files old.space old.cells (pages_of old.pages)) count (now_of new.list.list files_now new.space new.cells (pages_of new.pages)) are.steps at (λ e inside. (nobody e inside, λ clone. none_not at (sym (alone_then e inside) ∙ clone)))

    quotas_stay : QuotasStay d files_now
    quotas_stay number at quota gone = by_chain (files at) refl (below.chains.quotas number at quota)
      where
        by_chain : (o : Option (List PlacedCell)) → files at ≡ o → IsSomeAnd o (AreQuotasOf d number at) → ⊥
        by_chain None there held = held
        by_chain (Some chain) there held =
            none_not chain (sym gone ∙ stays at (λ e inside. no_quotas number at quota e (subst (λ (l : Listing). Contains l.entries e) (sym list_was) inside)) ∙ there)

    trims : TrimsFiles d files
    trims e [] inside there trim = absurd (none_not Trim trim)
    trims e (first ∷ rest) inside there trim = by_record (record_of 1 first.cell.records) refl (has_attributes first plain)
      where
        plain : are_plain first.cell.records ≡ true
        plain = plain_at e inside first rest there

        no_directory : say_directory first.cell.records ≡ false
        no_directory = all_goes first plain (trim_stays (record_of 6 first.cell.records) trim)

        by_record : (o : Option Record) → record_of 1 first.cell.records ≡ o → is_some o ≡ true → IsSomeAnd (option_and_then attributes_in o) (λ is. is.kind ≡ File)
        by_record None is some = absurd (true≢false (sym some))
        by_record (Some r) is some = file_of r (kind_found 1 first.cell.records r is) (ap (λ o. option_map_or says_directory o false) (sym is) ∙ no_directory)

    none_named : (at : CellAt) (chain : List PlacedCell) → files at ≡ Some chain → files_now at ≡ None → index_of chain ≡ None
    none_named at [] there gone = refl
    none_named at (first ∷ rest) there gone = by_index (has_kind 9 first.cell.records) refl
      where
        no_record : (o : Option Record) → is_some o ≡ false → o ≡ None
        no_record None is = refl
        no_record (Some r) is = absurd (true≢false is)

        by_index : (b : Bool) → has_kind 9 first.cell.records ≡ b → index_of (first ∷ rest) ≡ None
        by_index false none = ap (option_and_then index_in) (no_record (record_of 9 first.cell.records) none)
        by_index true named = absurd (none_not (first ∷ rest) (sym gone ∙ stays at nobody ∙ there))
          where
            nobody : (e : Entry) → Contains old.list.list.entries e → ¬ e.at ≡ at
            nobody e inside same_at = true≢false (sym named ∙ no_index first (plain_at e (subst (λ (l : Listing). Contains l.entries e) (sym list_was) inside) first rest (ap files same_at ∙ there)))

    -- ---- the change

    tags_gone : new.list.list.tag_pages ≡ []
    tags_gone = nil_of new.list.list.tag_pages (λ home. none_listed group old.frame.version (now_of old.list.list files old.space old.cells (pages_of old.pages)) count (now_of new.list.list files_now new.space new.cells (pages_of new.pages)) well_then are.steps home (nothing_in old.list.list.tag_pages may.tag_pages home))

    releases : Releases group count d now files files_now
    releases = record {
      steps = subst (λ (l : Listing). Steps group old.frame.version (all_of d files) count (now_of l files_now new.space new.cells (pages_of new.pages))) (sym list_now)
          (subst (λ (l : Listing). Steps group old.frame.version (now_of l files old.space old.cells (pages_of old.pages)) count (now_of new.list.list files_now new.space new.cells (pages_of new.pages))) (sym list_was) are.steps);
      frame = ap (λ (m : DomainMemory). frame_in m.frame) same;
      table = ap (λ (m : DomainMemory). m.table) same;
      tags = ap (λ (m : DomainMemory). λ (number : ℕ). places_in (slot_in m.slots.items number)) same;
      bytes = λ home page. ap (λ o. unwrap_or o []) page;
      tag_pages = ap (λ (l : Listing). l.tag_pages) list_now ∙ tags_gone ∙ sym (ap (λ (l : Listing). l.tag_pages) list_was ∙ may.tag_pages);
      quotas = λ number at quota removed. no_quotas number at quota;
      gone = none_named;
    }

    after : StandsBelow now files_now indexes
    after = below_goes group count d now files files_now indexes below ready.staged.alone releases quotas_stay

    alone_now : StandAlone now
    alone_now = alone_goes group count d now files files_now indexes below ready.staged.alone releases quotas_stay

    sound_now : StandsSound now files_now indexes
    sound_now = sound_goes group count d now files files_now indexes below ready.staged.alone ready.staged.sound.sound releases

    kept_same : kept_spaces new.space ≡ kept_spaces old.space
    kept_same = space_over group old.frame.version (all_of d files) count (all_of now files_now) below.chains.well releases.steps (gives_none d files indexes below ready.staged.alone)

    pub let_go_so : MayBeKept new all
    let_go_so = record {
      staged = record {
        stands = record {
          tables = after.tables;
          files = files_now;
          indexes = indexes;
          chains = after.chains;
          owned = after.owned;
          rest = after.rest;
          slots = slots_over group count d now files files_now indexes below after ready.staged.alone releases trims all ready.staged.stands.slots;
        };
        alone = alone_now;
        sound = record { files = files_now; indexes = indexes; below = after; sound = sound_now };
        marked = subst (λ (s : Spaces). IsMarkedBut (record now { space = s })) (sym kept_same) (bits_over group count d now files files_now indexes below after releases (kept_spaces old.space) ready.staged.marked);
        once = subst (λ (l : Listing). HaveOnce l.entries) list_now after.chains.well.listed.once;
        room = omega (arith, ap length listed_now);
      };
      parents = parents_over group count d now files files_now indexes below after ready.staged.alone releases trims all ready.staged.stands.slots ready.parents;
      books = λ number entry item. subst (λ (b : Book). IsSomeAnd (get all entry.name) (λ fileset. IsBookOf b fileset.tree)) (sym (ap (λ (m : DomainMemory). book_in (slot_in m.slots.items number)) same))
          (ready.books number entry (ap (λ (m : DomainMemory). slice_get m.table.slots number) (sym same) ∙ item));
    }
