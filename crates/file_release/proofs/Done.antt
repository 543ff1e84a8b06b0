-- A step that was carried out.
use Rattle.std.proofs.Common.{◌≡◌, ◌∙◌, ℕ, ◌<◌, ◌||◌, Bool, false, List, [], Option, Some, None, IfNone, IfSome, Contains, refl, sym, ap, subst, arith, ⊎_elim, ◌⊎◌, inl, inr}
use Rattle.fileset_files.specs.domain_base.declared.place.CellAt.{CellAt}
use Rattle.fileset_files.specs.domain_base.declared.place.Home.{Home}
use Rattle.fileset_files.specs.domain_base.declared.version.Version.{Version}
use Rattle.fileset_files.specs.page_store.Pages.{Pages, same_home}
use Rattle.fileset_files.specs.metadata_cells.CellPage.{HasPlace, IsUsedAt, home_of}
use Rattle.fileset_files.specs.metadata_cells.Chain.{PlacedCell, StandsAt, is_at, places}
use Rattle.fileset_files.proofs.OfMetadataCells.Frames.{stands_stays}
use Rattle.fileset_files.specs.extent_maps.declared.run.PagePlace.TheVariants.{Absent, At}
use Rattle.fileset_files.specs.extent_maps.Runs.{Places, place_of}
use Rattle.fileset_files.specs.extent_records.Writing.{places_in}
use Rattle.fileset_files.specs.free_cells.Cells.{Cells, is_closed, is_free, table_of}
use Rattle.fileset_files.specs.free_cells.Belong.{Belong}
use Rattle.fileset_files.proofs.OfFreeCells.Belongs.{used_not_free}
use Rattle.fileset_files.specs.free_space.declared.waiting.PageUse.{PageUse}
use Rattle.fileset_files.specs.free_space.Spaces.{Spaces}
use Rattle.fileset_files.specs.file_chains.Allocated.{AreAllocated}
use Rattle.fileset_files.specs.file_chains.FileChanges.{AreOnTables, LeavesOtherCells}
use Rattle.fileset_files.specs.file_chains.Files.{IsFile, places_of}
use Rattle.fileset_files.specs.file_chains.MapChanges.{ChangesAtMost, LeavesOffTables}
use Rattle.fileset_files.proofs.OfFileChains.Added.{off_table, used_of}
use Rattle.fileset_files.proofs.OfFileChains.ChainChanges.{at_apart, stand_file}
use Rattle.fileset_files.proofs.OfFileChains.FewPages.{then_changes, two_change}
use Rattle.fileset_files.proofs.OfFileChains.OnePage.{place_stands}
use Rattle.file_release.specs.declared.reader.Reader.{Reader}
use Rattle.file_release.specs.declared.released.Released.{Released}
use Rattle.file_release.specs.declared.released.Released.TheVariants as released
use Rattle.file_release.specs.declared.releasing.Plan.{Plan}
use Rattle.file_release.specs.Reading.{HasPageFrom, IsGone}
use Rattle.file_release.specs.Releases.{GivesBack, LeavesBoth, Progresses, Releases, use_of}
use Rattle.file_release.specs.Sharing.{IsReader, frozen_of}
use Rattle.file_release.specs.Steps.{AllStand, GivesTail, HandsOver, IsFreed, IsPlanned, KeepsCells, PassesOn, WritesEdit, edited, is_freed, went}
use Rattle.file_release.proofs.Cuts.{Cuts}
use Rattle.file_release.proofs.Found.{front_of}
use Rattle.file_release.proofs.Freed.{allocated_over}
use Rattle.file_release.proofs.Given.{absent_home}
use Rattle.fileset_files.proofs.Given.{one_file}
use Rattle.fileset_files.proofs.Grown.{on_grown, tables_grow}
use Rattle.fileset_files.proofs.OneChain.{file_by, stand_still}
use Rattle.file_release.proofs.Outcome.{Passed, on_all, on_at, passed_none, passed_some, reader_by, reader_stands}
use Rattle.file_release.proofs.Passed.{read_last}
use Rattle.file_release.proofs.Stepped.{IsWritable, Steps, Written, stand_apart, steps, written}

-- a page that is there still stood there
still_there : (source source_now : Places) → ((p : ℕ) → (source_now p ≡ source p) ⊎ (source_now p ≡ Absent)) → (p : ℕ) (home : Home) → source_now p ≡ At home → source p ≡ At home
still_there source source_now left p home there = ⊎_elim (λ same. sym same ∙ there) (λ gone. absurd (absent_home home gone there)) (left p)

by_option : {X C : Type 0} (o : Option X) → (o ≡ None → C) → ((x : X) → o ≡ Some x → C) → C
by_option None none some = none refl
by_option (Some x) none some = some x refl

no_reader : (reader : Option Reader) (p : ℕ) → p < frozen_of reader → reader ≡ None → ⊥
no_reader None p less is = omega (arith, less)
no_reader (Some r) p less is = cc

module _ (from : ℕ) (start : CellAt) (reader : Option Reader) (plan : Plan) (space : Spaces) (cells : Cells) (old : Pages) (chain own : List PlacedCell) (is : IsPlanned from start reader plan space cells old chain own)
    (kind : PageUse) (group : ℕ) (version : Version) (space_now : Spaces) (cells_now : Cells) (mid : Pages) (passes : PassesOn plan.tail (place_of plan.map) reader own kind group version space space_now cells cells_now old mid) (allocated : AreAllocated space_now cells_now mid) where
  -- the tables have what they had, and what is in neither chain stays
  record Kept : Type 0 where
    tables : (vol p : ℕ) → Contains (table_of cells vol) p → Contains (table_of cells_now vol) p
    others : LeavesOtherCells cells own old mid
    elsewhere : LeavesOffTables cells_now old mid

  kept_none : plan.tail.home ≡ None → Kept
  kept_none none =
      let gives = subst (λ o. IfNone o (GivesTail plan.tail.from (place_of plan.map) kind group space space_now cells cells_now old mid)) none passes.1 in
      record {
        tables = λ vol p on. subst (λ (c : Cells). Contains (table_of c vol) p) (sym gives.same_cells) on;
        others = λ at cell stands on apart. subst (λ (p : Pages). StandsAt p at cell) (sym gives.same_pages) stands;
        elsewhere = λ home out. ap (λ (p : Pages). p home) gives.same_pages;
      }

  kept_some : (home : Home) → plan.tail.home ≡ Some home → (r : Reader) → reader ≡ Some r → Kept
  kept_some home some r reader_is =
      let hands =
      subst (λ o. IfSome o (λ r. HandsOver plan.tail.from home r.at own version space space_now cells cells_now old mid)) reader_is
      (subst (λ o. IfSome o (λ home. IfSome reader (λ r. HandsOver plan.tail.from home r.at own version space space_now cells cells_now old mid))) some passes.0) in
      record {
        tables = tables_grow plan.tail.from (At home) own home.vol space space_now cells cells_now old hands.taken;
        others = hands.others;
        elsewhere = hands.elsewhere;
      }

  has_reader : (home : Home) → plan.tail.home ≡ Some home → reader ≡ None → ⊥
  has_reader home some none = no_reader reader plan.tail.from (read_last from start reader plan space cells old chain own is home some).is_frozen none

  kept : Kept
  kept = by_option plan.tail.home kept_none (λ home some. by_option reader (λ none. absurd (has_reader home some none)) (λ r reader_is. kept_some home some r reader_is))

  passed : (after : List PlacedCell) → Cuts plan.tail.from is.planned.spot.value chain after → Passed from start reader plan space cells old chain own is kind group version space_now cells_now mid passes after
  passed after cuts = by_option plan.tail.home (λ none. passed_none from start reader plan space cells old chain own is kind group version space_now cells_now mid passes after cuts none)
      (λ home some. by_option reader (λ none. absurd (has_reader home some none)) (λ r reader_is. passed_some from start reader plan space cells old chain own is kind group version space_now cells_now mid passes after cuts home some r reader_is))

  chain_mid : AllStand mid chain
  chain_mid = stand_still old mid cells own chain kept.others is.sharing.apart is.sharing.on_tables (stand_file old start chain is.sharing.file)

  file_mid : IsFile mid start chain
  file_mid = file_by old mid start chain chain_mid is.sharing.file

  on_mid : AreOnTables cells_now chain
  on_mid = on_grown cells cells_now kept.tables chain is.sharing.on_tables

  before : Written plan.tail.from mid start chain is.planned.spot.front is.planned.spot.rest is.planned.spot.c is.planned.spot.value plan.edit file_mid is.planned.spot.all is.planned.spot.map is.planned.edit
  before = written plan.tail.from mid start chain is.planned.spot.front is.planned.spot.rest is.planned.spot.c is.planned.spot.value plan.edit file_mid is.planned.spot.all is.planned.spot.map is.planned.edit

  -- ---- what writing wants

  pub place : HasPlace mid plan.edit.at
  place = place_stands mid plan.edit.at before.cell before.stands

  pub writes_well : IsWritable (edited plan.edit)
  writes_well = before.writes

  pub not_free : is_free cells_now plan.edit.at ≡ false
  not_free = used_not_free cells_now mid allocated.belong plan.edit.at (used_of mid plan.edit.at before.cell before.stands)

  pub may_free : IfSome plan.edit.freed (λ freed. (is_at plan.edit.at freed ≡ false) × IsUsedAt mid freed × Contains (table_of cells_now freed.vol) freed.page)
  may_free = each plan.edit.freed before.freed
    where
      each : (o : Option CellAt) → IfSome o (λ freed. (is_at plan.edit.at freed ≡ false) × IsUsedAt mid freed × Contains (places chain) freed) → IfSome o (λ freed. (is_at plan.edit.at freed ≡ false) × IsUsedAt mid freed × Contains (table_of cells_now freed.vol) freed.page)
      each None f = tt
      each (Some freed) f = (f.0, f.1, on_at cells_now chain freed on_mid f.2)

  -- ---- what is written

  module _ (cells_new : Cells) (new : Pages) (writes : WritesEdit plan.edit cells_now cells_new mid new) (belong : Belong cells_new new) where
    same_tables : (vol : ℕ) → table_of cells_new vol ≡ table_of cells_now vol
    same_tables vol = each plan.edit.freed writes.freed
      where
        each : (o : Option CellAt) → IsFreed o cells_now cells_new → table_of cells_new vol ≡ table_of cells_now vol
        each None freed = ap (λ (c : Cells). table_of c vol) freed
        each (Some at) freed = freed.tables vol

    same_marks : (vol : ℕ) → is_closed cells_new vol ≡ is_closed cells_now vol
    same_marks vol = each plan.edit.freed writes.freed
      where
        each : (o : Option CellAt) → IsFreed o cells_now cells_new → is_closed cells_new vol ≡ is_closed cells_now vol
        each None freed = ap (λ (c : Cells). is_closed c vol) freed
        each (Some at) freed = freed.marks vol

    pub allocated_new : AreAllocated space_now cells_new new
    allocated_new = allocated_over space_now cells_now cells_new mid new allocated same_tables same_marks belong writes.headers

    on_new : (vol p : ℕ) → Contains (table_of cells_now vol) p → Contains (table_of cells_new vol) p
    on_new vol p on = subst (λ (t : List ℕ). Contains t p) (sym (same_tables vol)) on

    -- cells off the chain stay
    untouched : (at : CellAt) → ¬ Contains (places chain) at → (is_at plan.edit.at at || is_freed plan.edit.freed at) ≡ false
    untouched at out = ap (λ (b : Bool). b || is_freed plan.edit.freed at) (at_apart plan.edit.at at (λ same. out (subst (Contains (places chain)) same before.inside))) ∙ each plan.edit.freed before.freed
      where
        each : (o : Option CellAt) → IfSome o (λ freed. (is_at plan.edit.at freed ≡ false) × IsUsedAt mid freed × Contains (places chain) freed) → is_freed o at ≡ false
        each None f = refl
        each (Some freed) f = at_apart freed at (λ same. out (subst (Contains (places chain)) same f.2))

    pub others : LeavesBoth cells chain own old new
    others at cell stands on out out_own =
        stands_stays mid new (λ q. is_at plan.edit.at q || is_freed plan.edit.freed q) writes.others at cell (untouched at out) (kept.others at cell stands on out_own)

    pub elsewhere : LeavesOffTables cells_new old new
    elsewhere home out =
        let off = (λ (at : CellAt) (inside : Contains (places chain) at). off_table cells_now at home (on_at cells_now chain at on_mid inside) (λ on. out (on_new home.vol home.page on))) in
        writes.elsewhere home (off plan.edit.at before.inside) (each off plan.edit.freed before.freed)
        ∙ kept.elsewhere home (λ on. out (on_new home.vol home.page on))
      where
        each : ((at : CellAt) → Contains (places chain) at → same_home home (home_of at) ≡ false) → (o : Option CellAt) → IfSome o (λ freed. (is_at plan.edit.at freed ≡ false) × IsUsedAt mid freed × Contains (places chain) freed) → IfSome o (λ freed. same_home home (home_of freed) ≡ false)
        each off None f = tt
        each off (Some freed) f = off freed f.2

    stepped : Steps plan.tail.from mid start chain is.planned.spot.front is.planned.spot.rest is.planned.spot.c is.planned.spot.value plan.edit file_mid is.planned.spot.all is.planned.spot.map is.planned.edit new cells_now cells_new writes
    stepped = steps plan.tail.from mid start chain is.planned.spot.front is.planned.spot.rest is.planned.spot.c is.planned.spot.value plan.edit file_mid is.planned.spot.all is.planned.spot.map is.planned.edit new cells_now cells_new writes

    -- of the edit the pages of the cell that is written, and of the one that is freed
    abbrev freed_home : Option CellAt → Home
    freed_home None = home_of plan.edit.at
    freed_home (Some freed) = home_of freed

    edit_changes : ChangesAtMost 2 mid new
    edit_changes = two_change mid new (home_of plan.edit.at) (freed_home plan.edit.freed) (λ home first second. writes.elsewhere home first (each home plan.edit.freed second))
      where
        each : (home : Home) (o : Option CellAt) → same_home home (freed_home o) ≡ false → IfSome o (λ freed. same_home home (home_of freed) ≡ false)
        each home None apart = tt
        each home (Some freed) apart = apart

    something : HasPageFrom plan.tail.from (places_in is.planned.spot.value) ⊎ ((¬ is.planned.spot.front ≡ []) × ((page : ℕ) → places_in is.planned.spot.value page ≡ Absent))
    something = ⊎_elim (λ has. inl (is.planned.tail.some has)) (λ empty. inr (front_of from chain is.stale is.planned.spot empty.0, empty.1)) is.planned.spot.is_stale

    pub releases : kind ≡ use_of chain → Releases from start reader group version chain own space space_now cells cells_new old new (went plan.edit.freed)
    releases kind_is =
        let s = stepped in
        let p = passed s.after s.cuts in
        record {
          after = s.after;
          own_now = p.own_now;
          again = record {
            file = s.stays.is_file;
            reads = reader_by mid new reader p.own_now
                (stand_apart mid new (λ q. is_at plan.edit.at q || is_freed plan.edit.freed q) writes.others p.own_now (λ at inside. untouched at (λ in_chain. p.apart at in_chain inside)) (reader_stands mid reader p.own_now p.reads)) p.reads;
            on_tables = on_all cells_new s.after (λ at inside. on_new at.vol at.page (on_at cells_now chain at on_mid (s.within at inside)));
            own_on_tables = on_grown cells_now cells_new on_new p.own_now p.on;
            apart = λ at inside. p.apart at (s.within at inside);
            held = λ page home there. let h = p.held page home there in record { held = h.held; off_table = λ on. h.off_table (subst (λ (t : List ℕ). Contains t home.page) (same_tables home.vol) on) };
            once = λ a b home x y. is.sharing.once a b home (still_there (places_of chain) (places_of s.after) p.lets.left a home x) (still_there (places_of chain) (places_of s.after) p.lets.left b home y);
            not_own = p.not_own;
          };
          first = s.stays.first;
          one = s.one;
          kinds = s.kinds;
          few = ⊎_elim
              (λ same. inl (subst (λ (pages : Pages). ChangesAtMost 2 pages new) same edit_changes))
              (λ hands. inr (hands.0, then_changes 3 2 old mid new hands.1 edit_changes))
              p.few;
          own_first = p.first;
          within = s.within;
          joined = p.joined;
          kept = p.kept;
          handed = p.handed;
          pages = p.lets;
          space_between = p.between;
          cells_between = cells_now;
          taken = p.taken;
          given = subst (λ (k : PageUse). GivesBack (IsGone (places_of p.own_now) (places_of chain) (places_of s.after)) k group p.between space_now) kind_is p.given;
          progress = weaker s.after (went plan.edit.freed) (s.progress something);
        }
      where
        weaker : (after : List PlacedCell) (what : Released) → Progresses what plan.tail.from chain after cells_now cells_new → Progresses what from chain after cells_now cells_new
        weaker after released.Nothing progress = progress
        weaker after released.Pages progress = record {
          page = progress.page;
          begins = omega (arith, progress.begins, is.planned.tail.begins);
          was = progress.was;
          gone = progress.gone;
          same_places = progress.same_places;
          same_cells = progress.same_cells;
        }
        weaker after released.Cell progress = progress

    -- each cell of the chain but the freed one is still one of the file
    pub keeps : KeepsCells plan.edit.freed start chain new
    keeps after file at inside other =
        let s = stepped in
        subst (λ (cs : List PlacedCell). Contains (places cs) at) (one_file new start s.after after s.stays.is_file file) (s.keeps at inside other)

    -- where nothing is handed over the reader's chain is what it was
    pub own_stays : plan.tail.home ≡ None → IsReader new reader own
    own_stays none =
        let gives = subst (λ o. IfNone o (GivesTail plan.tail.from (place_of plan.map) kind group space space_now cells cells_now old mid)) none passes.1 in
        let reads = subst (λ (p : Pages). IsReader p reader own) (sym gives.same_pages) is.sharing.reads in
        reader_by mid new reader own
        (stand_apart mid new (λ q. is_at plan.edit.at q || is_freed plan.edit.freed q) writes.others own (λ at inside. untouched at (λ in_chain. is.sharing.apart at in_chain inside)) (reader_stands mid reader own reads)) reads
