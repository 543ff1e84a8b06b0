-- Files stand together once pages of one were handed to its reader, or given back.
use Rattle.std.proofs.Common.{◌≡◌, ◌∙◌, ℕ, zero, suc, ◌≤◌, false, nat_le, List, [], ◌∷◌, Option, Some, None, IsSome, is_some, IsSomeAnd, Contains, refl, sym, ap, subst, unwrap_or, arith, ⊎_elim, ◌⊎◌, inl, inr}
use Rattle.std.specs.List.{AllByRecursion}
use Rattle.std.specs.Option.{option_and_then, option_map_or}
use Rattle.file_release.specs.domain_base.declared.place.CellAt.{CellAt}
use Rattle.file_release.specs.domain_base.declared.place.Home.{Home}
use Rattle.file_release.specs.domain_base.declared.version.Version.{Version}
use Rattle.file_release.specs.page_store.Pages.{Pages}
use Rattle.file_release.specs.metadata_cells.Cell.{Cell}
use Rattle.file_release.specs.metadata_cells.Chain.{PlacedCell, StandsAt, places, records_of}
use Rattle.file_release.specs.extent_maps.declared.run.PagePlace.TheVariants.{Absent, At}
use Rattle.file_release.specs.extent_records.Rows.{runs_of}
use Rattle.file_release.specs.extent_records.Writing.{most_rows}
use Rattle.file_release.specs.free_cells.Cells.{Cells, table_of}
use Rattle.file_release.specs.free_space.Spaces.{IsHeld, Spaces}
use Rattle.file_release.specs.file_chains.Allocated.{AreAllocated}
use Rattle.file_release.specs.file_chains.FileChanges.{AreOnTables}
use Rattle.file_release.specs.file_chains.Files.{IsFile, places_of}
use Rattle.file_release.specs.fileset_files.Files.{AreApart, first_record}
use Rattle.file_release.specs.fileset_files.Together.{IsHeldApart}
use Rattle.file_release.proofs.OfFilesetFiles.Again.{one_home}
use Rattle.file_release.proofs.OfFilesetFiles.Grown.{apart_grows, on_grown, tables_grow}
use Rattle.file_release.proofs.OfFilesetFiles.OneChain.{placed_at}
use Rattle.file_release.specs.declared.reader.Reader.{Reader}
use Rattle.file_release.specs.declared.released.Released.{Released}
use Rattle.file_release.specs.declared.released.Released.TheVariants as released
use Rattle.file_release.specs.Reading.{IsGone}
use Rattle.file_release.specs.Releases.{LeavesBoth, Progresses, Releases, use_of}
use Rattle.file_release.specs.Sharing.{AreSharing, IsReader}
use Rattle.file_release.proofs.Given.{absent_home, held_given}
use Rattle.file_release.proofs.Once.{absent_not, file_map, good_page}
use Rattle.file_release.proofs.Outcome.{on_at}
use Rattle.release_list.specs.declared.list.Entry.{Entry}
use Rattle.release_list.specs.Listed.{IsEntry, IsListed, stale_from}
use Rattle.release_list.specs.Listing.{Listing}
use Rattle.release_list.specs.Standing.{Files, IsStanding, Source, StandTogether, place_in, source_at, source_in, source_of, with_file}
use Rattle.release_list.specs.Steps.{IsGiven, with_clone}
use Rattle.release_list.proofs.Firsts.{first_same, says_by, then_then}
use Rattle.release_list.proofs.Standings.{apart_by, apart_from, chain_by, each_from, file_other, file_there, low_home, place_by, reads_by, same_or_not, source_file, stand_chain, standing}

pub some_same : {X : Type 0} (x y : X) → Some x ≡ Some y → x ≡ y
some_same x y same = ap (λ o. unwrap_or o x) same

pub none_not : {X : Type 0} (x : X) → None ≡ Some x → ⊥
none_not x same = cc

nothing_inside : (at : CellAt) (cs : List PlacedCell) → cs ≡ [] → ¬ Contains (places cs) at
nothing_inside at cs none inside = let it = subst (λ (xs : List PlacedCell). Contains (places xs) at) none inside in omega (arith, it.1)

stands_in : (pages : Pages) (cs : List PlacedCell) (at : CellAt) → AllByRecursion (λ (c : PlacedCell). StandsAt pages c.at c.cell) cs → Contains (places cs) at → (cell : Cell) × StandsAt pages at cell
stands_in pages [] at stand inside = absurd (omega (arith, inside.1))
stands_in pages (c ∷ cs) at stand (zero, within, is) = (c.cell, subst (λ (a : CellAt). StandsAt pages a c.cell) is stand.0)
stands_in pages (c ∷ cs) at stand (suc k, within, is) = stands_in pages cs at stand.1 (k, omega (arith, within), is)

-- cells of neither chain stay
stay_both : (cells : Cells) (chain own : List PlacedCell) (old new : Pages) → LeavesBoth cells chain own old new → (cs : List PlacedCell) → AreApart cs chain → AreApart cs own → AreOnTables cells cs
    → AllByRecursion (λ (c : PlacedCell). StandsAt old c.at c.cell) cs → AllByRecursion (λ (c : PlacedCell). StandsAt new c.at c.cell) cs
stay_both cells chain own old new leaves [] one two on stand = tt
stay_both cells chain own old new leaves (c ∷ cs) one two on stand = (
  leaves c.at c.cell stand.0 on.0 (one c.at (0, omega arith, refl)) (two c.at (0, omega arith, refl)),
  stay_both cells chain own old new leaves cs (λ q inside. one q (suc inside.0, omega (arith, inside.1), inside.2)) (λ q inside. two q (suc inside.0, omega (arith, inside.1), inside.2)) on.1 stand.1,
)

-- ---- which file it is

pub data Which (at : CellAt) (clone : Option CellAt) (a : CellAt) : Type 0 where
  source : a ≡ at → Which at clone a
  reading : clone ≡ Some a → Which at clone a
  other : ¬ a ≡ at → ¬ clone ≡ Some a → Which at clone a

pub which : (at : CellAt) (clone : Option CellAt) (a : CellAt) → Which at clone a
which at clone a = ⊎_elim (λ same. source same) (λ not_at. by_clone clone refl not_at) (same_or_not a at)
  where
    by_clone : (o : Option CellAt) → clone ≡ o → ¬ a ≡ at → Which at clone a
    by_clone None is not_at = other not_at (λ some. none_not a (sym is ∙ some))
    by_clone (Some c) is not_at = ⊎_elim (λ same. reading (is ∙ ap Some (sym same))) (λ not_it. other not_at (λ some. not_it (sym (some_same c a (sym is ∙ some))))) (same_or_not a c)

-- the clone's file that is given
pub record Reads (files : Files) (clone_is : Option CellAt) (reader : Option Reader) (own : List PlacedCell) : Type 0 where
  pub clone : CellAt
  pub r : Reader
  pub is_clone : clone_is ≡ Some clone
  pub is_reader : reader ≡ Some r
  pub at : r.at ≡ clone
  pub own_is : files clone ≡ Some own
  pub frozen : IsSomeAnd (source_of own) (λ source. source.frozen ≡ r.frozen)

pub has_reader : (files : Files) (clone : Option CellAt) (reader : Option Reader) (own : List PlacedCell) → IsGiven files clone reader own
    → ((clone ≡ None) × (reader ≡ None) × (own ≡ [])) ⊎ Reads files clone reader own
has_reader files None None own given = inl (refl, refl, given)
has_reader files None (Some r) own given = absurd given
has_reader files (Some c) None own given = absurd given
has_reader files (Some c) (Some r) own given = inr (record { clone = c; r = r; is_clone = refl; is_reader = refl; at = given.0; own_is = given.1; frozen = given.2 })

module _ (space : Spaces) (cells : Cells) (old : Pages) (files : Files) (together : StandTogether space cells old files) (entry : Entry) (is_entry : IsEntry files entry) (chain : List PlacedCell) (is : files entry.at ≡ Some chain) (is_file : IsFile old entry.at chain)
    (reader : Option Reader) (own : List PlacedCell) (given : IsGiven files entry.clone reader own) where
  pub not_clone : ¬ entry.clone ≡ Some entry.at
  not_clone same = let reads = is_entry.given entry.at same in together.one_deep entry.at entry.at entry.at reads reads

  has : ((entry.clone ≡ None) × (reader ≡ None) × (own ≡ [])) ⊎ Reads files entry.clone reader own
  has = has_reader files entry.clone reader own given

  file : IsStanding cells old entry.at chain
  file = standing space cells old files together entry.at chain is

  chain_place : (p : ℕ) (home : Home) → places_of chain p ≡ At home → place_in files entry.at p ≡ At home
  chain_place p home there = place_by files entry.at chain p is ∙ there

  own_file : (q : Reads files entry.clone reader own) → IsFile old q.clone own
  own_file q = source_file old q.clone own (standing space cells old files together q.clone own q.own_is).stands (some_source (source_of own) q.frozen)
    where
      some_source : (o : Option Source) → IsSomeAnd o (λ source. source.frozen ≡ q.r.frozen) → IsSome o
      some_source None is = absurd is
      some_source (Some s) is = refl

  pub sharing : AreSharing entry.at reader space cells old chain own
  sharing = record {
    file = is_file;
    reads = ⊎_elim
        (λ none. subst (λ o. IsReader old o own) (sym none.1) none.2)
        (λ q. subst (λ o. IsReader old o own) (sym q.is_reader) (subst (λ (a : CellAt). IsFile old a own) (sym q.at) (own_file q)))
        has;
    on_tables = file.on_tables;
    own_on_tables = ⊎_elim
        (λ none. subst (AreOnTables cells) (sym none.2) tt)
        (λ q. (standing space cells old files together q.clone own q.own_is).on_tables)
        has;
    apart = ⊎_elim
        (λ none at in_chain in_own. nothing_inside at own none.2 in_own)
        (λ q. apart_by space cells old files together entry.at q.clone chain own is q.own_is (λ same. not_clone (q.is_clone ∙ ap Some (sym same))))
        has;
    held = λ p home there. together.held entry.at p home (chain_place p home there);
    once = λ p q home x y. (together.once entry.at entry.at p q home (chain_place p home x) (chain_place q home y)).1;
    not_own = λ p q home x y. ⊎_elim
        (λ none. absent_not home (sym (ap (λ (cs : List PlacedCell). places_of cs q) none.2) ∙ y))
        (λ r. not_clone (r.is_clone ∙ ap Some (sym (together.once entry.at r.clone p q home (chain_place p home x) (place_by files r.clone own q r.own_is ∙ y)).0)))
        has;
  }

  module _ (group : ℕ) (version : Version) (space_now : Spaces) (cells_now : Cells) (new : Pages) (what : Released) (r : Releases (stale_from chain) entry.at reader group version chain own space space_now cells cells_now old new what)
      (others : LeavesBoth cells chain own old new) (allocated : AreAllocated space_now cells_now new) where
    abbrev pub now : Files
    now = with_file entry.at (Some r.after) (with_clone entry.clone r.own_now files)

    same_tables : (what : Released) → Progresses what (stale_from chain) chain r.after r.cells_between cells_now → (vol : ℕ) → table_of cells_now vol ≡ table_of r.cells_between vol
    same_tables released.Nothing progress vol = absurd progress
    same_tables released.Pages progress vol = ap (λ (c : Cells). table_of c vol) progress.same_cells
    same_tables released.Cell progress vol = progress.frees.tables vol

    pub tables : (vol p : ℕ) → Contains (table_of cells vol) p → Contains (table_of cells_now vol) p
    tables vol p on = subst (λ (t : List ℕ). Contains t p) (sym (same_tables what r.progress vol)) (⊎_elim
        (λ same. subst (λ (c : Cells). Contains (table_of c vol) p) (sym same.1) on)
        (λ t. tables_grow t.page (At t.home) own t.home.vol space r.space_between cells r.cells_between old t.taken vol p on)
        r.taken)

    -- a page that is held stays so, unless it is gone
    pub held_still : (home : Home) → 1 ≤ home.vol → IsHeldApart space cells home → (IsGone (places_of r.own_now) (places_of chain) (places_of r.after) home → ⊥) → IsHeldApart space_now cells_now home
    held_still home low held stays =
        let between : IsHeldApart r.space_between r.cells_between home = ⊎_elim
        (λ same. subst (λ (s : Spaces). IsHeldApart s r.cells_between home) (sym same.0) (subst (λ (c : Cells). IsHeldApart space c home) (sym same.1) held))
        (λ t. apart_grows t.page (At t.home) own t.home.vol space r.space_between cells r.cells_between old t.taken home held)
        r.taken in
        record {
          held = subst (λ (s : Spaces). IsHeld s home.vol home.page) (sym r.given.is)
              (held_given (use_of chain) group r.given.homes r.space_between home
              (λ x inside. let gone = (r.given.each x).0 inside in (good_page (runs_of (records_of chain)) (file_map old entry.at chain is_file).placed gone.page x gone.was).low)
              low
              (λ inside. stays ((r.given.each home).0 inside))
              between.held);
          off_table = λ on. between.off_table (subst (λ (t : List ℕ). Contains t home.page) (same_tables what r.progress home.vol) on);
        }

    -- ---- what each file is then

    at_source : now entry.at ≡ Some r.after
    at_source = file_there entry.at (Some r.after) (with_clone entry.clone r.own_now files)

    at_clone : (q : Reads files entry.clone reader own) → now q.clone ≡ Some r.own_now
    at_clone q =
        file_other entry.at (Some r.after) (with_clone entry.clone r.own_now files) q.clone (λ same. not_clone (q.is_clone ∙ ap Some same))
        ∙ ap (λ o. with_clone o r.own_now files q.clone) q.is_clone ∙ file_there q.clone (Some r.own_now) files

    at_other : (a : CellAt) → ¬ a ≡ entry.at → ¬ entry.clone ≡ Some a → now a ≡ files a
    at_other a not_at not_it =
        file_other entry.at (Some r.after) (with_clone entry.clone r.own_now files) a not_at
        ∙ ⊎_elim
        (λ none. ap (λ o. with_clone o r.own_now files a) none.0)
        (λ q. ap (λ o. with_clone o r.own_now files a) q.is_clone ∙ file_other q.clone (Some r.own_now) files a (λ same. not_it (q.is_clone ∙ ap Some (sym same))))
        has

    -- the clone's file, by its place
    reads_at : (a : CellAt) → entry.clone ≡ Some a → (q : Reads files entry.clone reader own) × (q.clone ≡ a)
    reads_at a some = ⊎_elim
        (λ none. absurd (none_not a (sym none.0 ∙ some)))
        (λ q. (q, some_same q.clone a (sym q.is_clone ∙ some)))
        has

    clone_now : (a : CellAt) → entry.clone ≡ Some a → now a ≡ Some r.own_now
    clone_now a some = let q = reads_at a some in subst (λ (b : CellAt). now b ≡ Some r.own_now) q.1 (at_clone q.0)

    clone_was : (a : CellAt) → entry.clone ≡ Some a → files a ≡ Some own
    clone_was a some = let q = reads_at a some in subst (λ (b : CellAt). files b ≡ Some own) q.1 q.0.own_is

    -- ---- where it stands

    own_stands : (a : CellAt) → entry.clone ≡ Some a → IsStanding cells_now new a r.own_now
    own_stands a some =
        let q = reads_at a some in
        let reads = subst (λ o. IsReader new o r.own_now) q.0.is_reader r.again.reads in
        record { stands = inl (subst (λ (b : CellAt). IsFile new b r.own_now) (q.0.at ∙ q.1) reads); on_tables = r.again.own_on_tables }

    other_stands : (a : CellAt) (cs : List PlacedCell) → ¬ a ≡ entry.at → ¬ entry.clone ≡ Some a → files a ≡ Some cs → IsStanding cells_now new a cs
    other_stands a cs not_at not_it is_a =
        let s = standing space cells old files together a cs is_a in
        record {
          stands = chain_by old new a cs
              (stay_both cells chain own old new others cs
              (apart_by space cells old files together a entry.at cs chain is_a is not_at)
              (⊎_elim
              (λ none at in_cs in_own. nothing_inside at own none.2 in_own)
              (λ q. apart_by space cells old files together a q.clone cs own is_a q.own_is (λ same. not_it (q.is_clone ∙ ap Some (sym same))))
              has)
              s.on_tables (stand_chain old a cs s.stands))
              s.stands;
          on_tables = on_grown cells cells_now tables cs s.on_tables;
        }

    each_now : (a : CellAt) (cs : List PlacedCell) → now a ≡ Some cs → IsStanding cells_now new a cs
    each_now a cs is_now = by_which (which entry.at entry.clone a)
      where
        by_which : Which entry.at entry.clone a → IsStanding cells_now new a cs
        by_which (source same) =
            subst (IsStanding cells_now new a) (some_same r.after cs (sym at_source ∙ sym (ap now same) ∙ is_now))
            (subst (λ (b : CellAt). IsStanding cells_now new b r.after) (sym same) (record { stands = inl r.again.file; on_tables = r.again.on_tables }))
        by_which (reading some) = subst (IsStanding cells_now new a) (some_same r.own_now cs (sym (clone_now a some) ∙ is_now)) (own_stands a some)
        by_which (other not_at not_it) = other_stands a cs not_at not_it (sym (at_other a not_at not_it) ∙ is_now)

    -- ---- no cell of two files

    -- what joined the clone's chain was in no file
    joined_apart : (b : CellAt) (ys : List PlacedCell) → files b ≡ Some ys → ¬ entry.clone ≡ Some b → AreApart r.own_now ys
    joined_apart b ys is_b not_it q in_own in_ys =
        let c = placed_at r.own_now q in_own in
        let s = standing space cells old files together b ys is_b in
        let joins = r.joined c.0 c.1 (λ was_own. ⊎_elim
        (λ none. nothing_inside c.0.at own none.2 was_own)
        (λ w. apart_by space cells old files together w.clone b own ys w.own_is is_b (λ same. not_it (w.is_clone ∙ ap Some same)) c.0.at was_own (subst (Contains (places ys)) (sym c.2) in_ys))
        has) in
        let cell = stands_in old ys q (stand_chain old b ys s.stands) in_ys in
        joins.was_free cell.0 (subst (λ (a : CellAt). StandsAt old a cell.0) (sym c.2) cell.1) (subst (λ (a : CellAt). Contains (table_of cells a.vol) a.page) (sym c.2) (on_at cells ys q s.on_tables in_ys))

    source_apart : (b : CellAt) (ys : List PlacedCell) → files b ≡ Some ys → ¬ b ≡ entry.at → AreApart r.after ys
    source_apart b ys is_b not_at q in_after in_ys = apart_by space cells old files together entry.at b chain ys is is_b (λ same. not_at (sym same)) q (r.within q in_after) in_ys

    flip : (xs ys : List PlacedCell) → AreApart xs ys → AreApart ys xs
    flip xs ys apart q in_ys in_xs = apart q in_xs in_ys

    apart_now : (a b : CellAt) (xs ys : List PlacedCell) → now a ≡ Some xs → now b ≡ Some ys → ¬ a ≡ b → AreApart xs ys
    apart_now a b xs ys is_a is_b differs = by_which (which entry.at entry.clone a) (which entry.at entry.clone b)
      where
        after_is : (a : CellAt) (xs : List PlacedCell) → now a ≡ Some xs → a ≡ entry.at → r.after ≡ xs
        after_is a xs is_a same = some_same r.after xs (sym at_source ∙ sym (ap now same) ∙ is_a)

        own_now_is : (a : CellAt) (xs : List PlacedCell) → now a ≡ Some xs → entry.clone ≡ Some a → r.own_now ≡ xs
        own_now_is a xs is_a some = some_same r.own_now xs (sym (clone_now a some) ∙ is_a)

        by_which : Which entry.at entry.clone a → Which entry.at entry.clone b → AreApart xs ys
        by_which (source x) (source y) = absurd (differs (x ∙ sym y))
        by_which (source x) (reading y) = subst (λ zs. AreApart zs ys) (after_is a xs is_a x) (subst (AreApart r.after) (own_now_is b ys is_b y) r.again.apart)
        by_which (source x) (other not_at not_it) = subst (λ zs. AreApart zs ys) (after_is a xs is_a x) (source_apart b ys (sym (at_other b not_at not_it) ∙ is_b) not_at)
        by_which (reading x) (source y) = subst (λ zs. AreApart zs ys) (own_now_is a xs is_a x) (subst (AreApart r.own_now) (after_is b ys is_b y) (flip r.after r.own_now r.again.apart))
        by_which (reading x) (reading y) = absurd (differs (some_same a b (sym x ∙ y)))
        by_which (reading x) (other not_at not_it) = subst (λ zs. AreApart zs ys) (own_now_is a xs is_a x) (joined_apart b ys (sym (at_other b not_at not_it) ∙ is_b) not_it)
        by_which (other not_at not_it) (source y) = subst (AreApart xs) (after_is b ys is_b y) (flip r.after xs (source_apart a xs (sym (at_other a not_at not_it) ∙ is_a) not_at))
        by_which (other not_at not_it) (reading y) = subst (AreApart xs) (own_now_is b ys is_b y) (flip r.own_now xs (joined_apart a xs (sym (at_other a not_at not_it) ∙ is_a) not_it))
        by_which (other not_at not_it) (other no_b not_it_b) = apart_by space cells old files together a b xs ys (sym (at_other a not_at not_it) ∙ is_a) (sym (at_other b no_b not_it_b) ∙ is_b) differs

    -- ---- pages

    source_place : (a : CellAt) (p : ℕ) → a ≡ entry.at → place_in now a p ≡ places_of r.after p
    source_place a p same = place_by now a r.after p (ap now same ∙ at_source)

    clone_place : (a : CellAt) (p : ℕ) → entry.clone ≡ Some a → place_in now a p ≡ places_of r.own_now p
    clone_place a p some = place_by now a r.own_now p (clone_now a some)

    -- a page of the source that its clone has now
    pub record IsHanded (a : CellAt) (p : ℕ) (home : Home) : Type 0 where
      pub reads : entry.clone ≡ Some a
      pub was : place_in files entry.at p ≡ At home
      pub gone : places_of r.after p ≡ Absent
      pub has_it : places_of r.own_now p ≡ At home

    pub was_there : (a : CellAt) (p : ℕ) (home : Home) → place_in now a p ≡ At home → (place_in files a p ≡ At home) ⊎ IsHanded a p home
    was_there a p home there = by_which (which entry.at entry.clone a)
      where
        by_which : Which entry.at entry.clone a → (place_in files a p ≡ At home) ⊎ IsHanded a p home
        by_which (source same) =
            let after = sym (source_place a p same) ∙ there in
            inl (ap (λ (b : CellAt). place_in files b p) same ∙ ⊎_elim
            (λ kept. chain_place p home (sym kept ∙ after))
            (λ gone. absurd (absent_home home gone after))
            (r.pages.left p))
        by_which (reading some) =
            let has_it = sym (clone_place a p some) ∙ there in
            ⊎_elim
            (λ kept. inl (place_by files a own p (clone_was a some) ∙ sym kept ∙ has_it))
            (λ h. inr (record { reads = some; was = chain_place p home (h.was ∙ ap At (one_home h.home home (sym h.is ∙ has_it))); gone = h.gone; has_it = has_it }))
            (r.pages.handed p)
        by_which (other not_at not_it) = inl (sym (ap (λ o. option_map_or (λ cs. places_of cs p) o Absent) (at_other a not_at not_it)) ∙ there)

    held_now : (a : CellAt) (p : ℕ) (home : Home) → place_in now a p ≡ At home → IsHeldApart space_now cells_now home
    held_now a p home there = ⊎_elim
        (λ was. held_still home (low_home space cells old files together a p home was) (together.held a p home was) (λ g.
        let both = together.once a entry.at p g.page home was (chain_place g.page home g.was) in
        absent_home home (source_place a p both.0 ∙ ap (places_of r.after) both.1 ∙ g.gone) there))
        (λ h. held_still home (low_home space cells old files together entry.at p home h.was) (together.held entry.at p home h.was) (λ g. g.nowhere p h.has_it))
        (was_there a p home there)

    once_now : (a b : CellAt) (p q : ℕ) (home : Home) → place_in now a p ≡ At home → place_in now b q ≡ At home → (a ≡ b) × (p ≡ q)
    once_now a b p q home x y = ⊎_elim
        (λ was_x. ⊎_elim (λ was_y. together.once a b p q home was_x was_y) (λ h. absurd (not_both a b p q x was_x h)) (was_there b q home y))
        (λ g. ⊎_elim
        (λ was_y. absurd (not_both b a q p y was_y g))
        (λ h. (some_same a b (sym g.reads ∙ h.reads), (together.once entry.at entry.at p q home g.was h.was).1))
        (was_there b q home y))
        (was_there a p home x)
      where
        not_both : (a b : CellAt) (p q : ℕ) → place_in now a p ≡ At home → place_in files a p ≡ At home → IsHanded b q home → ⊥
        not_both a b p q x was h =
            let both = together.once a entry.at p q home was h.was in
            absent_home home (source_place a p both.0 ∙ ap (places_of r.after) both.1 ∙ h.gone) x

    -- ---- first cells

    firsts : (k : ℕ) → nat_le 1 (most_rows k) ≡ false → (a : CellAt) → option_and_then (first_record k) (now a) ≡ option_and_then (first_record k) (files a)
    firsts k none a = by_which (which entry.at entry.clone a)
      where
        by_which : Which entry.at entry.clone a → option_and_then (first_record k) (now a) ≡ option_and_then (first_record k) (files a)
        by_which (source same) =
            ap (option_and_then (first_record k)) (ap now same ∙ at_source) ∙ first_same k none chain r.after r.first
            ∙ sym (ap (option_and_then (first_record k)) (ap files same ∙ is))
        by_which (reading some) =
            ap (option_and_then (first_record k)) (clone_now a some)
            ∙ ⊎_elim (λ same. ap (first_record k) same) (λ first. first_same k none own r.own_now first) r.own_first
            ∙ sym (ap (option_and_then (first_record k)) (clone_was a some))
        by_which (other not_at not_it) = ap (option_and_then (first_record k)) (at_other a not_at not_it)

    pub sources_now : (a : CellAt) → source_at now a ≡ source_at files a
    sources_now a = then_then source_in (first_record 2) (now a) ∙ ap (option_and_then source_in) (firsts 2 refl a) ∙ sym (then_then source_in (first_record 2) (files a))

    there_now : (a : CellAt) → IsSome (files a) → IsSome (now a)
    there_now a some = by_which (which entry.at entry.clone a)
      where
        by_which : Which entry.at entry.clone a → IsSome (now a)
        by_which (source same) = ap is_some (ap now same ∙ at_source)
        by_which (reading it) = ap is_some (clone_now a it)
        by_which (other not_at not_it) = ap is_some (at_other a not_at not_it) ∙ some

    -- ---- all of it

    pub spread_together : StandTogether space_now cells_now new now
    spread_together = record {
      allocated = allocated;
      each = each_from cells_now new now each_now;
      apart = apart_from now apart_now;
      held = held_now;
      once = once_now;
      one_deep = λ a b c x y. together.one_deep a b c (reads_by files now a b (sources_now a) x) (reads_by files now b c (sources_now b) y);
    }

    pub spread_listed : (list : Listing) → IsListed space cells files list → IsListed space_now cells_now now list
    spread_listed list listed = record {
      each = λ e inside. let was = listed.each e inside in record {
        there = there_now e.at was.there;
        says = says_by files now e.at (firsts 6 refl e.at) (firsts 1 refl e.at) was.says;
        given = λ c some. reads_by now files c e.at (sym (sources_now c)) (was.given c some);
        all = λ c reads. was.all c (reads_by files now c e.at (sources_now c) reads);
      };
      once = listed.once;
      order = listed.order;
      pages_once = listed.pages_once;
      pages_low = listed.pages_low;
      pages_held = λ home inside. held_still home (listed.pages_low home inside) (listed.pages_held home inside) (λ g. listed.pages_apart home inside entry.at g.page (chain_place g.page home g.was));
      pages_apart = λ home inside a p there. ⊎_elim
          (λ was. listed.pages_apart home inside a p was)
          (λ h. listed.pages_apart home inside entry.at p h.was)
          (was_there a p home there);
    }
