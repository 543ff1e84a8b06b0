-- A step as a whole: a tail handed over or given back, and the chain written again.
use Rattle.std.proofs.Common.{◌≡◌, ◌∙◌, ℕ, zero, suc, ◌≤◌, Bool, true, false, cond, nat_eq, nat_lt, List, [], ◌∷◌, Option, Some, None, IfNone, IfSome, Contains, refl, sym, ap, subst, arith, ⊎_elim, ◌⊎◌, inl, inr}
use Rattle.std.proofs.lemmas.Bool.{both_ways, cases_Bool, cases_lt, eq-eqb, eqb-true, lt-ltb, ltb-true}
use Rattle.fileset_files.specs.domain_base.declared.place.CellAt.{CellAt}
use Rattle.fileset_files.specs.domain_base.declared.place.Home.{Home}
use Rattle.fileset_files.specs.domain_base.declared.version.Version.{Version}
use Rattle.fileset_files.specs.page_store.Pages.{Pages}
use Rattle.fileset_files.specs.cell_records.declared.record.Record.{Record}
use Rattle.fileset_files.specs.metadata_cells.Cell.{Cell}
use Rattle.fileset_files.specs.metadata_cells.Chain.{PlacedCell, StandsAt, places, records_of}
use Rattle.fileset_files.specs.extent_maps.declared.run.PagePlace.{PagePlace}
use Rattle.fileset_files.specs.extent_maps.declared.run.PagePlace.TheVariants.{Absent, At, Hole}
use Rattle.fileset_files.specs.extent_maps.Runs.{home_at, place_of}
use Rattle.fileset_files.specs.extent_records.Rows.{runs_in, runs_of}
use Rattle.fileset_files.specs.extent_records.Writing.{places_in}
use Rattle.fileset_files.specs.free_cells.Cells.{Cells, table_of}
use Rattle.fileset_files.specs.free_space.declared.waiting.PageUse.{PageUse}
use Rattle.fileset_files.specs.free_space.Spaces.{IsHeld, Spaces}
use Rattle.fileset_files.specs.file_chains.FileChanges.{AreOnTables, LeavesOtherCells, SameFirst}
use Rattle.fileset_files.specs.file_chains.Files.{places_of}
use Rattle.fileset_files.specs.file_chains.MapChanges.{ChangesAtMost, IsHandedOut, Joins, LeavesOffTables}
use Rattle.fileset_files.proofs.OfFileChains.ChainChanges.{inside_places, stand_file}
use Rattle.fileset_files.proofs.OfFileChains.Chosen.{all_at}
use Rattle.file_release.specs.declared.reader.Reader.{Reader}
use Rattle.file_release.specs.declared.releasing.Plan.{Plan}
use Rattle.file_release.specs.Reading.{IsGone, IsHandedOver, LetsGo, own_or, read_home}
use Rattle.file_release.specs.Releases.{GivesBack, HandsPage, TakesForReader}
use Rattle.fileset_files.specs.Files.{AreApart}
use Rattle.fileset_files.specs.Together.{IsHeldApart}
use Rattle.file_release.specs.Sharing.{IsReader, frozen_of}
use Rattle.file_release.specs.Steps.{AllStand, AreUnread, GivesTail, HandsOver, IsHomeFrom, IsPlanned, IsReadLast, PassesOn, through}
use Rattle.file_release.proofs.Cuts.{Cuts, there_or_not}
use Rattle.fileset_files.proofs.Again.{one_home}
use Rattle.fileset_files.proofs.OneChain.{file_by, placed_at}
use Rattle.file_release.proofs.Given.{absent_home, gives_by, held_given}
use Rattle.fileset_files.proofs.Grown.{apart_grows}
use Rattle.file_release.proofs.Once.{file_map, good_page}

-- ---- files all of whose cells stand

pub reader_stands : (pages : Pages) (reader : Option Reader) (own : List PlacedCell) → IsReader pages reader own → AllStand pages own
reader_stands pages None own is = subst (AllStand pages) (sym is) tt
reader_stands pages (Some r) own is = stand_file pages r.at own is

pub reader_by : (old new : Pages) (reader : Option Reader) (own : List PlacedCell) → AllStand new own → IsReader old reader own → IsReader new reader own
reader_by old new None own stand is = is
reader_by old new (Some r) own stand is = file_by old new r.at own stand is

pub on_all : (cells : Cells) (cs : List PlacedCell) → ((at : CellAt) → Contains (places cs) at → Contains (table_of cells at.vol) at.page) → AreOnTables cells cs
on_all cells [] all = tt
on_all cells (c ∷ cs) all = (all c.at (0, omega arith, refl), on_all cells cs (λ at inside. all at (suc inside.0, omega (arith, inside.1), inside.2)))

pub on_at : (cells : Cells) (cs : List PlacedCell) (at : CellAt) → AreOnTables cells cs → Contains (places cs) at → Contains (table_of cells at.vol) at.page
on_at cells cs at on inside = all_at (λ (at : CellAt). Contains (table_of cells at.vol) at.page) cs at on inside

stands_in : (pages : Pages) (cs : List PlacedCell) (at : CellAt) → AllStand pages cs → Contains (places cs) at → (cell : Cell) × StandsAt pages at cell
stands_in pages [] at stand inside = absurd (omega (arith, inside.1))
stands_in pages (c ∷ cs) at stand (zero, within, is) = (c.cell, subst (λ (a : CellAt). StandsAt pages a c.cell) is stand.0)
stands_in pages (c ∷ cs) at stand (suc k, within, is) = stands_in pages cs at stand.1 (k, omega (arith, within), is)

-- ---- places

read_same : (o : PagePlace) (b : Bool) (x y : PagePlace) → (b ≡ true → o ≡ Absent → home_at x ≡ home_at y) → own_or o (cond b (home_at x) None) ≡ own_or o (cond b (home_at y) None)
read_same (At home) b x y same = refl
read_same Hole b x y same = refl
read_same Absent true x y same = same refl refl
read_same Absent false x y same = refl

-- what is handed over or given back of a tail, over a chain whose record is cut there
module _ (from : ℕ) (start : CellAt) (reader : Option Reader) (plan : Plan) (space : Spaces) (cells : Cells) (old : Pages) (chain own : List PlacedCell) (is : IsPlanned from start reader plan space cells old chain own)
    (kind : PageUse) (group : ℕ) (version : Version) (space_now : Spaces) (cells_now : Cells) (mid : Pages) (passes : PassesOn plan.tail (place_of plan.map) reader own kind group version space space_now cells cells_now old mid) where
  -- what the reader's chain and the space are then
  pub record Passed (after : List PlacedCell) : Type 0 where
    pub own_now : List PlacedCell
    pub reads : IsReader mid reader own_now
    pub on : AreOnTables cells_now own_now
    pub apart : AreApart chain own_now
    pub first : (own_now ≡ own) ⊎ SameFirst own own_now
    pub joined : (c : PlacedCell) → Contains own_now c → ¬ Contains (places own) c.at → Joins cells old version c
    pub kept : (q : CellAt) → Contains (places own) q → Contains (places own_now) q
    pub handed : (q : CellAt) → IsHandedOut cells_now q → IsHandedOut cells q ⊎ Contains (places own_now) q
    pub lets : LetsGo from (frozen_of reader) (places_of own) (places_of own_now) (places_of chain) (places_of after)
    pub between : Spaces
    pub taken : TakesForReader own (places_of own_now) (places_of chain) space between cells cells_now old
    pub given : GivesBack (IsGone (places_of own_now) (places_of chain) (places_of after)) kind group between space_now
    pub held : (p : ℕ) (home : Home) → places_of after p ≡ At home → IsHeldApart space_now cells_now home
    pub not_own : (p q : ℕ) (home : Home) → places_of after p ≡ At home → ¬ places_of own_now q ≡ At home
    pub few : (mid ≡ old) ⊎ (HandsPage (frozen_of reader) (places_of own) (places_of own_now) (places_of chain) (places_of after) × ChangesAtMost 3 old mid)

  -- what is so of the chain in between
  pub record Between : Type 0 where
    pub tables : (vol p : ℕ) → Contains (table_of cells vol) p → Contains (table_of cells_now vol) p
    pub others : LeavesOtherCells cells own old mid
    pub elsewhere : LeavesOffTables cells_now old mid

  abbrev value : Record
  value = is.planned.spot.value

  module _ (after : List PlacedCell) (cuts : Cuts plan.tail.from value chain after) where
    source_left : (p : ℕ) → (places_of after p ≡ places_of chain p) ⊎ ((plan.tail.from ≤ p) × (places_in value p ≡ Absent → ⊥) × (places_of after p ≡ Absent))
    source_left p = ⊎_elim
        (λ none. inl (cuts.same p (inr none)))
        (λ some. ⊎_elim (λ less. inl (cuts.same p (inl less))) (λ behind. inr (behind, some, cuts.gone p behind some)) (cases_lt p plan.tail.from))
        (there_or_not (places_in value p))

    still : (p : ℕ) (home : Home) → places_of after p ≡ At home → places_of chain p ≡ At home
    still p home there = ⊎_elim (λ same. sym same ∙ there) (λ gone. absurd (absent_home home gone.2 there)) (source_left p)

    was_value : (p : ℕ) (home : Home) → places_of chain p ≡ At home → places_of after p ≡ Absent → (plan.tail.from ≤ p) × (places_in value p ≡ At home)
    was_value p home was gone = ⊎_elim
        (λ same. absurd (absent_home home gone (same ∙ was)))
        (λ left. (left.0, sym (cuts.shown p left.1) ∙ was))
        (source_left p)

    -- nothing is handed over
    module _ (none : plan.tail.home ≡ None) where
      gives : GivesTail plan.tail.from (place_of plan.map) kind group space space_now cells cells_now old mid
      gives = subst (λ o. IfNone o (GivesTail plan.tail.from (place_of plan.map) kind group space space_now cells cells_now old mid)) none passes.1

      unread : AreUnread plan.tail.from (frozen_of reader) (places_of own) (places_in value)
      unread = subst (λ o. IfNone o (AreUnread plan.tail.from (frozen_of reader) (places_of own) (places_in value))) none is.planned.tail.unread

      lets_none : LetsGo from (frozen_of reader) (places_of own) (places_of own) (places_of chain) (places_of after)
      lets_none = record {
        kept = λ p less. cuts.same p (inl (omega (arith, less, is.planned.tail.begins)));
        left = λ p. ⊎_elim (λ same. inl same) (λ gone. inr gone.2) (source_left p);
        handed = λ p. inl refl;
        reads = λ p. ⊎_elim
            (λ same. ap (λ x. own_or (places_of own p) (cond (nat_lt p (frozen_of reader)) (home_at x) None)) same)
            (λ gone. read_same (places_of own p) (nat_lt p (frozen_of reader)) (places_of after p) (places_of chain p) (λ below absent.
            ap home_at gone.2 ∙ sym (sym (ap (λ x. through x (places_in value p)) absent) ∙ unread p gone.0 (ltb-true p (frozen_of reader) below)) ∙ sym (ap home_at (cuts.shown p gone.1))))
            (source_left p);
      }

      gone_by : (home : Home) → IsHomeFrom plan.tail.from (place_of plan.map) home → IsGone (places_of own) (places_of chain) (places_of after) home
      gone_by home w =
          let at = sym (is.planned.map w.page) ∙ w.there in
          let some = (λ (e : places_in value w.page ≡ Absent). absent_home home e at) in
          record {
            page = w.page;
            was = cuts.shown w.page some ∙ at;
            gone = cuts.gone w.page w.begins some;
            nowhere = λ other. is.sharing.not_own w.page other home (cuts.shown w.page some ∙ at);
          }

      gone_back : (home : Home) → IsGone (places_of own) (places_of chain) (places_of after) home → IsHomeFrom plan.tail.from (place_of plan.map) home
      gone_back home g = let v = was_value g.page home g.was g.gone in record { page = g.page; begins = v.0; there = is.planned.map g.page ∙ v.1 }

      held_none : (p : ℕ) (home : Home) → places_of after p ≡ At home → IsHeldApart space_now cells_now home
      held_none p home there =
          let was = still p home there in
          let h = is.sharing.held p home was in
          let low = (λ (x : Home) (inside : Contains gives.gives.homes x). let w = (gives.gives.each x).0 inside in
          (good_page (runs_in value) is.planned.spot.map.is_map.placed w.page x (sym (is.planned.map w.page) ∙ w.there)).low) in
          record {
            held = subst (λ (s : Spaces). IsHeld s home.vol home.page) (sym gives.gives.is)
                (held_given kind group gives.gives.homes space home low (good_page (runs_of (records_of chain)) (file_map old start chain is.sharing.file).placed p home was).low
                (λ inside. let g = gone_by home ((gives.gives.each home).0 inside) in
                absent_home home (ap (places_of after) (is.sharing.once p g.page home was g.was) ∙ g.gone) there)
                h.held);
            off_table = λ on. h.off_table (subst (λ (c : Cells). Contains (table_of c home.vol) home.page) gives.same_cells on);
          }

      pub passed_none : Passed after
      passed_none = record {
        own_now = own;
        reads = subst (λ (p : Pages). IsReader p reader own) (sym gives.same_pages) is.sharing.reads;
        on = subst (λ (c : Cells). AreOnTables c own) (sym gives.same_cells) is.sharing.own_on_tables;
        apart = is.sharing.apart;
        first = inl refl;
        joined = λ c inside apart. absurd (apart (inside_places own c inside));
        kept = λ q inside. inside;
        handed = λ q now. inl (subst (λ (c : Cells). IsHandedOut c q) gives.same_cells now);
        lets = lets_none;
        between = space;
        taken = inl (refl, gives.same_cells);
        given = gives_by (IsHomeFrom plan.tail.from (place_of plan.map)) (IsGone (places_of own) (places_of chain) (places_of after)) kind group space space_now gone_by gone_back gives.gives;
        held = held_none;
        not_own = λ p q home there. is.sharing.not_own p q home (still p home there);
        few = inl gives.same_pages;
      }

    -- the last page is handed over
    module _ (home : Home) (some : plan.tail.home ≡ Some home) (r : Reader) (reader_is : reader ≡ Some r) where
      hands : HandsOver plan.tail.from home r.at own version space space_now cells cells_now old mid
      hands =
          subst (λ o. IfSome o (λ r. HandsOver plan.tail.from home r.at own version space space_now cells cells_now old mid)) reader_is
          (subst (λ o. IfSome o (λ home. IfSome reader (λ r. HandsOver plan.tail.from home r.at own version space space_now cells cells_now old mid))) some passes.0)

      last : IsReadLast plan.tail.from (frozen_of reader) (places_of own) (places_in value) home
      last = subst (λ o. IfSome o (IsReadLast plan.tail.from (frozen_of reader) (places_of own) (places_in value))) some is.planned.tail.read

      own_after : List PlacedCell
      own_after = hands.changes.changes.after

      page_some : places_in value plan.tail.from ≡ Absent → ⊥
      page_some none = absent_home home none last.there

      was_there : places_of chain plan.tail.from ≡ At home
      was_there = cuts.shown plan.tail.from page_some ∙ last.there

      is_there : places_of own_after plan.tail.from ≡ At home
      unfolding own_after
      is_there = hands.changes.changes.at plan.tail.from ∙ ap (λ (b : Bool). cond b (At home) (places_of own plan.tail.from)) (eq-eqb plan.tail.from plan.tail.from refl)

      now_gone : places_of after plan.tail.from ≡ Absent
      now_gone = cuts.gone plan.tail.from (omega arith) page_some

      other_own : (p : ℕ) → nat_eq p plan.tail.from ≡ false → places_of own_after p ≡ places_of own p
      unfolding own_after
      other_own p other = hands.changes.changes.at p ∙ ap (λ (b : Bool). cond b (At home) (places_of own p)) other

      -- no other page goes
      other_left : (p : ℕ) → (p ≡ plan.tail.from → ⊥) → places_of after p ≡ places_of chain p
      other_left p other = ⊎_elim (λ same. same)
          (λ gone. absurd (gone.1 (last.last p (omega (arith, gone.0, other)))))
          (source_left p)

      handed_at : (p : ℕ) → (places_of own_after p ≡ places_of own p) ⊎ IsHandedOver (frozen_of reader) (places_of own) (places_of own_after) (places_of chain) (places_of after) p
      handed_at p = ⊎_elim
          (λ same. let e = sym (eqb-true p plan.tail.from same) in
          inr (subst (IsHandedOver (frozen_of reader) (places_of own) (places_of own_after) (places_of chain) (places_of after)) e
          (record { home = home; absent = last.absent; is_frozen = last.is_frozen; was = was_there; is = is_there; gone = now_gone })))
          (λ other. inl (other_own p other))
          (cases_Bool (nat_eq p plan.tail.from))

      reads_at : (p : ℕ) → read_home (frozen_of reader) (places_of own_after) (places_of after) p ≡ read_home (frozen_of reader) (places_of own) (places_of chain) p
      reads_at p = ⊎_elim
          (λ same. let e = sym (eqb-true p plan.tail.from same) in
          subst (λ (q : ℕ). read_home (frozen_of reader) (places_of own_after) (places_of after) q ≡ read_home (frozen_of reader) (places_of own) (places_of chain) q) e
          (ap (λ x. own_or x (cond (nat_lt plan.tail.from (frozen_of reader)) (home_at (places_of after plan.tail.from)) None)) is_there
          ∙ sym (ap (λ x. own_or x (cond (nat_lt plan.tail.from (frozen_of reader)) (home_at (places_of chain plan.tail.from)) None)) last.absent
          ∙ ap (λ (b : Bool). cond b (home_at (places_of chain plan.tail.from)) None) (lt-ltb plan.tail.from (frozen_of reader) last.is_frozen) ∙ ap home_at was_there)))
          (λ other.
          ap (λ x. own_or x (cond (nat_lt p (frozen_of reader)) (home_at (places_of after p)) None)) (other_own p other)
          ∙ ap (λ x. own_or (places_of own p) (cond (nat_lt p (frozen_of reader)) (home_at x) None)) (other_left p (λ e. absurd (both_eq p e other))))
          (cases_Bool (nat_eq p plan.tail.from))
        where
          both_eq : (p : ℕ) → p ≡ plan.tail.from → nat_eq p plan.tail.from ≡ false → ⊥
          both_eq p e other = both_ways (nat_eq p plan.tail.from) other (eq-eqb p plan.tail.from e)

      lets_some : LetsGo from (frozen_of reader) (places_of own) (places_of own_after) (places_of chain) (places_of after)
      lets_some = record {
        kept = λ p less. cuts.same p (inl (omega (arith, less, is.planned.tail.begins)));
        left = λ p. ⊎_elim (λ same. inl same) (λ gone. inr gone.2) (source_left p);
        handed = handed_at;
        reads = reads_at;
      }

      none_gone : (h : Home) → IsGone (places_of own_after) (places_of chain) (places_of after) h → ⊥
      none_gone h g =
          let v = was_value g.page h g.was g.gone in
          ⊎_elim
          (λ same. let e = eqb-true g.page plan.tail.from same in
          g.nowhere plan.tail.from (is_there ∙ sym was_there ∙ ap (places_of chain) (sym e) ∙ g.was))
          (λ other. absent_home h (g.gone) (other_left g.page (λ e. absurd (both_ways (nat_eq g.page plan.tail.from) other (eq-eqb g.page plan.tail.from e))) ∙ g.was))
          (cases_Bool (nat_eq g.page plan.tail.from))

      share_none : AreApart chain own_after
      unfolding own_after
      share_none at in_chain in_own =
          let c = placed_at hands.changes.changes.after at in_own in
          let there = stands_in old chain at (stand_file old start chain is.sharing.file) in_chain in
          let joins = hands.changes.joined c.0 c.1 (λ was_own. is.sharing.apart at in_chain (subst (Contains (places own)) c.2 was_own)) in
          joins.was_free there.0 (subst (λ (a : CellAt). StandsAt old a there.0) (sym c.2) there.1) (subst (λ (a : CellAt). Contains (table_of cells a.vol) a.page) (sym c.2) (on_at cells chain at is.sharing.on_tables in_chain))

      not_own_some : (p q : ℕ) (h : Home) → places_of after p ≡ At h → ¬ places_of own_after q ≡ At h
      not_own_some p q h there got = ⊎_elim
          (λ same.
          let e = eqb-true q plan.tail.from same in
          let home_is = one_home home h (sym is_there ∙ ap (places_of own_after) (sym e) ∙ got) in
          let page_is = is.sharing.once p plan.tail.from h (still p h there) (was_there ∙ ap At home_is) in
          absent_home h (ap (places_of after) page_is ∙ now_gone) there)
          (λ other. is.sharing.not_own p q h (still p h there) (sym (other_own q other) ∙ got))
          (cases_Bool (nat_eq q plan.tail.from))

      pub passed_some : Passed after
      unfolding own_after
      passed_some = record {
        own_now = hands.changes.changes.after;
        reads = subst (λ o. IsReader mid o hands.changes.changes.after) (sym reader_is) hands.changes.changes.is_file;
        on = hands.changes.on_tables;
        apart = share_none;
        first = inr hands.changes.changes.first;
        joined = hands.changes.joined;
        kept = hands.changes.kept;
        handed = hands.changes.handed;
        lets = lets_some;
        between = space_now;
        taken = inr (record { page = plan.tail.from; home = home; was = was_there; is = is_there; taken = hands.taken });
        given = record { homes = []; each = λ h. ((λ inside. absurd (omega (arith, inside.1))), (λ g. absurd (none_gone h g))); once = tt; is = refl };
        held = λ p h there. apart_grows plan.tail.from (At home) own home.vol space space_now cells cells_now old hands.taken h (is.sharing.held p h (still p h there));
        not_own = not_own_some;
        few = inr (record { page = plan.tail.from; is = record { home = home; absent = last.absent; is_frozen = last.is_frozen; was = was_there; is = is_there; gone = now_gone } }, hands.few);
      }
