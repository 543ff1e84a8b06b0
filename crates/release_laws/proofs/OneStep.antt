-- What a step changes where no file is read through another one: one file of an entry, which keeps
-- some of its cells, and pages that wait then.
use Rattle.std.proofs.Common.{◌≡◌, ◌∙◌, ◌⊎◌, ◌||◌, inl, inr, ℕ, zero, suc, Bool, false, List, [], ◌∷◌, ◌++◌, length, Option, Some, None, IsSomeAnd, Contains, refl, sym, ap, subst, arith, ⊎_elim}
use Rattle.std.proofs.lemmas.Bool.{or_parts, true≢false}
use Rattle.standing_laws.specs.domain_base.declared.place.CellAt.{CellAt}
use Rattle.standing_laws.specs.domain_base.declared.place.Home.{Home}
use Rattle.standing_laws.specs.domain_base.declared.version.Version.{Version}
use Rattle.standing_laws.specs.page_store.Pages.{Pages}
use Rattle.standing_laws.specs.metadata_cells.Cell.{Cell}
use Rattle.standing_laws.specs.metadata_cells.Chain.{AreDistinct, LeavesOthers, PlacedCell, StandsAt, is_at, places}
use Rattle.standing_laws.specs.extent_maps.declared.run.PagePlace.{PagePlace}
use Rattle.standing_laws.specs.extent_maps.declared.run.PagePlace.TheVariants.{Absent, At, Hole}
use Rattle.standing_laws.proofs.OfExtentMaps.EditLemmas.{over}
use Rattle.standing_laws.specs.free_cells.Cells.{Cells, FreesCell, is_closed, is_free, table_of}
use Rattle.standing_laws.specs.free_space.Spaces.{Spaces}
use Rattle.standing_laws.specs.file_chains.Files.{places_of}
use Rattle.standing_laws.specs.file_chains.MapChanges.{IsHandedOut, LeavesOffTables}
use Rattle.standing_laws.proofs.OfFileChains.ChainChanges.{at_apart}
use Rattle.standing_laws.specs.fileset_files.Changes.{with_first}
use Rattle.standing_laws.specs.file_release.declared.released.Released.{Released}
use Rattle.standing_laws.specs.file_release.declared.released.Released.TheVariants as released
use Rattle.standing_laws.specs.file_release.Releases.{Progresses, use_of}
use Rattle.standing_laws.specs.file_release.Sharing.{HasPages, IsReader, IsReleased}
use Rattle.standing_laws.proofs.OfFileRelease.Found.{places_append}
use Rattle.standing_laws.proofs.OfFileRelease.Once.{absent_not}
use Rattle.standing_laws.specs.release_list.declared.list.Entry.{Entry}
use Rattle.standing_laws.specs.release_list.Listing.{Listing}
use Rattle.standing_laws.specs.release_list.Standing.{Files, IsFileOrQuotas, source_at}
use Rattle.standing_laws.specs.release_list.Steps.{EndsFile, EndsTrim, GivesTagPage, IsWell, LetsPages, LosesQuotaCell, Now, Step, file_ends, leads_to, pages_go, quota_goes, reading_ends, says_trimmed, tag_page_goes, trim_ends}
use Rattle.standing_laws.proofs.OfReleaseList.Lists.{longer}
use Rattle.standing_laws.proofs.OfReleaseList.Spread.{has_reader, none_not}
use Rattle.standing_laws.proofs.OfReleaseList.Standings.{at_itself, chain_inside, linked_at, quota_place, standing}
use Rattle.standing_laws.proofs.OfReleaseSteps.Ended.{ended_other, file_gone, trim_other, trim_there}
use Rattle.standing_laws.proofs.OfReleaseSteps.FirstCells.{first_places, trimmed_keeps}
use Rattle.standing_laws.proofs.OfReleaseSteps.Fits.{Fits, trim_maps, well_fits}
use Rattle.standing_laws.proofs.OfReleaseSteps.Narrower.{in_last}
use Rattle.standing_laws.proofs.OfReleaseSteps.PagesGo.{at_other, at_source}
use Rattle.standing_laws.proofs.OfReleaseSteps.QuotaStep.{quota_beside, quota_is, quota_says}
use Rattle.standing_laws.proofs.OfReleaseSteps.Said.{SaysSame, says_first, says_trim}
use Rattle.release_laws.proofs.CellFates.{CellsGo, lets_cells, no_cells, quota_cells, trim_cells}
use Rattle.release_laws.proofs.CellsLeft.{all_left}
use Rattle.release_laws.proofs.SpaceWaits.{SpacesKeep, spaces_given, spaces_itself}

-- no file is read through another one
abbrev pub AreAlone : Files → Type 0
AreAlone files = (at : CellAt) → source_at files at ≡ None

-- a step on the file of an entry: of its cells some are left, and what is handed out of them is its
-- still; each other cell in use stays, and each page that the file has it had
pub record OneGoes (old new : Now) : Type 0 where
  pub entry : Entry
  pub inside : Contains old.list.entries entry
  pub chain : List PlacedCell
  pub was : old.files entry.at ≡ Some chain
  pub after : List PlacedCell
  pub is : (new.files entry.at ≡ Some after) ⊎ ((new.files entry.at ≡ None) × (after ≡ []))
  pub says : SaysSame chain after ⊎ (after ≡ [])
  pub beside : (a : CellAt) → ¬ a ≡ entry.at → new.files a ≡ old.files a
  pub within : (q : CellAt) → Contains (places after) q → Contains (places chain) q
  pub cells : CellsGo chain after
  pub handed : (q : CellAt) → IsHandedOut new.cells q → IsHandedOut old.cells q
  pub left : (q : CellAt) → IsHandedOut new.cells q → Contains (places chain) q → ¬ Contains (places after) q → ⊥
  pub others : (q : CellAt) (cell : Cell) → StandsAt old.pages q cell → Contains (table_of old.cells q.vol) q.page → ¬ Contains (places chain) q → StandsAt new.pages q cell
  pub tables : (vol : ℕ) → table_of new.cells vol ≡ table_of old.cells vol
  pub marks : (vol : ℕ) → is_closed new.cells vol ≡ is_closed old.cells vol
  pub pages : (p : ℕ) (home : Home) → places_of after p ≡ At home → places_of chain p ≡ At home
  pub space : SpacesKeep old.space new.space
  pub elsewhere : LeavesOffTables new.cells old.pages new.pages

-- ---- a cell that is freed

module _ (at : CellAt) (old new : Cells) (frees : FreesCell at old new) where
  freed_was : (q : CellAt) → IsHandedOut new q → IsHandedOut old q × (¬ q ≡ at)
  freed_was q is =
      let both = or_parts (is_at at q) (is_free old q) (sym (frees.cells q) ∙ is.taken) in (
        record { on = subst (λ (t : List ℕ). Contains t q.page) (frees.tables q.vol) is.on; within = is.within; taken = both.1 },
        (λ same. true≢false (sym (at_itself q) ∙ ap (λ (a : CellAt). is_at a q) same ∙ both.0)),
      )

same_handed : (old new : Cells) → new ≡ old → (q : CellAt) → IsHandedOut new q → IsHandedOut old q
same_handed old new same q is = subst (λ (c : Cells). IsHandedOut c q) same is

-- ---- chains

-- a cell that is none of a chain is not its first one
apart_first : (pages : Pages) (a : CellAt) (cs : List PlacedCell) → IsFileOrQuotas pages a cs → (q : CellAt) → ¬ Contains (places cs) q → is_at a q ≡ false
apart_first pages a cs is q out = at_apart a q (λ same. out (subst (Contains (places cs)) same (chain_inside pages a cs is)))

distinct_chain : (pages : Pages) (a : CellAt) (cs : List PlacedCell) → IsFileOrQuotas pages a cs → AreDistinct cs
distinct_chain pages a [] is = tt
distinct_chain pages a (first ∷ rest) is = (linked_at pages a first rest is).1.distinct

-- a chain without pages has one cell alone, where each later one has a page
alone_left : (first : PlacedCell) (rest : List PlacedCell) → IsReleased 0 (first ∷ rest) → rest ≡ []
alone_left first [] released = refl
alone_left first (c ∷ rest) released =
    let has : HasPages c = released.later.0 in
    let behind = (over_absents (places_of (first ∷ []) has.page) (places_of (c ∷ rest) has.page) (sym (places_append (first ∷ []) (c ∷ rest) has.page) ∙ released.absent has.page (omega arith))).1 in
    absurd (has.there (over_absents (places_of (c ∷ []) has.page) (places_of rest has.page) (sym (places_append (c ∷ []) rest has.page) ∙ behind)).0)
  where
    over_absents : (a b : PagePlace) → over a b ≡ Absent → (a ≡ Absent) × (b ≡ Absent)
    over_absents Absent b is = (refl, is)
    over_absents (At home) b is = absurd cc
    over_absents Hole b is = absurd cc

-- where each other cell keeps its bytes it stands still
stands_still : (old new : Pages) (test : CellAt → Bool) → LeavesOthers test old new → (q : CellAt) (cell : Cell) → test q ≡ false → StandsAt old q cell → StandsAt new q cell
stands_still old new test leaves q cell other stands = record { bytes = stands.bytes; there = leaves q other ∙ stands.there; is = stands.is }

module _ (group : ℕ) (version : Version) (old new : Now) (well : IsWell old) (alone : AreAlone old.files) where
  fits : Fits old
  fits = well_fits old well

  pub no_clone : (e : Entry) → Contains old.list.entries e → e.clone ≡ None
  no_clone e inside = by_clone e.clone refl
    where
      by_clone : (o : Option CellAt) → e.clone ≡ o → o ≡ None
      by_clone None is = refl
      by_clone (Some c) is = absurd (subst (λ o. IsSomeAnd o (λ source. source.at ≡ e.at)) (alone c) ((well.listed.each e inside).given c is))

  stands_there : (a : CellAt) (cs : List PlacedCell) → old.files a ≡ Some cs → IsFileOrQuotas old.pages a cs
  stands_there a cs is = (standing old.space old.cells old.pages old.files well.together a cs is).stands

  -- ---- pages go

  module _ (s : LetsPages group version old new) where
    entry_in : Contains old.list.entries s.entry
    entry_in = in_last old.list s.front s.entry s.last

    no_reader : (s.reader ≡ None) × (s.own ≡ [])
    no_reader = ⊎_elim
        (λ none. (none.1, none.2))
        (λ q. absurd (none_not q.clone (sym (no_clone s.entry entry_in) ∙ q.is_clone)))
        (has_reader old.files s.entry.clone s.reader s.own s.given)

    own_none : s.releases.own_now ≡ []
    own_none = subst (λ o. IsReader new.pages o s.releases.own_now) no_reader.0 s.releases.again.reads

    nothing_taken : (s.releases.space_between ≡ old.space) × (s.releases.cells_between ≡ old.cells)
    nothing_taken = ⊎_elim
        (λ same. same)
        (λ t. absurd (absent_not t.home (ap (λ (cs : List PlacedCell). places_of cs t.page) (sym own_none) ∙ t.is)))
        s.releases.taken

    distinct_after : AreDistinct s.releases.after
    distinct_after = distinct_chain new.pages s.entry.at s.releases.after (inl s.releases.again.file)

    record Cells_go : Type 0 where
      handed : (q : CellAt) → IsHandedOut new.cells q → IsHandedOut old.cells q
      left : (q : CellAt) → IsHandedOut new.cells q → Contains (places s.chain) q → ¬ Contains (places s.releases.after) q → ⊥
      tables : (vol : ℕ) → table_of new.cells vol ≡ table_of old.cells vol
      marks : (vol : ℕ) → is_closed new.cells vol ≡ is_closed old.cells vol

    cells_go : (what : Released) (from : ℕ) → Progresses what from s.chain s.releases.after s.releases.cells_between new.cells → Cells_go
    cells_go released.Nothing from progress = absurd progress
    cells_go released.Pages from progress =
        let same : new.cells ≡ old.cells = progress.same_cells ∙ nothing_taken.1 in
        record {
          handed = same_handed old.cells new.cells same;
          left = λ q is inside out. out (subst (λ (ps : List CellAt). Contains ps q) (sym progress.same_places) inside);
          tables = λ vol. ap (λ (c : Cells). table_of c vol) same;
          marks = λ vol. ap (λ (c : Cells). is_closed c vol) same;
        }
    cells_go released.Cell from progress = record {
      handed = λ q is. same_handed old.cells s.releases.cells_between nothing_taken.1 q (freed_was progress.at s.releases.cells_between new.cells progress.frees q is).0;
      left = λ q is inside out. all_left s.chain s.releases.after progress.at distinct_after s.releases.within progress.was progress.gone progress.fewer q inside
          (freed_was progress.at s.releases.cells_between new.cells progress.frees q is).1 out;
      tables = λ vol. progress.frees.tables vol ∙ ap (λ (c : Cells). table_of c vol) nothing_taken.1;
      marks = λ vol. progress.frees.marks vol ∙ ap (λ (c : Cells). is_closed c vol) nothing_taken.1;
    }

    pub lets_goes : OneGoes old new
    lets_goes =
        let go = cells_go s.what _ s.releases.progress in
        record {
          entry = s.entry;
          inside = entry_in;
          chain = s.chain;
          was = s.is;
          after = s.releases.after;
          is = inl (at_source group version old new fits s);
          says = inl (says_first s.chain s.releases.after s.releases.first);
          beside = λ a apart. at_other group version old new fits s a apart (λ some. none_not a (sym (no_clone s.entry entry_in) ∙ some));
          within = s.releases.within;
          cells = lets_cells old.pages new.pages s.entry.at s.chain s.releases.after s.file s.releases.again.file s.releases.first s.releases.kinds s.releases.within;
          handed = go.handed;
          left = go.left;
          others = λ q cell stands on out. s.others q cell stands on out (λ own. let it = subst (λ (cs : List PlacedCell). Contains (places cs) q) no_reader.1 own in omega (arith, it.1));
          tables = go.tables;
          marks = go.marks;
          pages = λ p home there. ⊎_elim (λ same. sym same ∙ there) (λ gone. absurd (absent_not home (sym gone ∙ there))) (s.releases.pages.left p);
          space = subst (λ (x : Spaces). SpacesKeep x new.space) nothing_taken.0
              (subst (SpacesKeep s.releases.space_between) (sym s.releases.given.is) (spaces_given (use_of s.chain) group s.releases.given.homes s.releases.space_between));
          elsewhere = s.elsewhere;
        }

  -- ---- a quota cell goes

  module _ (s : LosesQuotaCell old new) where
    quota_inside : (q : CellAt) → Contains (places s.after) q → Contains (places (s.first ∷ s.second ∷ s.rest)) q
    quota_inside q inside = by_place (subst (λ (cs : List PlacedCell). Contains (places cs) q) s.after_is inside)
      where
        by_place : Contains (places (leads_to s.second.cell.head.next s.first ∷ s.rest)) q → Contains (places (s.first ∷ s.second ∷ s.rest)) q
        by_place (zero, less, is) = (zero, omega arith, is)
        by_place (suc k, less, is) = (suc (suc k), omega (arith, less), is)

    quota_left_in : (q : CellAt) → ¬ q ≡ s.second.at → Contains (places (s.first ∷ s.second ∷ s.rest)) q → Contains (places s.after) q
    quota_left_in q apart inside = subst (λ (cs : List PlacedCell). Contains (places cs) q) (sym s.after_is) (by_place inside)
      where
        by_place : Contains (places (s.first ∷ s.second ∷ s.rest)) q → Contains (places (leads_to s.second.cell.head.next s.first ∷ s.rest)) q
        by_place (zero, less, is) = (zero, omega arith, is)
        by_place (suc zero, less, is) = absurd (apart (sym is))
        by_place (suc (suc k), less, is) = (suc k, omega (arith, less), is)

    quota_apart : (q : CellAt) → ¬ Contains (places (s.first ∷ s.second ∷ s.rest)) q → (is_at s.first.at q || is_at s.second.at q) ≡ false
    quota_apart q out =
        ap (λ (b : Bool). b || is_at s.second.at q) (at_apart s.first.at q (λ same. out (zero, omega arith, same)))
        ∙ at_apart s.second.at q (λ same. out (suc zero, omega arith, same))

    pub quota_step : OneGoes old new
    quota_step = record {
      entry = s.entry;
      inside = in_last old.list s.front s.entry s.last;
      chain = s.first ∷ s.second ∷ s.rest;
      was = s.is;
      after = s.after;
      is = inl (quota_is group version old new s);
      says = inl (says_first (s.first ∷ s.second ∷ s.rest) s.after (quota_says group version old new s));
      beside = quota_beside group version old new s;
      within = quota_inside;
      cells = subst (CellsGo (s.first ∷ s.second ∷ s.rest)) (sym s.after_is) (quota_cells old.pages s.entry.at s.first s.second s.rest s.quotas s.second.cell.head.next);
      handed = λ q is. (freed_was s.second.at old.cells new.cells s.frees q is).0;
      left = λ q is inside out. out (quota_left_in q (freed_was s.second.at old.cells new.cells s.frees q is).1 inside);
      others = λ q cell stands on out. stands_still old.pages new.pages (λ at. is_at s.first.at at || is_at s.second.at at) s.others q cell (quota_apart q out) stands;
      tables = λ vol. s.frees.tables vol;
      marks = λ vol. s.frees.marks vol;
      pages = λ p home there. absurd (absent_not home (sym (quota_place new.pages s.entry.at s.after s.stands p) ∙ there));
      space = spaces_itself old.space new.space s.same_space;
      elsewhere = s.elsewhere;
    }

  -- ---- nothing of a file is stale any more

  module _ (s : EndsTrim old new) where
    with_places : (says : Cell → Cell) (cs : List PlacedCell) → places (with_first says cs) ≡ places cs
    with_places says [] = refl
    with_places says (c ∷ cs) = refl

    pub trim_step : OneGoes old new
    trim_step = record {
      entry = s.entry;
      inside = in_last old.list s.front s.entry s.last;
      chain = s.chain;
      was = s.is;
      after = with_first says_trimmed s.chain;
      is = inl (trim_there group version old new fits s);
      says = inl (says_trim s.chain);
      beside = trim_other group version old new fits s;
      within = λ q inside. subst (λ (ps : List CellAt). Contains ps q) (with_places says_trimmed s.chain) inside;
      cells = trim_cells old.pages s.entry.at s.chain (stands_there s.entry.at s.chain s.is) s.trim;
      handed = same_handed old.cells new.cells s.same_cells;
      left = λ q is inside out. out (subst (λ (ps : List CellAt). Contains ps q) (sym (with_places says_trimmed s.chain)) inside);
      others = λ q cell stands on out. stands_still old.pages new.pages (is_at s.entry.at) s.others q cell (apart_first old.pages s.entry.at s.chain (stands_there s.entry.at s.chain s.is) q out) stands;
      tables = λ vol. ap (λ (c : Cells). table_of c vol) s.same_cells;
      marks = λ vol. ap (λ (c : Cells). is_closed c vol) s.same_cells;
      pages = λ p home there. sym (first_places says_trimmed trimmed_keeps old new fits s.entry.at s.chain s.is (trim_maps old new fits s) s.files p) ∙ there;
      space = spaces_itself old.space new.space s.same_space;
      elsewhere = s.elsewhere;
    }

  -- ---- a file goes with its last cell

  module _ (s : EndsFile old new) where
    -- no cell of it is handed out any more
    none_left : (cs : List PlacedCell) → IsReleased 0 cs → IsFileOrQuotas old.pages s.entry.at cs → (q : CellAt) → Contains (places cs) q → q ≡ s.entry.at
    none_left [] done is q inside = absurd (omega (arith, inside.1))
    none_left (first ∷ rest) done is q inside = by_place (subst (λ (cs : List PlacedCell). Contains (places (first ∷ cs)) q) (alone_left first rest done) inside)
      where
        by_place : Contains (places (first ∷ [])) q → q ≡ s.entry.at
        by_place (zero, less, same) = sym same ∙ (linked_at old.pages s.entry.at first rest is).0
        by_place (suc k, less, same) = absurd (omega (arith, less))

    pub file_step : OneGoes old new
    file_step = record {
      entry = s.entry;
      inside = in_last old.list s.front s.entry s.last;
      chain = s.chain;
      was = s.is;
      after = [];
      is = inr (file_gone group version old new fits s, refl);
      says = inr refl;
      beside = ended_other group version old new fits s;
      within = λ q inside. absurd (omega (arith, inside.1));
      cells = no_cells s.chain;
      handed = λ q is. (freed_was s.entry.at old.cells new.cells s.frees q is).0;
      left = λ q is inside out. (freed_was s.entry.at old.cells new.cells s.frees q is).1 (none_left s.chain s.done (stands_there s.entry.at s.chain s.is) q inside);
      others = λ q cell stands on out. stands_still old.pages new.pages (is_at s.entry.at) s.others q cell (apart_first old.pages s.entry.at s.chain (stands_there s.entry.at s.chain s.is) q out) stands;
      tables = λ vol. s.frees.tables vol;
      marks = λ vol. s.frees.marks vol;
      pages = λ p home there. absurd (absent_not home there);
      space = spaces_itself old.space new.space s.same_space;
      elsewhere = s.elsewhere;
    }

  -- ---- any step, where no page of a tag directory goes

  pub tag_page_stays : (s : GivesTagPage group old new) → ¬ new.list.tag_pages ≡ old.list.tag_pages
  tag_page_stays s same =
      let front : s.takes.front ≡ s.takes.front ++ s.takes.home ∷ [] = sym (ap (λ (l : Listing). l.tag_pages) s.takes.is) ∙ same ∙ s.takes.last in
      let e : length s.takes.front ≡ suc (length s.takes.front) = ap length front ∙ longer s.takes.front s.takes.home in
      omega (arith, e)

  pub one_goes : Step group version old new → new.list.tag_pages ≡ old.list.tag_pages → OneGoes old new
  one_goes (pages_go s) same = lets_goes s
  one_goes (quota_goes s) same = quota_step s
  one_goes (trim_ends s) same = trim_step s
  one_goes (reading_ends s) same = absurd (none_not s.clone (sym (no_clone s.entry (in_last old.list s.front s.entry s.last)) ∙ s.given))
  one_goes (file_ends s) same = file_step s
  one_goes (tag_page_goes s) same = absurd (tag_page_stays s same)
