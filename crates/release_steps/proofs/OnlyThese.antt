-- Nothing else waits after steps.
use Rattle.std.proofs.Common.{◌≡◌, ◌∙◌, ◌⊎◌, ⊎_elim, inl, inr, ℕ, ◌-◌, ◌≤◌, suc, Bool, true, false, nat_eq, List, [], ◌∷◌, get_or, Option, Some, None, IsSomeAnd, Contains, refl, sym, ap, subst, arith}
use Rattle.std.proofs.lemmas.Bool.{both_ways, eq-eqb, eqb-true}
use Rattle.std.specs.Option.{option_map}
use Rattle.release_list.specs.domain_base.declared.place.CellAt.{CellAt}
use Rattle.release_list.specs.domain_base.declared.place.Home.{Home}
use Rattle.release_list.specs.domain_base.declared.version.Version.{Version}
use Rattle.release_list.specs.page_store.Pages.{Pages}
use Rattle.release_list.specs.metadata_cells.Chain.{PlacedCell}
use Rattle.release_list.specs.extent_maps.declared.run.PagePlace.TheVariants.{At}
use Rattle.release_list.specs.extent_maps.Runs.{Places}
use Rattle.release_list.specs.free_cells.Cells.{Cells}
use Rattle.release_list.specs.free_space.declared.waiting.PageUse.{PageUse}
use Rattle.release_list.specs.free_space.declared.waiting.PageUse.TheVariants.{Metadata}
use Rattle.release_list.specs.free_space.declared.waiting.Waiting.{Waiting}
use Rattle.release_list.specs.free_space.VolumeSpace.{VolumeSpace, with_waiting}
use Rattle.release_list.specs.free_space.Spaces.{Spaces, change_volume, volume_of}
use Rattle.release_list.proofs.OfFreeSpace.Places.{volume_of-change_other, volume_of-change_same}
use Rattle.release_list.specs.file_chains.Files.{places_of}
use Rattle.release_list.specs.file_release.Releases.{TakesForReader, use_of, with_given}
use Rattle.release_list.proofs.OfFileRelease.Given.{absent_home}
use Rattle.release_list.specs.declared.list.Entry.{Entry}
use Rattle.release_list.specs.Steps.{GivesTagPage, IsWell, LetsPages, Now, Step, Steps, file_ends, more, none, pages_go, quota_goes, reading_ends, tag_page_goes, trim_ends}
use Rattle.release_list.proofs.Lists.{last_in, not_last}
use Rattle.release_list.proofs.Spread.{Which, other, reading, some_same, source, which}
use Rattle.release_list.proofs.Standings.{low_home, place_by, quota_place, same_or_not}
use Rattle.release_steps.specs.Waits.{IsLetOff, Waits, WaitsSince, waiting_at}
use Rattle.release_steps.proofs.Ended.{ended_other, file_once, file_was, reading_other, same_file, trim_front, trim_once, trim_other}
use Rattle.release_steps.proofs.Fits.{Fits, alone, well_fits}
use Rattle.release_steps.proofs.Gone.{use_same}
use Rattle.release_steps.proofs.HeldSteps.{waits_not_held}
use Rattle.release_steps.proofs.Listing.{inside_last}
use Rattle.release_steps.proofs.Narrower.{in_last, narrower_step}
use Rattle.release_steps.proofs.PagesGo.{at_other, at_source}
use Rattle.release_steps.proofs.StillWaits.{among, back, waiting_on, waiting_one}
use Rattle.release_steps.proofs.Tags.{was_listed}
use Rattle.release_steps.proofs.Wells.{well_step}
use Rattle.release_steps.proofs.QuotaStep.{chain, quota_beside, quota_is, quota_says}

-- ---- what waits did before, or is the page that does from now on

pub waits_back : (w : Waiting) (s : Spaces) (vol at : ℕ) (page : Waiting) → Waits (change_volume (with_waiting w) s vol) at page → Waits s at page ⊎ ((at - 1 ≡ vol - 1) × (page ≡ w))
waits_back w s vol at page waits = by_test (nat_eq (at - 1) (vol - 1)) refl
  where
    by_volume : at - 1 ≡ vol - 1 → (o : Option VolumeSpace) → IsSomeAnd (option_map (with_waiting w) o) (λ v. Contains v.waiting page) → IsSomeAnd o (λ v. Contains v.waiting page) ⊎ ((at - 1 ≡ vol - 1) × (page ≡ w))
    by_volume same None is = absurd is
    by_volume same (Some v) is = ⊎_elim (λ was. inl was) (λ this. inr (same, this)) (inside_last v.waiting w page is)

    by_test : (b : Bool) → nat_eq (at - 1) (vol - 1) ≡ b → Waits s at page ⊎ ((at - 1 ≡ vol - 1) × (page ≡ w))
    by_test true is =
        let same = eqb-true (at - 1) (vol - 1) is in
        let there : volume_of (change_volume (with_waiting w) s vol) at ≡ option_map (with_waiting w) (volume_of s at) =
        ap (λ i. get_or (change_volume (with_waiting w) s vol).volumes i None) same ∙ volume_of-change_same (with_waiting w) s vol ∙ ap (λ i. option_map (with_waiting w) (get_or s.volumes i None)) (sym same) in
        by_volume same (volume_of s at) (subst (λ o. IsSomeAnd o (λ v. Contains v.waiting page)) there waits)
    by_test false differ =
        inl (subst (λ o. IsSomeAnd o (λ v. Contains v.waiting page)) (volume_of-change_other (with_waiting w) s vol at (λ same. both_ways (nat_eq (at - 1) (vol - 1)) differ (eq-eqb (at - 1) (vol - 1) same))) waits)

-- one of these homes is that of the page
record IsOfThese (kind : PageUse) (group : ℕ) (homes : List Home) (vol : ℕ) (page : Waiting) : Type 0 where
  home : Home
  inside : Contains homes home
  on : vol ≡ home.vol
  is : page ≡ waiting_at home kind group

given_only : (kind : PageUse) (group : ℕ) (homes : List Home) (s : Spaces) (vol : ℕ) (page : Waiting) → 1 ≤ vol → ((home : Home) → Contains homes home → 1 ≤ home.vol) → Waits (with_given kind group homes s) vol page → Waits s vol page ⊎ IsOfThese kind group homes vol page
given_only kind group [] s vol page low lows waits = inl waits
given_only kind group (x ∷ xs) s vol page low lows waits = ⊎_elim
    (λ was. ⊎_elim
    (λ at_first. inl at_first)
    (λ o. inr (record { home = o.home; inside = (suc o.inside.0, omega (arith, o.inside.1), o.inside.2); on = o.on; is = o.is }))
    (given_only kind group xs s vol page low (λ home inside. lows home (suc inside.0, omega (arith, inside.1), inside.2)) was))
    (λ this. inr (record { home = x; inside = (0, omega arith, refl); on = omega (arith, this.0, low, lows x (0, omega arith, refl)); is = this.1 }))
    (waits_back (waiting_at x kind group) (with_given kind group xs s) x.vol vol page waits)

taken_same : (own : List PlacedCell) (own_now sources : Places) (s t : Spaces) (cells cells_now : Cells) (old : Pages) → TakesForReader own own_now sources s t cells cells_now old → (vol : ℕ) → waiting_on t vol ≡ waiting_on s vol
taken_same own own_now sources s t cells cells_now old taken vol = ⊎_elim
    (λ same. ap (λ x. waiting_on x vol) same.0)
    (λ it. ⊎_elim
    (λ same. ap (λ x. waiting_on x vol) same.0)
    (λ one. waiting_one it.home.vol s t cells cells_now old one.1 vol)
    it.taken)
    taken

-- ---- a file on the list had its pages at first

record HadPages (first : Now) (a : CellAt) (cells : List PlacedCell) : Type 0 where
  chain : List PlacedCell
  was : first.files a ≡ Some chain
  pages : (p : ℕ) (home : Home) → places_of cells p ≡ At home → places_of chain p ≡ At home
  uses : use_of chain ≡ use_of cells

abbrev HadAll : Now → Now → Type 0
HadAll first now = (e : Entry) → Contains now.list.entries e → (cells : List PlacedCell) → now.files e.at ≡ Some cells → HadPages first e.at cells

module _ (first : Now) (group : ℕ) (version : Version) (old new : Now) (fits : Fits old) (had : HadAll first old) (e : Entry) where
  had_same : Step group version old new → Contains new.list.entries e → new.files e.at ≡ old.files e.at → (cells : List PlacedCell) → new.files e.at ≡ Some cells → HadPages first e.at cells
  had_same step inside same cells is =
      let n = narrower_step group version old new step e inside in
      subst (λ (a : CellAt). HadPages first a cells) n.at (had n.was n.inside cells (ap old.files n.at ∙ sym same ∙ is))

  had_lets : (s : LetsPages group version old new) → Contains new.list.entries e → (cells : List PlacedCell) → new.files e.at ≡ Some cells → HadPages first e.at cells
  had_lets s inside cells is = by_which (which s.entry.at s.entry.clone e.at)
    where
      by_which : Which s.entry.at s.entry.clone e.at → HadPages first e.at cells
      by_which (source same) =
          let it : s.releases.after ≡ cells = some_same s.releases.after cells (sym (at_source group version old new fits s) ∙ sym (ap new.files same) ∙ is) in
          let h = had s.entry (in_last old.list s.front s.entry s.last) s.chain s.is in
          subst (λ (cs : List PlacedCell). HadPages first e.at cs) it (subst (λ (a : CellAt). HadPages first a s.releases.after) (sym same) (record {
            chain = h.chain;
            was = h.was;
            pages = λ p home there. h.pages p home (⊎_elim (λ kept. sym kept ∙ there) (λ gone. absurd (absent_home home gone there)) (s.releases.pages.left p));
            uses = h.uses ∙ sym (use_same s.chain s.releases.after s.releases.first);
          }))
      by_which (reading some) =
          let n = narrower_step group version old new (pages_go s) e inside in
          absurd (alone old fits s.front s.entry s.last n.was n.inside (some ∙ ap Some (sym n.at)))
      by_which (other not_at not_it) = had_same (pages_go s) inside (at_other group version old new fits s e.at not_at not_it) cells is

  had_step : Step group version old new → Contains new.list.entries e → (cells : List PlacedCell) → new.files e.at ≡ Some cells → HadPages first e.at cells
  had_step (pages_go s) inside cells is = had_lets s inside cells is
  had_step (quota_goes s) inside cells is = ⊎_elim
      (λ same.
      let it : s.after ≡ cells = some_same s.after cells (sym (quota_is group version old new s) ∙ sym (ap new.files same) ∙ is) in
      let h = had s.entry (in_last old.list s.front s.entry s.last) (chain group version old new s) s.is in
      subst (λ (cs : List PlacedCell). HadPages first e.at cs) it (subst (λ (a : CellAt). HadPages first a s.after) (sym same) (record {
        chain = h.chain;
        was = h.was;
        pages = λ p home there. absurd (absent_home home (quota_place new.pages s.entry.at s.after s.stands p) there);
        uses = h.uses ∙ sym (use_same (chain group version old new s) s.after (quota_says group version old new s));
      })))
      (λ not_at. had_same (quota_goes s) inside (quota_beside group version old new s e.at not_at) cells is)
      (same_or_not e.at s.entry.at)
  had_step (trim_ends s) inside cells is =
      had_same (trim_ends s) inside (trim_other group version old new fits s e.at (not_last s.front s.entry e (trim_once group version old new fits s) (trim_front group version old new fits s e inside))) cells is
  had_step (reading_ends s) inside cells is =
      let n = narrower_step group version old new (reading_ends s) e inside in
      had_same (reading_ends s) inside (reading_other group version old new fits s e.at (λ same. alone old fits s.front s.entry s.last n.was n.inside (s.given ∙ ap Some (sym same ∙ sym n.at)))) cells is
  had_step (file_ends s) inside cells is =
      let w = file_was group version old new fits s e inside in
      had_same (file_ends s) inside (ended_other group version old new fits s e.at (λ same. not_last s.front s.entry w.0 (file_once group version old new fits s) w.1 (sym (ap (λ (x : Entry). x.at) w.2) ∙ same))) cells is
  had_step (tag_page_goes s) inside cells is = had_same (tag_page_goes s) inside (same_file group version old new fits s e.at) cells is

-- ---- what waits since

-- where the page was at first
record HadHome (first : Now) (home : Home) (kind : PageUse) : Type 0 where
  at : CellAt
  page : ℕ
  chain : List PlacedCell
  was : first.files at ≡ Some chain
  there : places_of chain page ≡ At home
  of_use : use_of chain ≡ kind

record Since (group : ℕ) (first : Now) (vol : ℕ) (page : Waiting) : Type 0 where
  home : Home
  kind : PageUse
  on : vol ≡ home.vol
  is : page ≡ waiting_at home kind group
  was : HadHome first home kind ⊎ ((kind ≡ Metadata) × Contains first.list.tag_pages home)

record IsKnown (group : ℕ) (first now : Now) : Type 0 where
  well : IsWell now
  had : HadAll first now
  listed : (home : Home) → Contains now.list.tag_pages home → Contains first.list.tag_pages home
  waits : (vol : ℕ) (page : Waiting) → 1 ≤ vol → Waits now.space vol page → Waits first.space vol page ⊎ Since group first vol page

module _ (first : Now) (group : ℕ) (version : Version) (old new : Now) (known : IsKnown group first old) (vol : ℕ) (page : Waiting) (low : 1 ≤ vol) where
  was_waiting : new.space ≡ old.space → Waits new.space vol page → Waits first.space vol page ⊎ Since group first vol page
  was_waiting same waits = known.waits vol page low (subst (λ (s : Spaces). Waits s vol page) same waits)

  lets_waits : LetsPages group version old new → Waits new.space vol page → Waits first.space vol page ⊎ Since group first vol page
  lets_waits s waits = ⊎_elim
      (λ between.
      let same = taken_same s.own (places_of s.releases.own_now) (places_of s.chain) old.space s.releases.space_between old.cells s.releases.cells_between old.pages s.releases.taken vol in
      known.waits vol page low (back page (volume_of old.space vol) (subst (λ o. IsSomeAnd o (λ ws. Contains ws page)) same (among page (volume_of s.releases.space_between vol) between))))
      (λ o.
      let gone = (s.releases.given.each o.home).0 o.inside in
      let h = known.had s.entry (in_last old.list s.front s.entry s.last) s.chain s.is in
      inr (record {
        home = o.home;
        kind = use_of s.chain;
        on = o.on;
        is = o.is;
        was = inl (record { at = s.entry.at; page = gone.page; chain = h.chain; was = h.was; there = h.pages gone.page o.home gone.was; of_use = h.uses });
      }))
      (given_only (use_of s.chain) group s.releases.given.homes s.releases.space_between vol page low
      (λ home inside. let gone = (s.releases.given.each home).0 inside in
      low_home old.space old.cells old.pages old.files known.well.together s.entry.at gone.page home (place_by old.files s.entry.at s.chain gone.page s.is ∙ gone.was))
      (subst (λ (x : Spaces). Waits x vol page) s.releases.given.is waits))

  tag_waits : GivesTagPage group old new → Waits new.space vol page → Waits first.space vol page ⊎ Since group first vol page
  tag_waits s waits =
      let inside : Contains old.list.tag_pages s.takes.home = subst (λ (hs : List Home). Contains hs s.takes.home) (sym s.takes.last) (last_in s.takes.front s.takes.home) in
      ⊎_elim
      (λ was. known.waits vol page low was)
      (λ this. inr (record {
        home = s.takes.home;
        kind = Metadata;
        on = omega (arith, this.0, low, known.well.listed.pages_low s.takes.home inside);
        is = this.1;
        was = inr (refl, known.listed s.takes.home inside);
      }))
      (waits_back (waiting_at s.takes.home Metadata group) old.space s.takes.home.vol vol page (subst (λ (x : Spaces). Waits x vol page) s.takes.waits waits))

  step_waits : Step group version old new → Waits new.space vol page → Waits first.space vol page ⊎ Since group first vol page
  step_waits (pages_go s) waits = lets_waits s waits
  step_waits (quota_goes s) waits = was_waiting s.same_space waits
  step_waits (trim_ends s) waits = was_waiting s.same_space waits
  step_waits (reading_ends s) waits = was_waiting s.same_space waits
  step_waits (file_ends s) waits = was_waiting s.same_space waits
  step_waits (tag_page_goes s) waits = tag_waits s waits

known_still : (group : ℕ) (version : Version) (first : Now) (count : ℕ) (last : Now) → IsWell first → Steps group version first count last → IsKnown group first last
known_still group version first count last well steps =
    elim steps as (λ count last steps. IsKnown group first last) [
      | none ↦ record {
        well = well;
        had = λ e inside cells is. record { chain = cells; was = is; pages = λ p home there. there; uses = refl };
        listed = λ home inside. inside;
        waits = λ vol page low waits. inl waits;
      }
      | more n between last (steps → was) step ↦ record {
        well = well_step group version between last was.well step;
        had = λ e inside cells is. had_step first group version between last (well_fits between was.well) was.had e step inside cells is;
        listed = λ home inside. was.listed home (was_listed group version between last was.well step home inside);
        waits = λ vol page low waits. step_waits first group version between last was vol page low step waits;
      }
    ]

pub only_these_wait : (group : ℕ) (version : Version) (first : Now) (count : ℕ) (last : Now) → IsWell first → Steps group version first count last → (vol : ℕ) (page : Waiting) → 1 ≤ vol → Waits last.space vol page
    → Waits first.space vol page ⊎ WaitsSince group first last vol page
only_these_wait group version first count last well steps vol page low waits =
    ⊎_elim
    (λ was. inl was)
    (λ s.
    let there : Waits last.space s.home.vol (waiting_at s.home s.kind group) = subst (λ (v : ℕ). Waits last.space v (waiting_at s.home s.kind group)) s.on (subst (Waits last.space vol) s.is waits) in
    inr (record { home = s.home; kind = s.kind; on = s.on; is = s.is; off = off s.home s.kind there s.was }))
    (known.waits vol page low waits)
  where
    known : IsKnown group first last
    known = known_still group version first count last well steps

    off : (home : Home) (kind : PageUse) → Waits last.space home.vol (waiting_at home kind group) → HadHome first home kind ⊎ ((kind ≡ Metadata) × Contains first.list.tag_pages home) → IsLetOff first last home kind
    off home kind there was = ⊎_elim
        (λ h. inl (record {
          at = h.at;
          page = h.page;
          chain = h.chain;
          was = h.was;
          there = h.there;
          of_use = h.of_use;
          nowhere = λ a p at_home. waits_not_held last.space home kind group there (known.well.together.held a p home at_home).held;
        }))
        (λ t. inr (t.0, t.1, λ inside. waits_not_held last.space home kind group there (known.well.listed.pages_held home inside).held))
        was
