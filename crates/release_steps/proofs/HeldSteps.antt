-- Which pages of the free space are held after steps.
use Rattle.std.proofs.Common.{◌≡◌, ◌∙◌, ◌⊎◌, ⊎_elim, inl, inr, ℕ, ◌-◌, ◌≤◌, Bool, true, false, nat_eq, List, [], ◌∷◌, get_or, Option, Some, None, IsSomeAnd, Contains, refl, sym, ap, subst}
use Rattle.std.proofs.lemmas.Bool.{both_ways, cases_Bool, eq-eqb, eqb-true, or_left}
use Rattle.std.proofs.lemmas.List.Folds.{list_any-append}
use Rattle.std.specs.FinSet.{contains}
use Rattle.std.specs.Option.{option_map, option_map_or}
use Rattle.release_list.specs.domain_base.declared.place.Home.{Home}
use Rattle.release_list.specs.domain_base.declared.version.Version.{Version}
use Rattle.release_list.specs.metadata_cells.Chain.{PlacedCell}
use Rattle.release_list.specs.extent_maps.declared.run.PagePlace.TheVariants.{Absent, At}
use Rattle.release_list.specs.free_cells.Cells.{Cells, table_of}
use Rattle.release_list.specs.free_space.declared.waiting.PageUse.{PageUse}
use Rattle.release_list.specs.free_space.declared.waiting.PageUse.TheVariants.{Metadata}
use Rattle.release_list.specs.free_space.declared.waiting.Waiting.{Waiting}
use Rattle.release_list.specs.free_space.VolumeSpace.{VolumeSpace, is_waiting, with_waiting}
use Rattle.release_list.specs.free_space.Spaces.{IsHeld, Spaces, change_volume, volume_of}
use Rattle.release_list.proofs.OfFreeSpace.Apart.{among_at}
use Rattle.release_list.proofs.OfFreeSpace.Places.{volume_of-change_other, volume_of-change_same}
use Rattle.release_list.proofs.OfFileChains.Allocated.{there_is}
use Rattle.release_list.specs.file_chains.Files.{places_of}
use Rattle.release_list.specs.file_release.declared.released.Released.{Released}
use Rattle.release_list.specs.file_release.declared.released.Released.TheVariants as released
use Rattle.release_list.specs.file_release.Releases.{Progresses, use_of, with_given}
use Rattle.release_list.proofs.OfFileRelease.Once.{absent_not}
use Rattle.release_list.specs.Steps.{IsWell, LetsPages, Now, Step, Steps, file_ends, more, none, pages_go, quota_goes, reading_ends, tag_page_goes, trim_ends}
use Rattle.release_list.proofs.Spread.{tables}
use Rattle.release_steps.specs.Waits.{IsGivenUp, IsLost, IsNowhere, StandsApart, Waits, waiting_at}
use Rattle.release_steps.proofs.Gone.{gone_waits}
use Rattle.release_steps.proofs.HeldPages.{one_grows}
use Rattle.release_steps.proofs.Narrower.{in_last}
use Rattle.release_steps.proofs.TagPages.{tag_pages_wait}
use Rattle.release_steps.proofs.Tags.{had_page, held_on, was_listed}
use Rattle.release_steps.proofs.Wells.{well_step}

abbrev IsHeldIn : ℕ → VolumeSpace → Type 0
IsHeldIn p v = (contains v.used p ≡ true) × (is_waiting v p ≡ false)

-- ---- a page is held or not

held_or_not : (s : Spaces) (vol p : ℕ) → IsHeld s vol p ⊎ (IsHeld s vol p → ⊥)
held_or_not s vol p = by_volume (volume_of s vol)
  where
    by_volume : (o : Option VolumeSpace) → IsSomeAnd o (IsHeldIn p) ⊎ (IsSomeAnd o (IsHeldIn p) → ⊥)
    by_volume None = inr (λ is. is)
    by_volume (Some v) = ⊎_elim
        (λ used. ⊎_elim
        (λ waits. inr (λ is. both_ways (is_waiting v p) is.1 waits))
        (λ settled. inl (used, settled))
        (cases_Bool (is_waiting v p)))
        (λ unused. inr (λ is. both_ways (contains v.used p) unused is.0))
        (cases_Bool (contains v.used p))

-- and none that waits is
pub waits_not_held : (s : Spaces) (home : Home) (kind : PageUse) (group : ℕ) → Waits s home.vol (waiting_at home kind group) → IsHeld s home.vol home.page → ⊥
waits_not_held s home kind group waits held = by_volume (volume_of s home.vol) waits held
  where
    by_volume : (o : Option VolumeSpace) → IsSomeAnd o (λ v. Contains v.waiting (waiting_at home kind group)) → IsSomeAnd o (IsHeldIn home.page) → ⊥
    by_volume None waits held = waits
    by_volume (Some v) waits held =
        let w = waiting_at home kind group in
        both_ways (is_waiting v home.page) held.1
        (ap (λ (x : Waiting). is_waiting v x.page) (sym (there_is v.waiting waits.0 w w waits.1 ∙ waits.2)) ∙ among_at v.waiting waits.0 w waits.1)

-- ---- a page that waits was held in what was before

pub held_before : (w : Waiting) (s : Spaces) (vol other p : ℕ) → IsHeld (change_volume (with_waiting w) s vol) other p → IsHeld s other p
held_before w s vol other p held = by_test (nat_eq (other - 1) (vol - 1)) refl
  where
    settled : (v : VolumeSpace) → is_waiting (with_waiting w v) p ≡ false → is_waiting v p ≡ false
    settled v unlisted = ⊎_elim
        (λ waits. absurd (both_ways (is_waiting (with_waiting w v) p) unlisted
        (list_any-append (λ (x : Waiting). nat_eq p x.page) v.waiting (w ∷ []) ∙ or_left (is_waiting v p) _ waits)))
        (λ is. is)
        (cases_Bool (is_waiting v p))

    back : (o : Option VolumeSpace) → IsSomeAnd (option_map (with_waiting w) o) (IsHeldIn p) → IsSomeAnd o (IsHeldIn p)
    back None is = is
    back (Some v) is = (is.0, settled v is.1)

    by_test : (b : Bool) → nat_eq (other - 1) (vol - 1) ≡ b → IsHeld s other p
    by_test true is =
        let same = eqb-true (other - 1) (vol - 1) is in
        let there : volume_of (change_volume (with_waiting w) s vol) other ≡ option_map (with_waiting w) (volume_of s other) =
        ap (λ i. get_or (change_volume (with_waiting w) s vol).volumes i None) same ∙ volume_of-change_same (with_waiting w) s vol ∙ ap (λ i. option_map (with_waiting w) (get_or s.volumes i None)) (sym same) in
        back (volume_of s other) (subst (λ o. IsSomeAnd o (IsHeldIn p)) there held)
    by_test false differ =
        subst (λ o. IsSomeAnd o (IsHeldIn p)) (volume_of-change_other (with_waiting w) s vol other (λ same. both_ways (nat_eq (other - 1) (vol - 1)) differ (eq-eqb (other - 1) (vol - 1) same))) held

given_before : (kind : PageUse) (group : ℕ) (homes : List Home) (s : Spaces) (vol p : ℕ) → IsHeld (with_given kind group homes s) vol p → IsHeld s vol p
given_before kind group [] s vol p held = held
given_before kind group (x ∷ xs) s vol p held =
    given_before kind group xs s vol p (held_before (record { page = x.page; kind = kind; group = group }) (with_given kind group xs s) x.vol vol p held)

-- ---- a step

between_tables : (what : Released) (from : ℕ) (chain after : List PlacedCell) (between now : Cells) → Progresses what from chain after between now → (vol : ℕ) → table_of now vol ≡ table_of between vol
between_tables released.Nothing from chain after between now progress vol = absurd progress
between_tables released.Pages from chain after between now progress vol = ap (λ (c : Cells). table_of c vol) progress.same_cells
between_tables released.Cell from chain after between now progress vol = progress.frees.tables vol

abbrev IsOnTable : Cells → Home → Type 0
IsOnTable cells home = Contains (table_of cells home.vol) home.page

module _ (group : ℕ) (version : Version) (old new : Now) (well : IsWell old) where
  same_tables : new.cells ≡ old.cells → (vol p : ℕ) → Contains (table_of old.cells vol) p → Contains (table_of new.cells vol) p
  same_tables same vol p on = subst (λ (c : Cells). Contains (table_of c vol) p) (sym same) on

  pub tables_on : Step group version old new → (vol p : ℕ) → Contains (table_of old.cells vol) p → Contains (table_of new.cells vol) p
  tables_on (pages_go s) vol p on =
      let is_entry = well.listed.each s.entry (in_last old.list s.front s.entry s.last) in
      tables old.space old.cells old.pages old.files well.together s.entry is_entry s.chain s.is s.file s.reader s.own s.given group version new.space new.cells new.pages s.what s.releases s.others s.allocated vol p on
  tables_on (quota_goes s) vol p on = subst (λ (t : List ℕ). Contains t p) (sym (s.frees.tables vol)) on
  tables_on (trim_ends s) vol p on = same_tables s.same_cells vol p on
  tables_on (reading_ends s) vol p on = same_tables s.same_cells vol p on
  tables_on (file_ends s) vol p on = subst (λ (t : List ℕ). Contains t p) (sym (s.frees.tables vol)) on
  tables_on (tag_page_goes s) vol p on = same_tables s.same_cells vol p on

  abbrev Before : Home → Type 0
  Before h = IsHeld old.space h.vol h.page ⊎ IsOnTable new.cells h

  same_before : (h : Home) → new.space ≡ old.space → IsHeld new.space h.vol h.page → Before h
  same_before h same held = inl (subst (λ (s : Spaces). IsHeld s h.vol h.page) same held)

  lets_before : (s : LetsPages group version old new) (h : Home) → 1 ≤ h.vol → IsHeld new.space h.vol h.page → Before h
  lets_before s h low held =
      let r = s.releases in
      let between = given_before (use_of s.chain) group r.given.homes r.space_between h.vol h.page (subst (λ (x : Spaces). IsHeld x h.vol h.page) r.given.is held) in
      ⊎_elim
      (λ same. inl (subst (λ (x : Spaces). IsHeld x h.vol h.page) same.0 between))
      (λ t. ⊎_elim
      (λ same. inl (subst (λ (x : Spaces). IsHeld x h.vol h.page) same.0 between))
      (λ one. ⊎_elim
      (λ was. inl was)
      (λ on. inr (subst (λ (ps : List ℕ). Contains ps h.page) (sym (between_tables s.what _ s.chain r.after r.cells_between new.cells r.progress h.vol)) on))
      ((one_grows t.home.vol old.space r.space_between old.cells r.cells_between old.pages one.1).only h low between))
      t.taken)
      r.taken

  before_step : Step group version old new → (h : Home) → 1 ≤ h.vol → IsHeld new.space h.vol h.page → Before h
  before_step (pages_go s) h low held = lets_before s h low held
  before_step (quota_goes s) h low held = same_before h s.same_space held
  before_step (trim_ends s) h low held = same_before h s.same_space held
  before_step (reading_ends s) h low held = same_before h s.same_space held
  before_step (file_ends s) h low held = same_before h s.same_space held
  before_step (tag_page_goes s) h low held = inl (held_before _ old.space s.takes.home.vol h.vol h.page (subst (λ (x : Spaces). IsHeld x h.vol h.page) s.takes.waits held))

-- ---- any number

pub record HeldStill (first now : Now) (h : Home) : Type 0 where
  pub well : IsWell now
  pub tables : IsOnTable first.cells h → IsOnTable now.cells h
  pub before : IsHeld now.space h.vol h.page → IsHeld first.space h.vol h.page ⊎ IsOnTable now.cells h
  pub stands : StandsApart first h → StandsApart now h

pub held_still : (group : ℕ) (version : Version) (first : Now) (count : ℕ) (last : Now) → IsWell first → Steps group version first count last → (h : Home) → 1 ≤ h.vol → HeldStill first last h
held_still group version first count last well steps h low =
    elim steps as (λ count last steps. HeldStill first last h) [
      | none ↦ record { well = well; tables = λ on. on; before = λ held. inl held; stands = λ is. is }
      | more n between last (steps → was) step ↦ record {
        well = well_step group version between last was.well step;
        tables = λ on. tables_on group version between last was.well step h.vol h.page (was.tables on);
        before = λ held. ⊎_elim
            (λ earlier. ⊎_elim (λ at_first. inl at_first) (λ on. inr (tables_on group version between last was.well step h.vol h.page on)) (was.before earlier))
            (λ on. inr on)
            (before_step group version between last was.well step h low held);
        stands = λ is. let it = was.stands is in record {
          low = low;
          nowhere = λ a p there. let had = had_page group version between last was.well step a p h there in it.nowhere had.0 had.1 had.2;
          not_listed = λ inside. it.not_listed (was_listed group version between last was.well step h inside);
          apart = held_on group version between last was.well h low it.nowhere it.not_listed it.apart step;
        };
      }
    ]

module _ (group : ℕ) (version : Version) (first : Now) (count : ℕ) (last : Now) (well : IsWell first) (steps : Steps group version first count last) (h : Home) (low : 1 ≤ h.vol) where
  still : HeldStill first last h
  still = held_still group version first count last well steps h low

  on_held : IsOnTable last.cells h → IsHeld last.space h.vol h.page
  on_held on = subst (IsHeld last.space h.vol) (there_is (table_of last.cells h.vol) on.0 0 h.page on.1 ∙ on.2) (still.well.together.allocated.held h.vol on.0 low on.1)

  -- what was given up waits
  not_given_up : IsHeld last.space h.vol h.page → IsGivenUp first last h → ⊥
  not_given_up held gone = ⊎_elim
      (λ lost. by_chain lost (first.files lost.at) refl lost.was)
      (λ off. waits_not_held last.space h Metadata group (tag_pages_wait group version first count last well steps h off.0 off.1) held)
      gone
    where
      by_chain : (lost : IsLost first last h) (o : Option (List PlacedCell)) → first.files lost.at ≡ o → option_map_or (λ cs. places_of cs lost.page) o Absent ≡ At h → ⊥
      by_chain lost None is there = absent_not h there
      by_chain lost (Some cs) is there =
          waits_not_held last.space h (use_of cs) group
          (gone_waits group version first count last well steps h (use_of cs) (record { at = lost.at; page = lost.page; chain = cs; was = is; there = there; of_use = refl; nowhere = lost.nowhere }))
          held

  -- what was not is held still
  kept : IsHeld first.space h.vol h.page → (IsGivenUp first last h → ⊥) → (IsHeld last.space h.vol h.page → ⊥) → ⊥
  kept was stays lost =
      let nowhere : IsNowhere last.files h = (λ a p there. lost (still.well.together.held a p h there).held) in
      let unlisted : ¬ Contains last.list.tag_pages h = (λ inside. lost (still.well.listed.pages_held h inside).held) in
      lost (still.stands (record {
        low = low;
        nowhere = λ a p there. stays (inl (record { at = a; page = p; was = there; nowhere = nowhere }));
        not_listed = λ inside. stays (inr (inside, unlisted));
        apart = record { held = was; off_table = λ on. lost (on_held (still.tables on)) };
      })).apart.held

  pub held_after : (IsHeld last.space h.vol h.page → (IsHeld first.space h.vol h.page × ¬ IsGivenUp first last h) ⊎ IsOnTable last.cells h)
      × ((IsHeld first.space h.vol h.page × ¬ IsGivenUp first last h) ⊎ IsOnTable last.cells h → IsHeld last.space h.vol h.page)
  held_after = (
    (λ held. ⊎_elim (λ was. inl (was, not_given_up held)) (λ on. inr on) (still.before held)),
    ⊎_elim
        (λ was. ⊎_elim (λ is. is) (λ lost. absurd (kept was.0 was.1 lost)) (held_or_not last.space h.vol h.page))
        on_held,
  )
