-- Each page is held for one thing alone over steps, and what is held for nothing is free or waits.
use Rattle.std.proofs.Common.{◌≡◌, ◌∙◌, ◌⊎◌, ⊎_elim, inl, inr, ℕ, zero, suc, ◌≤◌, ◌<◌, ◌||◌, Bool, true, false, nat_eq, List, [], ◌∷◌, Option, Some, None, IsSomeAnd, Contains, refl, sym, ap, subst, arith}
use Rattle.std.proofs.lemmas.Bool.{both_ways, cases_Bool, eq-eqb, eqb-true, or_cases, or_right, true≢false}
use Rattle.std.specs.FinSet.{contains}
use Rattle.std.specs.Option.{option_map_or}
use Rattle.standing_laws.specs.domain_base.declared.place.CellAt.{CellAt}
use Rattle.standing_laws.specs.domain_base.declared.place.Home.{Home}
use Rattle.standing_laws.specs.metadata_cells.Chain.{PlacedCell}
use Rattle.standing_laws.specs.extent_maps.declared.run.PagePlace.TheVariants.{Absent, At}
use Rattle.standing_laws.specs.free_space.declared.waiting.Waiting.{Waiting}
use Rattle.standing_laws.specs.free_space.VolumeSpace.{VolumeSpace, is_among, is_waiting}
use Rattle.standing_laws.specs.free_space.Spaces.{volume_of}
use Rattle.standing_laws.specs.file_chains.Files.{places_of}
use Rattle.standing_laws.specs.file_release.Releases.{use_of}
use Rattle.standing_laws.proofs.OfFileRelease.Once.{absent_not}
use Rattle.standing_laws.specs.release_list.Standing.{Files}
use Rattle.standing_laws.specs.release_steps.Waits.{IsLetGo, WaitsSince, waiting_at}
use Rattle.standing_laws.proofs.OfReleaseSteps.Gone.{gone_waits}
use Rattle.standing_laws.proofs.OfReleaseSteps.OnlyThese.{only_these_wait}
use Rattle.standing_laws.proofs.OfReleaseSteps.WaitOn.{wait_still}
use Rattle.standing_laws.specs.domain_standing.Chains.{IndexesAt}
use Rattle.standing_laws.specs.domain_standing.Domain.{DomainNow, all_of}
use Rattle.standing_laws.specs.domain_standing.Holders.{AreHeldAt, AreHeldOn, Holder, Holds, HoldsOwned, IsUnheld}
use Rattle.standing_laws.specs.domain_standing.Holders.Holder.{of_cells, of_file, of_index, of_log, of_table, of_tags, of_volume}
use Rattle.standing_laws.specs.domain_standing.Sources.{StandAlone}
use Rattle.standing_laws.specs.Leads.{StandsBelow}
use Rattle.release_laws.specs.Released.{Releases}
use Rattle.release_laws.proofs.Led.{go, led, led_is, on_now, on_was, well_was}
use Rattle.release_laws.proofs.SpaceWaits.{KeepsUsed, ThereKeeps}

-- ---- pages among those that wait

among_there : (ws : List Waiting) (p : ℕ) → is_among ws p ≡ true → (x : Waiting) × Contains ws x × (x.page ≡ p)
among_there [] p is = absurd (true≢false (sym is))
among_there (w ∷ ws) p is = ⊎_elim
    (λ same. (w, (0, omega arith, refl), sym (eqb-true p w.page same)))
    (λ later. let x = among_there ws p later in (x.0, (suc x.1.0, omega (arith, x.1.1), x.1.2), x.2))
    (or_cases (nat_eq p w.page) (is_among ws p) is)

among_is : (ws : List Waiting) (x : Waiting) (p : ℕ) → Contains ws x → x.page ≡ p → is_among ws p ≡ true
among_is [] x p inside is = absurd (omega (arith, inside.1))
among_is (w ∷ ws) x p (zero, less, same) is = ap (λ (b : Bool). b || is_among ws p) (eq-eqb p w.page (sym (ap (λ (y : Waiting). y.page) same ∙ is)))
among_is (w ∷ ws) x p (suc k, less, same) is = or_right (nat_eq p w.page) (is_among ws p) (among_is ws x p (k, omega (arith, less), same) is)

waits_in : (o : Option VolumeSpace) (v : VolumeSpace) (x : Waiting) → o ≡ Some v → IsSomeAnd o (λ v. Contains v.waiting x) → Contains v.waiting x
waits_in o v x is waits = subst (λ o. IsSomeAnd o (λ v. Contains v.waiting x)) is waits

in_waits : (o : Option VolumeSpace) (v : VolumeSpace) (x : Waiting) → o ≡ Some v → Contains v.waiting x → IsSomeAnd o (λ v. Contains v.waiting x)
in_waits o v x is waits = subst (λ o. IsSomeAnd o (λ v. Contains v.waiting x)) (sym is) waits

module _ (group count : ℕ) (d now : DomainNow) (files files_now : Files) (indexes : IndexesAt) (below : StandsBelow d files indexes) (alone : StandAlone d) (s : Releases group count d now files files_now) where
  abbrev it : DomainNow
  it = led group count d now files files_now indexes below alone s

  pub was_held : (h : Holder) (home : Home) → Holds it files_now indexes h home → Holds d files indexes h home
  was_held of_volume home is = is
  was_held of_log home is = is
  was_held of_table home is = is
  was_held of_cells home is = (is.0, on_was group count d now files files_now indexes below alone s home.vol home.page is.1)
  was_held (of_tags n) home is = is
  was_held (of_index at place) home is = is
  was_held (of_file at page) home is = (go group count d now files files_now indexes below alone s).had at page home is

  -- what a file held alone may be held for nothing then
  still_held : (P : Type 0) (h : Holder) (home : Home) → ((at : CellAt) (page : ℕ) → h ≡ of_file at page → P) → (Holds it files_now indexes h home → P) → Holds d files indexes h home → P
  still_held P of_volume home file same is = same is
  still_held P of_log home file same is = same is
  still_held P of_table home file same is = same is
  still_held P of_cells home file same is = same (is.0, on_now group count d now files files_now indexes below alone s home.vol home.page is.1)
  still_held P (of_tags n) home file same is = same is
  still_held P (of_index at place) home file same is = same is
  still_held P (of_file at page) home file same is = file at page refl

  unheld_now : (home : Home) → IsUnheld d files indexes home → IsUnheld it files_now indexes home
  unheld_now home none h is = none h (was_held h home is)

  -- ---- free space

  module _ (vol : ℕ) (low : 1 ≤ vol) (v w : VolumeSpace) (was : volume_of d.space vol ≡ Some v) (there : volume_of now.space vol ≡ Some w) (held : AreHeldOn d files indexes vol v) (keeps : KeepsUsed v w) where
    abbrev at : ℕ → Home
    at page = record { vol = vol; page = page }

    waits_on : (page : ℕ) → is_waiting v page ≡ true → is_waiting w page ≡ true
    waits_on page waits =
        let x = among_there v.waiting page waits in
        among_is w.waiting x.0 page
        (waits_in (volume_of now.space vol) w x.0 there (wait_still group d.frame.version (all_of d files) count (all_of now files_now) s.steps vol x.0 (in_waits (volume_of d.space vol) v x.0 was x.1)))
        x.2

    -- what comes to wait was a file's page, and is no file's any more
    record IsOfFile (page : ℕ) : Type 0 where
      start : CellAt
      place : ℕ
      held_was : Holds d files indexes (of_file start place) (at page)
      nowhere : (a : CellAt) (p : ℕ) → ¬ Holds it files_now indexes (of_file a p) (at page)

    since : (page : ℕ) (x : Waiting) → x.page ≡ page → WaitsSince group (all_of d files) (all_of now files_now) vol x → IsOfFile page
    since page x is waits = ⊎_elim
        (λ gone. subst IsOfFile (sym home_page) (let same = home_is in record {
          start = gone.at;
          place = gone.page;
          held_was = subst (λ (h : Home). Holds d files indexes (of_file gone.at gone.page) h) same (ap (λ o. option_map_or (λ cs. places_of cs gone.page) o Absent) gone.was ∙ gone.there);
          nowhere = λ a p there. gone.nowhere a p (subst (λ (h : Home). Holds it files_now indexes (of_file a p) h) (sym same) there);
        }))
        (λ off. absurd (off.2 (subst (λ (ps : List Home). Contains ps waits.home) (sym s.tag_pages) off.1)))
        waits.off
      where
        home_page : page ≡ waits.home.page
        home_page = sym is ∙ ap (λ (y : Waiting). y.page) waits.is

        home_is : waits.home ≡ at waits.home.page
        home_is = let same : waits.home.vol ≡ vol = sym waits.on in λ i. record { vol = same i; page = waits.home.page }

    waits_back : (page : ℕ) → is_waiting w page ≡ true → (is_waiting v page ≡ true) ⊎ IsOfFile page
    waits_back page waits =
        let x = among_there w.waiting page waits in
        ⊎_elim
        (λ before. inl (among_is v.waiting x.0 page (waits_in (volume_of d.space vol) v x.0 was before) x.2))
        (λ later. inr (since page x.0 x.2 later))
        (only_these_wait group d.frame.version (all_of d files) count (all_of now files_now) (well_was d files indexes below) s.steps vol x.0 low (in_waits (volume_of now.space vol) w x.0 there x.1))

    used_same : (page : ℕ) → contains w.used page ≡ contains v.used page
    used_same page = ap (λ u. contains u page) keeps.used

    free_then : (page : ℕ) → page < w.pages → contains w.used page ≡ false → IsUnheld it files_now indexes (at page) × (is_waiting w page ≡ false)
    free_then page within unused =
        let before : page < v.pages = (let p = keeps.pages in omega (arith, within, p)) in
        let free = (held.free page before).0 (sym (used_same page) ∙ unused) in (
          unheld_now (at page) free.0,
          ⊎_elim
              (λ waits. absurd (⊎_elim (λ then. both_ways (is_waiting v page) free.1 then) (λ f. free.0 (of_file f.start f.place) f.held_was) (waits_back page waits)))
              (λ settled. settled)
              (cases_Bool (is_waiting w page)),
        )

    unheld_was : (page : ℕ) → IsUnheld it files_now indexes (at page) → is_waiting w page ≡ false → IsUnheld d files indexes (at page)
    unheld_was page none settled h is = still_held ⊥ h (at page) (λ a p same. by_chain a p (files a) refl (subst (λ (x : Holder). Holds d files indexes x (at page)) same is)) (none h) is
      where
        by_chain : (a : CellAt) (p : ℕ) (o : Option (List PlacedCell)) → files a ≡ o → option_map_or (λ cs. places_of cs p) o Absent ≡ At (at page) → ⊥
        by_chain a p None is there = absent_not (at page) there
        by_chain a p (Some cs) is place =
            let gone : IsLetGo (all_of d files) (all_of now files_now) (at page) (use_of cs) = record { at = a; page = p; chain = cs; was = is; there = place; of_use = refl; nowhere = λ b q found. none (of_file b q) found } in
            both_ways (is_waiting w page) settled
            (among_is w.waiting (waiting_at (at page) (use_of cs) group) page
            (waits_in (volume_of now.space vol) w _ there (gone_waits group d.frame.version (all_of d files) count (all_of now files_now) (well_was d files indexes below) s.steps (at page) (use_of cs) gone)) refl)

    then_free : (page : ℕ) → page < w.pages → IsUnheld it files_now indexes (at page) × (is_waiting w page ≡ false) → contains w.used page ≡ false
    then_free page within is =
        let before : page < v.pages = (let p = keeps.pages in omega (arith, within, p)) in
        used_same page ∙ (held.free page before).1 (unheld_was page is.0 is.1, ⊎_elim (λ waits. absurd (both_ways (is_waiting w page) is.1 (waits_on page waits))) (λ settled. settled) (cases_Bool (is_waiting v page)))

    waits_unheld : (page : ℕ) → is_waiting w page ≡ true → IsUnheld it files_now indexes (at page)
    waits_unheld page waits h is = ⊎_elim
        (λ before. held.waits page before h (was_held h (at page) is))
        (λ f.
        let same : h ≡ of_file f.start f.place = below.owned.once (at page) h (of_file f.start f.place) (was_held h (at page) is) f.held_was in
        f.nowhere f.start f.place (subst (λ (x : Holder). Holds it files_now indexes x (at page)) same is))
        (waits_back page waits)

    held_now : AreHeldOn it files_now indexes vol w
    held_now = record {
      count = keeps.pages ∙ held.count;
      opened = ((λ open_now. held.opened.0 (sym keeps.opened ∙ open_now)), (λ state. keeps.opened ∙ held.opened.1 state));
      free = λ page within. (free_then page within, then_free page within);
      waits = waits_unheld;
    }

  spaces : (vol : ℕ) → 1 ≤ vol → AreHeldAt it files_now indexes vol (volume_of now.space vol)
  spaces vol low = by_volumes (volume_of d.space vol) (volume_of now.space vol) refl refl (below.owned.spaces vol low) ((go group count d now files files_now indexes below alone s).space vol)
    where
      by_volumes : (a b : Option VolumeSpace) → volume_of d.space vol ≡ a → volume_of now.space vol ≡ b → AreHeldAt d files indexes vol a → ThereKeeps a b → AreHeldAt it files_now indexes vol b
      by_volumes None None was there none keeps = none
      by_volumes None (Some w) was there none keeps = absurd keeps
      by_volumes (Some v) None was there held keeps = absurd keeps
      by_volumes (Some v) (Some w) was there held keeps = (held.0, held_now vol low v w was there held.1 keeps)

  pub led_owned : HoldsOwned it files_now indexes
  led_owned = record { once = λ home one other a b. below.owned.once home one other (was_held one home a) (was_held other home b); spaces = spaces }

  pub owned_goes : HoldsOwned now files_now indexes
  owned_goes = subst (λ (x : DomainNow). HoldsOwned x files_now indexes) (led_is group count d now files files_now indexes below alone s) led_owned
