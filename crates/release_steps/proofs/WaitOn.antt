-- Pages that wait.
use Rattle.std.proofs.Common.{◌≡◌, ◌∙◌, ℕ, ◌-◌, Bool, true, false, List, [], ◌∷◌, get_or, nat_eq, Option, Some, None, IsSomeAnd, Contains, refl, sym, ap, subst, ⊎_elim}
use Rattle.std.proofs.lemmas.Bool.{both_ways, eq-eqb, eqb-true}
use Rattle.std.specs.Option.{option_map}
use Rattle.release_list.specs.domain_base.declared.place.Home.{Home}
use Rattle.release_list.specs.domain_base.declared.version.Version.{Version}
use Rattle.release_list.specs.page_store.Pages.{Pages}
use Rattle.release_list.specs.metadata_cells.Chain.{PlacedCell}
use Rattle.release_list.specs.extent_maps.Runs.{Places}
use Rattle.release_list.specs.free_cells.Cells.{Cells}
use Rattle.release_list.specs.free_space.declared.waiting.PageUse.{PageUse}
use Rattle.release_list.specs.free_space.declared.waiting.Waiting.{Waiting}
use Rattle.release_list.specs.free_space.VolumeSpace.{VolumeSpace, with_page, with_waiting}
use Rattle.release_list.specs.free_space.Spaces.{Spaces, change_volume, volume_of}
use Rattle.release_list.proofs.OfFreeSpace.Places.{volume_of-change_other, volume_of-change_same}
use Rattle.release_list.specs.file_chains.Files.{places_of}
use Rattle.release_list.specs.file_release.Releases.{TakesForReader, with_given}
use Rattle.release_list.specs.Steps.{Now, Step, Steps, file_ends, more, none, pages_go, quota_goes, reading_ends, tag_page_goes, trim_ends}
use Rattle.release_list.proofs.Lists.{in_start}
use Rattle.release_steps.specs.Waits.{Waits}

-- what holds of each volume still holds, if a change of one keeps it
module _ (P : VolumeSpace → Type 0) where
  kept_by : (change : VolumeSpace → VolumeSpace) → ((v : VolumeSpace) → P v → P (change v)) → (o : Option VolumeSpace) → IsSomeAnd o P → IsSomeAnd (option_map change o) P
  kept_by change keeps None has = has
  kept_by change keeps (Some v) has = keeps v has

  pub changed : (change : VolumeSpace → VolumeSpace) → ((v : VolumeSpace) → P v → P (change v)) → (s : Spaces) (vol other : ℕ) → IsSomeAnd (volume_of s other) P → IsSomeAnd (volume_of (change_volume change s vol) other) P
  changed change keeps s vol other has = by_test (nat_eq (other - 1) (vol - 1)) refl
    where
      by_test : (b : Bool) → nat_eq (other - 1) (vol - 1) ≡ b → IsSomeAnd (volume_of (change_volume change s vol) other) P
      by_test true is =
          let same = eqb-true (other - 1) (vol - 1) is in
          let there : volume_of (change_volume change s vol) other ≡ option_map change (volume_of s other) =
          ap (λ i. get_or (change_volume change s vol).volumes i None) same ∙ volume_of-change_same change s vol ∙ ap (λ i. option_map change (get_or s.volumes i None)) (sym same) in
          subst (λ o. IsSomeAnd o P) (sym there) (kept_by change keeps (volume_of s other) has)
      by_test false differ = subst (λ o. IsSomeAnd o P) (sym (volume_of-change_other change s vol other (λ same. both_ways (nat_eq (other - 1) (vol - 1)) differ (eq-eqb (other - 1) (vol - 1) same)))) has

  -- pages that are used or wait from now on
  module _ (used : (p : ℕ) (v : VolumeSpace) → P v → P (with_page p v)) (waits : (w : Waiting) (v : VolumeSpace) → P v → P (with_waiting w v)) where
    pub given_keeps : (kind : PageUse) (group : ℕ) (homes : List Home) (s : Spaces) (vol : ℕ) → IsSomeAnd (volume_of s vol) P → IsSomeAnd (volume_of (with_given kind group homes s) vol) P
    given_keeps kind group [] s vol has = has
    given_keeps kind group (x ∷ xs) s vol has = changed (with_waiting (record { page = x.page; kind = kind; group = group })) (waits (record { page = x.page; kind = kind; group = group })) (with_given kind group xs s) x.vol vol (given_keeps kind group xs s vol has)

    pub taken_keeps : (own : List PlacedCell) (own_now source : Places) (s t : Spaces) (cells cells_now : Cells) (old : Pages) → TakesForReader own own_now source s t cells cells_now old → (vol : ℕ) → IsSomeAnd (volume_of s vol) P → IsSomeAnd (volume_of t vol) P
    taken_keeps own own_now source s t cells cells_now old taken vol has = ⊎_elim
        (λ same. subst (λ (x : Spaces). IsSomeAnd (volume_of x vol) P) (sym same.0) has)
        (λ one. ⊎_elim
        (λ same. subst (λ (x : Spaces). IsSomeAnd (volume_of x vol) P) (sym same.0) has)
        (λ takes. ⊎_elim
        (λ had. subst (λ (x : Spaces). IsSomeAnd (volume_of x vol) P) (sym had.same_space) has)
        (λ new. subst (λ (x : Spaces). IsSomeAnd (volume_of x vol) P) (sym new.adds.used) (changed (with_page new.home.page) (used new.home.page) s new.home.vol vol has))
        takes.1.takes.before)
        one.taken)
        taken

    pub step_keeps : (group : ℕ) (version : Version) (old new : Now) → Step group version old new → (vol : ℕ) → IsSomeAnd (volume_of old.space vol) P → IsSomeAnd (volume_of new.space vol) P
    step_keeps group version old new (pages_go s) vol has =
        subst (λ (x : Spaces). IsSomeAnd (volume_of x vol) P) (sym s.releases.given.is)
        (given_keeps _ group s.releases.given.homes s.releases.space_between vol
        (taken_keeps s.own (places_of s.releases.own_now) (places_of s.chain) old.space s.releases.space_between old.cells s.releases.cells_between old.pages s.releases.taken vol has))
    step_keeps group version old new (quota_goes s) vol has = subst (λ (x : Spaces). IsSomeAnd (volume_of x vol) P) (sym s.same_space) has
    step_keeps group version old new (trim_ends s) vol has = subst (λ (x : Spaces). IsSomeAnd (volume_of x vol) P) (sym s.same_space) has
    step_keeps group version old new (reading_ends s) vol has = subst (λ (x : Spaces). IsSomeAnd (volume_of x vol) P) (sym s.same_space) has
    step_keeps group version old new (file_ends s) vol has = subst (λ (x : Spaces). IsSomeAnd (volume_of x vol) P) (sym s.same_space) has
    step_keeps group version old new (tag_page_goes s) vol has =
        subst (λ (x : Spaces). IsSomeAnd (volume_of x vol) P) (sym s.takes.waits) (changed (with_waiting _) (waits _) old.space s.takes.home.vol vol has)

    steps_keep : (group : ℕ) (version : Version) (first : Now) (count : ℕ) (last : Now) → Steps group version first count last → (vol : ℕ) → IsSomeAnd (volume_of first.space vol) P → IsSomeAnd (volume_of last.space vol) P
    steps_keep group version first count last steps vol has =
        elim steps as (λ count last steps. IsSomeAnd (volume_of last.space vol) P) [
          | none ↦ has
          | more n between last (steps → was) step ↦ step_keeps group version between last step vol was
        ]

pub wait_still : (group : ℕ) (version : Version) (first : Now) (count : ℕ) (last : Now) → Steps group version first count last → (vol : ℕ) (page : Waiting) → Waits first.space vol page → Waits last.space vol page
wait_still group version first count last steps vol page has =
    steps_keep (λ v. Contains v.waiting page) (λ p v inside. inside) (λ w v inside. in_start v.waiting (w ∷ []) page inside) group version first count last steps vol has
