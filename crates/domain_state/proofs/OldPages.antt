-- Where a domain stands, it is decided of each home whether an old page is there: so old pages are counted.
use Rattle.std.proofs.Common.{◌≡◌, ◌∙◌, inl, inr, ℕ, ◌+◌, ◌<◌, ◌≤◌, ◌&&◌, Bool, true, false, not, List, Option, Some, None, Contains, length, refl, sym, subst, ⊎_elim}
use Rattle.std.proofs.lemmas.Bool.{and_from, and_parts, cases_Bool, not_from_false, not_from_true, true≢false}
use Rattle.std.specs.FinSet.{contains}
use Rattle.no_faults.specs.domain_base.Limits.{log_pages}
use Rattle.no_faults.specs.domain_base.declared.place.Home.{Home}
use Rattle.no_faults.specs.free_space.Spaces.{volume_of}
use Rattle.no_faults.specs.free_space.VolumeSpace.{VolumeSpace, is_waiting}
use Rattle.no_faults.specs.disk_label.declared.anchor.Anchor.{Anchor}
use Rattle.no_faults.specs.log_ring.Homes.{IsLogPage, IsMember, member_of}
use Rattle.no_faults.specs.fileset_model.Filesets.{FilesetMap}
use Rattle.no_faults.specs.domain_layout.Owners.{IsOwned}
use Rattle.no_faults.specs.domain_layout.Reached.{IsWithin, first_cells}
use Rattle.no_faults.specs.domain_standing.Domain.{DomainNow, layout_of}
use Rattle.no_faults.specs.domain_standing.Holders.{AreHeldAt, Holder, Holds, IsUnheld}
use Rattle.no_faults.specs.domain_standing.Standing.{StandsDomain}
use Rattle.no_faults.specs.standing_laws.Sound.{StandsSound}
use Rattle.no_faults.proofs.Owners.{held_for, owned_as}
use Rattle.domain_state.specs.Opening.{CountsOld, IsFixed, IsNoFiles, IsOldPage}
use Rattle.domain_state.proofs.Decided.{Decided, answer, answered, answers, at_most, both, either, is_there, is_true, less, not_so, one_number, same_as, stands_so}
use Rattle.domain_state.proofs.FileHomes.{file_homes, listed, only_files}
use Rattle.domain_state.proofs.HomeLists.{among_false, among_true, is_among}
use Rattle.domain_state.proofs.MemberHomes.{homes_of, in_homes, once_homes, to_homes}

-- a volume is a member
pub member_decided : (anchor : Anchor) (vol : ℕ) → Decided (IsMember anchor vol)
member_decided anchor vol =
    same_as (λ (is : (1 ≤ vol) × ((vol ≤ 8) × ((1 ≤ (member_of anchor vol).state) × ((member_of anchor vol).state ≤ 2)))). record { first = is.0; last = is.1.0; there = is.1.1.0; whole = is.1.1.1 })
    (λ is. (is.first, (is.last, (is.there, is.whole))))
    (both (at_most 1 vol) (both (at_most vol 8) (both (at_most 1 (member_of anchor vol).state) (at_most (member_of anchor vol).state 2))))

-- a page of a volume is used and does not wait
abbrev is_held_on : Option VolumeSpace → ℕ → Bool
is_held_on None page = false
is_held_on (Some v) page = contains v.used page && not (is_waiting v page)

module _ (d : DomainNow) (all : FilesetMap) (stands : StandsDomain d all) (sound : StandsSound d stands.files stands.indexes) where
  -- ---- what belongs to somebody is held, and what is held belongs to somebody

  abbrev IsFree : Home → Type 0
  IsFree home = IsUnheld d stands.files stands.indexes home

  held_on : (home : Home) (o : Option VolumeSpace) → AreHeldAt d stands.files stands.indexes home.vol o → IsWithin d.frame home → ¬ IsFree home → is_held_on o home.page ≡ true
  held_on home None away within some = absurd (away within.0)
  held_on home (Some v) of within some =
      let low : home.page < v.pages = subst (λ n. home.page < n) (sym of.1.count) within.1 in
      and_from (contains v.used home.page) (not (is_waiting v home.page))
      (⊎_elim (λ used. used) (λ unused. absurd (some ((of.1.free home.page low).0 unused).0)) (cases_Bool (contains v.used home.page)))
      (⊎_elim (λ waits. absurd (some (of.1.waits home.page waits))) (λ settled. not_from_false (is_waiting v home.page) settled) (cases_Bool (is_waiting v home.page)))

  some_holds : (home : Home) (o : Option VolumeSpace) → AreHeldAt d stands.files stands.indexes home.vol o → IsWithin d.frame home → is_held_on o home.page ≡ true → ¬ IsFree home
  some_holds home None away within held none = true≢false (sym held)
  some_holds home (Some v) of within held none =
      let low : home.page < v.pages = subst (λ n. home.page < n) (sym of.1.count) within.1 in
      let parts = and_parts (contains v.used home.page) (not (is_waiting v home.page)) held in
      let settled : is_waiting v home.page ≡ false =
      ⊎_elim (λ waits. absurd (true≢false (sym parts.1 ∙ not_from_true (is_waiting v home.page) waits))) (λ is. is) (cases_Bool (is_waiting v home.page)) in
      true≢false (sym parts.0 ∙ (of.1.free home.page low).1 (none, settled))

  abbrev is_held : Home → Bool
  is_held home = is_held_on (volume_of d.space home.vol) home.page

  owned_held : (home : Home) → IsWithin d.frame home → ¬ ¬ IsOwned d.pages (layout_of d) home → is_held home ≡ true
  owned_held home within owned =
      held_on home (volume_of d.space home.vol) (stands.owned.spaces home.vol within.0.first) within
      (λ none. owned (λ of. let held = held_for d all stands sound of.0 home of.1 in none held.0 held.1))

  held_owned : (home : Home) → IsWithin d.frame home → is_held home ≡ true → ¬ ¬ IsOwned d.pages (layout_of d) home
  held_owned home within held none =
      some_holds home (volume_of d.space home.vol) (stands.owned.spaces home.vol within.0.first) within held
      (λ holder of. none (owned_as d all stands sound holder home of))

  -- ---- an old page is one of a member's

  holder_within : (home : Home) → ¬ IsFixed d.pages (layout_of d) home → (holder : Holder) → Holds d stands.files stands.indexes holder home → IsWithin d.frame home
  holder_within home beside Holder.of_volume held = absurd (beside (inl held))
  holder_within home beside Holder.of_log held = absurd (beside (inr (inl held)))
  holder_within home beside Holder.of_table held = absurd (beside (inr (inr held)))
  holder_within home beside Holder.of_cells held = sound.within home Holder.of_cells (λ e. cc) (λ e. cc) held
  holder_within home beside (Holder.of_tags number) held = sound.within home (Holder.of_tags number) (λ e. cc) (λ e. cc) held
  holder_within home beside (Holder.of_index at place) held = sound.within home (Holder.of_index at place) (λ e. cc) (λ e. cc) held
  holder_within home beside (Holder.of_file at page) held = sound.within home (Holder.of_file at page) (λ e. cc) (λ e. cc) held

  within_decided : (home : Home) → Decided (IsWithin d.frame home)
  within_decided home = both (member_decided d.frame.anchor home.vol) (less home.page (member_of d.frame.anchor home.vol).pages)

  old_within : (home : Home) → IsOldPage d.pages (layout_of d) home → IsWithin d.frame home
  old_within home old =
      stands_so (within_decided home)
      (λ out. old.owned (λ owned. let held = held_for d all stands sound owned.0 home owned.1 in out (holder_within home old.beside held.0 held.1)))

  -- ---- whether one is there

  fixed_decided : (home : Home) → Decided (IsFixed d.pages (layout_of d) home)
  fixed_decided home =
      either (both (member_decided d.frame.anchor home.vol) (less home.page (first_cells d.frame home.vol)))
      (either (log_decided d.frame.anchor) (is_there d.frame.anchor.table home))
    where
      log_decided : (anchor : Anchor) → Decided (IsLogPage anchor home)
      log_decided anchor =
          same_as (λ (is : (home.vol ≡ anchor.log_vol) × ((anchor.log_page ≤ home.page) × (home.page < anchor.log_page + log_pages))). (is.0, is.1.0, is.1.1)) (λ is. (is.0, (is.1, is.2)))
          (both (one_number home.vol anchor.log_vol) (both (at_most anchor.log_page home.page) (less home.page (anchor.log_page + log_pages))))

  files_decided : (home : Home) → Decided (IsNoFiles d.pages d.table home)
  files_decided home =
      ⊎_elim (λ among. inr (λ none. let file = only_files d all stands home (among_true (file_homes stands.slots.shapes all) home among) in none file.number file.tag file.cells file.seen file.has file.kind file.page file.at))
      (λ other. inl (λ number tag cells seen has kind page at.
      among_false (file_homes stands.slots.shapes all) home other (listed d all stands home (record { number = number; tag = tag; cells = cells; seen = seen; page = page; has = has; kind = kind; at = at }))))
      (cases_Bool (is_among (file_homes stands.slots.shapes all) home))

  pub old_decided : (home : Home) → Decided (IsOldPage d.pages (layout_of d) home)
  old_decided home =
      ⊎_elim (λ within.
      same_as (λ (is : (is_held home ≡ true) × ((¬ IsFixed d.pages (layout_of d) home) × IsNoFiles d.pages d.table home)). record { owned = held_owned home within is.0; beside = is.1.0; no_files = is.1.1 })
      (λ old. (owned_held home within old.owned, (old.beside, old.no_files)))
      (both (is_true (is_held home)) (both (not_so (fixed_decided home)) (files_decided home))))
      (λ out. inr (λ old. out (old_within home old))) (within_decided home)

  -- ---- all of them

  abbrev is_old : Home → Bool
  is_old home = answer (old_decided home)

  abbrev size : ℕ → ℕ
  size vol = (member_of d.frame.anchor vol).pages

  pub old_homes : List Home
  old_homes = homes_of is_old size 8

  in_old : (home : Home) → Contains old_homes home → IsOldPage d.pages (layout_of d) home
  unfolding old_homes
  in_old home among = answered (old_decided home) (in_homes is_old size 8 home among).passes

  to_old : (home : Home) → IsOldPage d.pages (layout_of d) home → Contains old_homes home
  unfolding old_homes
  to_old home old =
      let within = old_within home old in
      to_homes is_old size 8 home (record { first = within.0.first; last = within.0.last; within = within.1; passes = answers (old_decided home) old })

  pub old_counted : CountsOld d.pages d.frame (length old_homes)
  unfolding old_homes
  old_counted = record {
    layout = layout_of d;
    same = refl;
    laid = stands.tables.laid;
    homes = old_homes;
    each = λ home. (in_old home, to_old home);
    once = once_homes is_old size 8;
    counted = refl;
  }
