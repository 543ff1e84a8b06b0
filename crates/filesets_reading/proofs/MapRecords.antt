-- Records that the format allows say each page once, and place each that stands where one may.
use Rattle.std.proofs.Common.{◌≡◌, ◌∙◌, inl, inr, ℕ, zero, suc, ◌+◌, ◌-◌, ◌^◌, ◌<◌, ◌≤◌, Bool, true, false, cond, nat_eq, List, [], ◌∷◌, ◌++◌, refl, sym, ap, subst, arith, ⊎_elim}
use Rattle.std.proofs.lemmas.Bool.{cases_Bool, cases_lt, eqb-true}
use Rattle.std.specs.List.{AllByRecursion, flat_map}
use Rattle.domain_layout.specs.domain_base.declared.place.Home.{Home}
use Rattle.domain_layout.specs.log_ring.Homes.{IsMember, member_of}
use Rattle.domain_layout.specs.cell_records.Records.{Allowed, AreExtents, AreHoles, NoExtent, NoHole, kind_of}
use Rattle.domain_layout.specs.cell_records.declared.record.ExtentField.{ExtentField}
use Rattle.domain_layout.specs.cell_records.declared.record.HoleField.{HoleField}
use Rattle.domain_layout.specs.cell_records.declared.record.Record.{Record}
use Rattle.domain_layout.specs.cell_records.declared.record.Record.TheVariants as written
use Rattle.domain_layout.specs.extent_maps.Runs.{FitsVolume, behind, covers, end_of, place_of, placed}
use Rattle.domain_layout.specs.extent_maps.declared.run.PagePlace.TheVariants.{Absent, At, Hole}
use Rattle.domain_layout.specs.extent_maps.declared.run.Run.{Run}
use Rattle.domain_layout.specs.extent_maps.declared.run.RunPlace.{RunPlace}
use Rattle.domain_layout.specs.extent_maps.declared.run.RunPlace.TheVariants as place
use Rattle.domain_layout.proofs.OfExtentMaps.EditLemmas.{covers_from}
use Rattle.domain_layout.proofs.OfExtentMaps.RunLemmas.{covers_not_before, covers_not_behind}
use Rattle.domain_layout.specs.extent_records.Rows.{IsPlaced, NoPageTwice, OnVolume, holes_at, run_of, runs_at, runs_in, times}
use Rattle.domain_layout.specs.extent_records.Writing.{IsMapRecord, most_rows, places_in}
use Rattle.domain_layout.specs.Reached.{Frame, MayBe}

-- ---- runs that rise

-- each begins after the one before it, and ends with the last page that a file may have
abbrev pub RunsFrom : ℕ → List Run → Type 0
RunsFrom from [] = Unit {0}
RunsFrom from (run ∷ runs) = (from ≤ run.page) × (1 ≤ run.count) × (end_of run ≤ 65536) × RunsFrom (end_of run) runs

no_extents : (es : List ExtentField) → AllByRecursion NoExtent es → flat_map runs_at es ≡ []
no_extents [] none = refl
no_extents (e ∷ es) none = (λ i. cond (nat_eq (none.0.count i) 0) [] (run_of e ∷ []) ++ no_extents es none.1 i)

no_holes : (hs : List HoleField) → AllByRecursion NoHole hs → flat_map holes_at hs ≡ []
no_holes [] none = refl
no_holes (h ∷ hs) none = (λ i. cond (nat_eq (none.0.count i) 0) [] ((record { page = h.page; count = h.count; first = place.Holes }) ∷ []) ++ no_holes hs none.1 i)

not_zero : (n : ℕ) → 1 ≤ n → nat_eq n 0 ≡ false
not_zero n some = ⊎_elim (λ is. absurd (let e : n ≡ 0 = eqb-true n 0 is in omega (arith, some, e))) (λ not. not) (cases_Bool (nat_eq n 0))

extents_rise : (from : ℕ) (es : List ExtentField) → AreExtents from es → RunsFrom from (flat_map runs_at es)
extents_rise from [] are = tt
extents_rise from (e ∷ es) (inl (is, more)) =
    subst (λ b. RunsFrom from (cond b [] (run_of e ∷ []) ++ flat_map runs_at es)) (sym (not_zero e.count is.run.some))
    (is.run.begins, is.run.some, is.run.ends, extents_rise (e.page + e.count) es more)
extents_rise from (e ∷ es) (inr none) = subst (RunsFrom from) (sym (no_extents (e ∷ es) none)) tt

holes_rise : (from : ℕ) (hs : List HoleField) → AreHoles from hs → RunsFrom from (flat_map holes_at hs)
holes_rise from [] are = tt
holes_rise from (h ∷ hs) (inl (is, more)) =
    subst (λ b. RunsFrom from (cond b [] ((record { page = h.page; count = h.count; first = place.Holes }) ∷ []) ++ flat_map holes_at hs)) (sym (not_zero h.count is.some))
    (is.begins, is.some, is.ends, holes_rise (h.page + h.count) hs more)
holes_rise from (h ∷ hs) (inr none) = subst (RunsFrom from) (sym (no_holes (h ∷ hs) none)) tt

pub allowed_rise : (r : Record) → Allowed r → RunsFrom 0 (runs_in r)
unfolding Allowed
allowed_rise (written.Extents rows) is = extents_rise 0 rows is.1
allowed_rise (written.ShortExtents rows) is = extents_rise 0 rows is.1
allowed_rise (written.DenseExtents rows) is = extents_rise 0 rows is.1.0
allowed_rise (written.ShortDense rows) is = extents_rise 0 rows is.1.0
allowed_rise (written.Holes rows) is = holes_rise 0 rows is.1
allowed_rise _ is = tt

-- ---- each page once

no_times : (from : ℕ) (runs : List Run) (p : ℕ) → RunsFrom from runs → p < from → times runs p ≡ 0
no_times from [] p rise low = refl
no_times from (r ∷ rs) p rise low =
    let before : p < r.page = omega (arith, low, rise.0) in
    let tail : times rs p ≡ 0 = no_times (end_of r) rs p rise.3 (omega (arith, before)) in
    ap (λ b. cond b 1 0 + times rs p) (covers_not_before r p before) ∙ omega (arith, tail)

pub rising_once : (from : ℕ) (runs : List Run) → RunsFrom from runs → NoPageTwice runs
rising_once from [] rise p = omega arith
rising_once from (r ∷ rs) rise p =
    ⊎_elim (λ low. omega (arith, no_times (end_of r) rs p rise.3 low, most (covers r p)))
    (λ high. subst (λ b. cond b 1 0 + times rs p ≤ 1) (sym (covers_not_behind r p high)) (let tail = rising_once (end_of r) rs rise.3 p in omega (arith, tail))) (cases_lt p (end_of r))
  where
    most : (b : Bool) → cond b 1 0 ≤ 1
    most true = omega arith
    most false = omega arith

-- a page that no run has is absent, and one that a run has is not
pub some_times : (runs : List Run) (p : ℕ) → 1 ≤ times runs p → ¬ place_of runs p ≡ Absent
some_times [] p some absent = omega (arith, some)
some_times (r ∷ rs) p some absent = by_cover (covers r p) refl some absent (some_times rs p)
  where
    not_absent : (place : RunPlace) → ¬ placed place ≡ Absent
    not_absent (place.At home) is = let e : At home ≡ Absent = is in absurd (cc)
    not_absent place.Holes is = let e : Hole ≡ Absent = is in absurd (cc)

    by_cover : (b : Bool) → covers r p ≡ b → 1 ≤ cond b 1 0 + times rs p → cond b (placed (behind (p - r.page) r.first)) (place_of rs p) ≡ Absent
        → (1 ≤ times rs p → ¬ place_of rs p ≡ Absent) → ⊥
    by_cover true is some absent later = not_absent (behind (p - r.page) r.first) absent
    by_cover false is some absent later = later (omega (arith, some)) absent

-- ---- pages that stand where they may

module _ (frame : Frame) (small : (vol : ℕ) → IsMember frame.anchor vol → (member_of frame.anchor vol).pages ≤ 2 ^ 32) where
  -- what is said of a run that is in front
  first_page : (r : Run) (rs : List Run) → 1 ≤ r.count → place_of (r ∷ rs) r.page ≡ placed (behind 0 r.first)
  first_page r rs some =
      let zero_behind : r.page - r.page ≡ 0 = omega arith in
      ap (λ b. cond b (placed (behind (r.page - r.page) r.first)) (place_of rs r.page)) (covers_from r r.page (omega arith) (omega (arith, some)))
      ∙ ap (λ n. placed (behind n r.first)) zero_behind

  last_page : (r : Run) (rs : List Run) (n : ℕ) → r.count ≡ suc n → place_of (r ∷ rs) (r.page + n) ≡ placed (behind n r.first)
  last_page r rs n count =
      let offset : (r.page + n) - r.page ≡ n = omega arith in
      ap (λ b. cond b (placed (behind ((r.page + n) - r.page) r.first)) (place_of rs (r.page + n))) (covers_from r (r.page + n) (omega arith) (omega (arith, count)))
      ∙ ap (λ m. placed (behind m r.first)) offset

  run_placed : (r : Run) (rs : List Run) → 1 ≤ r.count → end_of r ≤ 65536 → ((p : ℕ) (home : Home) → place_of (r ∷ rs) p ≡ At home → MayBe frame home) → IsPlaced r
  run_placed r rs some ends may = by_first r.first refl
    where
      by_count : (home : Home) → r.first ≡ place.At home → (n : ℕ) → r.count ≡ n → home.page + r.count ≤ 2 ^ 32
      by_count home at zero count = omega (arith, some, count)
      by_count home at (suc n) count =
          let stands : place_of (r ∷ rs) (r.page + n) ≡ At (record { vol = home.vol; page = home.page + n }) = last_page r rs n count ∙ ap (λ f. placed (behind n f)) at in
          let within = (may (r.page + n) (record { vol = home.vol; page = home.page + n }) stands).0 in
          omega (arith, within.1, small home.vol within.0, count)

      by_first : (first : RunPlace) → r.first ≡ first → IsPlaced r
      by_first place.Holes at = record {
        is_run = record { some = some; ends = ends; homes = subst (FitsVolume r.count) (sym at) tt };
        volume = subst OnVolume (sym at) tt;
      }
      by_first (place.At home) at =
          let stands : place_of (r ∷ rs) r.page ≡ At (record { vol = home.vol; page = home.page + 0 }) = first_page r rs some ∙ ap (λ f. placed (behind 0 f)) at in
          let member = (may r.page (record { vol = home.vol; page = home.page + 0 }) stands).0.0 in
          record {
            is_run = record { some = some; ends = ends; homes = subst (FitsVolume r.count) (sym at) (by_count home at r.count refl) };
            volume = subst OnVolume (sym at) (member.first, member.last);
          }

  -- a page before all runs is in none
  absent_before : (from : ℕ) (runs : List Run) (p : ℕ) → RunsFrom from runs → p < from → place_of runs p ≡ Absent
  absent_before from [] p rise low = refl
  absent_before from (r ∷ rs) p rise low =
      let before : p < r.page = omega (arith, low, rise.0) in
      ap (λ b. cond b (placed (behind (p - r.page) r.first)) (place_of rs p)) (covers_not_before r p before)
      ∙ absent_before (end_of r) rs p rise.3 (omega (arith, before))

  runs_placed : (from : ℕ) (runs : List Run) → RunsFrom from runs → ((p : ℕ) (home : Home) → place_of runs p ≡ At home → MayBe frame home) → AllByRecursion IsPlaced runs
  runs_placed from [] rise may = tt
  runs_placed from (r ∷ rs) rise may = (run_placed r rs rise.1 rise.2 may, runs_placed (end_of r) rs rise.3 later)
    where
      later : (p : ℕ) (home : Home) → place_of rs p ≡ At home → MayBe frame home
      later p home at =
          ⊎_elim (λ low. absurd (let e : Absent ≡ At home = sym (absent_before (end_of r) rs p rise.3 low) ∙ at in absurd (cc)))
          (λ high. may p home (ap (λ b. cond b (placed (behind (p - r.page) r.first)) (place_of rs p)) (covers_not_behind r p high) ∙ at)) (cases_lt p (end_of r))

  pub map_record : (r : Record) → Allowed r → 1 ≤ most_rows (kind_of r) → ((p : ℕ) (home : Home) → places_in r p ≡ At home → MayBe frame home) → IsMapRecord r
  map_record r allowed some may = record {
    has_rows = some;
    allowed = allowed;
    placed = runs_placed 0 (runs_in r) (allowed_rise r allowed) may;
    once = rising_once 0 (runs_in r) (allowed_rise r allowed);
  }
