-- Runs of a map one after the other.
use Rattle.std.proofs.Common.{◌≡◌, ◌∙◌, ◌⊎◌, inl, inr, ℕ, ◌+◌, ◌-◌, ◌<◌, ◌≤◌, true, cond, List, [], ◌∷◌, ◌++◌, length, get_or, take, drop, refl, sym, ap, subst, ⊎_elim}
use Rattle.std.proofs.lemmas.Bool.{cases_Bool}
use Rattle.std.proofs.lemmas.List.{take_more}
use Rattle.fileset_files.specs.domain_base.declared.place.Home.{Home}
use Rattle.fileset_files.specs.extent_maps.declared.run.PagePlace.{PagePlace}
use Rattle.fileset_files.specs.extent_maps.declared.run.PagePlace.TheVariants.{Absent, At, Hole}
use Rattle.fileset_files.specs.extent_maps.declared.run.Run.{Run}
use Rattle.fileset_files.specs.extent_maps.declared.run.RunPlace.TheVariants as place
use Rattle.fileset_files.specs.extent_maps.Runs.{AreRuns, Has, IsRun, behind, covers, end_of, place_of, placed}
use Rattle.fileset_files.proofs.OfExtentMaps.RunLemmas.{is_run_at, place_at}
use Rattle.fileset_files.proofs.OfExtentMaps.EditLemmas.{absent_after, around, covers_is, ends_before, over, place_append}
use Rattle.file_release.specs.Steps.{IsHomeFrom}
use Rattle.file_release.proofs.Given.{absent_home}

-- ---- one run

-- a page of one run with a home
pub record InRun (run : Run) (p : ℕ) (home : Home) : Type 0 where
  pub has : covers run p ≡ true
  pub begins : run.page ≤ p
  pub ends : p < end_of run
  pub there : placed (behind (p - run.page) run.first) ≡ At home

pub in_run : (run : Run) (p : ℕ) (home : Home) → place_of (run ∷ []) p ≡ At home → InRun run p home
in_run run p home there = ⊎_elim
    (λ has. record {
      has = has;
      begins = (covers_is run p has).0;
      ends = (covers_is run p has).1;
      there = ap (λ b. cond b (placed (behind (p - run.page) run.first)) Absent) (sym has) ∙ there;
    })
    (λ lacks. absurd (absent_home home refl (ap (λ b. cond b (placed (behind (p - run.page) run.first)) Absent) (sym lacks) ∙ there)))
    (cases_Bool (covers run p))

-- holes have no home
pub no_home : (run : Run) → run.first ≡ place.Holes → (p : ℕ) (home : Home) → ¬ place_of (run ∷ []) p ≡ At home
no_home run holes p home there = hole_not home (sym (ap (λ x. placed (behind (p - run.page) x)) holes) ∙ (in_run run p home there).there)
  where
    hole_not : (home : Home) → Hole ≡ At home → ⊥
    hole_not home e = cc

-- ---- a run of a map

module _ (runs : List Run) (are : AreRuns runs) (i : ℕ) (run : Run) (within : i < length runs) (is : run ≡ get_or runs i run) where
  pub is_run : IsRun run
  is_run = subst IsRun (sym is) (is_run_at runs i run are within)

  pub in_map : (p : ℕ) (home : Home) → place_of (run ∷ []) p ≡ At home → place_of runs p ≡ At home
  in_map p home there =
      let at = in_run run p home there in
      let has : Has p run = record { is_run = is_run; begins = at.begins; ends = at.ends } in
      subst (λ (r : Run). place_of runs p ≡ placed (behind (p - r.page) r.first)) (sym is) (place_at runs i run p are within (subst (Has p) is has)) ∙ at.there

  parts : runs ≡ take i runs ++ run ∷ drop (i + 1) runs
  parts = around runs i run within ∙ ap (λ (r : Run). take i runs ++ r ∷ drop (i + 1) runs) (sym is)

  -- the runs before it do not have its pages
  pub not_before : (p : ℕ) (home : Home) → place_of (run ∷ []) p ≡ At home → place_of (take i runs) p ≡ Absent
  not_before p home there = absent_after (take i runs) p run.page (ends_before (take i runs) run (drop (i + 1) runs) (subst AreRuns parts are)) (in_run run p home there).begins

  next_place : (p : ℕ) → place_of (take (i + 1) runs) p ≡ over (place_of (take i runs) p) (place_of (run ∷ []) p)
  next_place p =
      ap (λ (rs : List Run). place_of rs p) (take_more runs i run within ∙ ap (λ (r : Run). take i runs ++ r ∷ []) (sym is))
      ∙ place_append (take i runs) (run ∷ []) p

  either_at : (a b : PagePlace) (home : Home) → over a b ≡ At home → (a ≡ At home) ⊎ (b ≡ At home)
  either_at Absent b home e = inr e
  either_at (At x) b home e = inl e
  either_at Hole b home e = inl e

  over_first : (a b : PagePlace) (home : Home) → a ≡ At home → over a b ≡ At home
  over_first Absent b home e = absurd (absent_home home refl e)
  over_first (At x) b home e = e
  over_first Hole b home e = e

  pub in_front : (p : ℕ) (home : Home) → place_of (take i runs) p ≡ At home → place_of runs p ≡ At home
  in_front p home there =
      ap (λ (rs : List Run). place_of rs p) parts ∙ place_append (take i runs) (run ∷ drop (i + 1) runs) p
      ∙ over_first (place_of (take i runs) p) (place_of (run ∷ drop (i + 1) runs) p) home there

  -- no home stands in both, if none does twice in the map
  pub never_both : ((p q : ℕ) (h : Home) → place_of runs p ≡ At h → place_of runs q ≡ At h → p ≡ q) → (p q : ℕ) (home : Home) → place_of (take i runs) p ≡ At home → place_of (run ∷ []) q ≡ At home → ⊥
  never_both once p q home first second =
      let same : q ≡ p = once q p home (in_map q home second) (in_front p home first) in
      absent_home home (ap (place_of (take i runs)) (sym same) ∙ not_before q home second) first

  module _ (from : ℕ) (home : Home) where
    pub next_either : IsHomeFrom from (place_of (take (i + 1) runs)) home → IsHomeFrom from (place_of (take i runs)) home ⊎ IsHomeFrom from (place_of (run ∷ [])) home
    next_either w = ⊎_elim
        (λ first. inl (record { page = w.page; begins = w.begins; there = first }))
        (λ second. inr (record { page = w.page; begins = w.begins; there = second }))
        (either_at (place_of (take i runs) w.page) (place_of (run ∷ []) w.page) home (sym (next_place w.page) ∙ w.there))

    pub next_first : IsHomeFrom from (place_of (take i runs)) home → IsHomeFrom from (place_of (take (i + 1) runs)) home
    next_first w = record {
      page = w.page;
      begins = w.begins;
      there = next_place w.page ∙ over_first (place_of (take i runs) w.page) (place_of (run ∷ []) w.page) home w.there;
    }

    pub next_second : IsHomeFrom from (place_of (run ∷ [])) home → IsHomeFrom from (place_of (take (i + 1) runs)) home
    next_second w = record {
      page = w.page;
      begins = w.begins;
      there = next_place w.page ∙ ap (λ (a : PagePlace). over a (place_of (run ∷ []) w.page)) (not_before w.page home w.there) ∙ w.there;
    }

    pub next_apart : ((p q : ℕ) (h : Home) → place_of runs p ≡ At h → place_of runs q ≡ At h → p ≡ q) → IsHomeFrom from (place_of (take i runs)) home → IsHomeFrom from (place_of (run ∷ [])) home → ⊥
    next_apart once first second = never_both once first.page second.page home first.there second.there
