-- Where the pages of a map end.
use Rattle.std.proofs.Common.{◌≡◌, ◌∙◌, ℕ, zero, ◌+◌, ◌-◌, ◌<◌, ◌≤◌, List, [], ◌∷◌, length, get_or, suc, refl, sym, ap, subst, arith}
use Rattle.fileset_files.specs.extent_maps.declared.run.Run.{Run}
use Rattle.fileset_files.specs.extent_maps.declared.run.PagePlace.TheVariants.{Absent}
use Rattle.fileset_files.specs.extent_maps.Runs.{AreRuns, Has, end_of, place_of}
use Rattle.fileset_files.proofs.OfExtentMaps.EditLemmas.{never_absent}
use Rattle.fileset_files.proofs.OfExtentMaps.RunLemmas.{absent_between, all_drop, all_take, is_run_at, place_at, rising}

module _ (runs : List Run) (last : ℕ) (d : Run) (are : AreRuns runs) (is_last : last + 1 ≡ length runs) where
  within : last < length runs
  within = omega (arith, is_last)

  pub end_behind : (page : ℕ) → end_of (get_or runs last d) ≤ page → place_of runs page ≡ Absent
  end_behind page behind =
      let run = is_run_at runs last d are within in
      absent_between runs last d page are within
      (all_take (λ (r : Run). r.page ≤ page) runs (suc last) (λ k e less.
      omega (arith, behind, run.some, rising runs k last e are (omega (arith, less)) within, first_same k e)) (omega (arith, within)))
      (all_drop (λ (r : Run). page < r.page) runs (suc last) (λ k e from below. absurd (omega (arith, from, below, is_last))) (omega (arith, within)))
      behind
    where
      first_same : (k : ℕ) (e : Run) → (get_or runs last e).page ≡ (get_or runs last d).page
      first_same k e = ap (λ (r : Run). r.page) (default_same runs last e d within)
        where
          default_same : (xs : List Run) (k : ℕ) (a b : Run) → k < length xs → get_or xs k a ≡ get_or xs k b
          default_same [] k a b below = absurd (omega (arith, below))
          default_same (x ∷ xs) zero a b below = refl
          default_same (x ∷ xs) (suc k) a b below = default_same xs k a b (omega (arith, below))

  pub end_there : place_of runs (end_of (get_or runs last d) - 1) ≡ Absent → ⊥
  end_there none =
      let run = is_run_at runs last d are within in
      let has : Has (end_of (get_or runs last d) - 1) (get_or runs last d) = record { is_run = run; begins = omega (arith, run.some); ends = omega (arith, run.some) } in
      never_absent _ (sym (place_at runs last d (end_of (get_or runs last d) - 1) are within has) ∙ none)

  pub end_small : end_of (get_or runs last d) ≤ 65536
  end_small = (is_run_at runs last d are within).ends

-- the same by the last run
module _ (runs : List Run) (last : ℕ) (run : Run) (are : AreRuns runs) (is_last : last + 1 ≡ length runs) (is : run ≡ get_or runs last run) where
  pub run_behind : (page : ℕ) → run.page + run.count ≤ page → place_of runs page ≡ Absent
  run_behind page behind = end_behind runs last run are is_last page (subst (λ (r : Run). end_of r ≤ page) is behind)

  pub run_there : place_of runs (run.page + run.count - 1) ≡ Absent → ⊥
  run_there none = end_there runs last run are is_last (subst (λ (r : Run). place_of runs (end_of r - 1) ≡ Absent) is none)

  pub run_small : run.page + run.count ≤ 65536
  run_small = subst (λ (r : Run). end_of r ≤ 65536) (sym is) (end_small runs last run are is_last)
