-- Runs without a gap before a page.
use Rattle.std.proofs.Common.{◌≡◌, ◌∙◌, ℕ, suc, ◌+◌, ◌-◌, ◌<◌, ◌≤◌, List, length, get_or, take, drop, sym, ap, subst, arith, ⊎_elim}
use Rattle.std.proofs.lemmas.Bool.{cases_lt}
use Rattle.fileset_files.specs.extent_maps.declared.run.Run.{Run}
use Rattle.fileset_files.specs.extent_maps.declared.run.PagePlace.TheVariants.{Absent}
use Rattle.fileset_files.specs.extent_maps.Runs.{AreRuns, BeginBefore, BeginFrom, Has, IsRun, end_of, place_of}
use Rattle.fileset_files.proofs.OfExtentMaps.EditLemmas.{never_absent, run_at}
use Rattle.fileset_files.proofs.OfExtentMaps.RunLemmas.{absent_before, absent_between, all_drop, all_map, all_take, is_run_at, place_at, rising, take_at}

-- runs have each page from one on and before another, and those from a place on begin there
-- or later
pub record AreGapless (runs : List Run) (i begin to : ℕ) : Type 0 where
  pub within : begin ≤ to
  pub there : (page : ℕ) → begin ≤ page → page < to → ¬ place_of runs page ≡ Absent
  pub later : BeginFrom begin (drop i runs)

pub no_pages : (runs : List Run) (n to : ℕ) → BeginFrom to (drop n runs) → AreGapless runs n to to
no_pages runs n to back = record {
  within = omega arith;
  there = λ page begins ends. absurd (omega (arith, begins, ends));
  later = back;
}

-- where the first begins
pub none_before : (runs : List Run) (i begin to : ℕ) → 1 ≤ begin → i ≡ 0 → AreGapless runs i begin to → place_of runs (begin - 1) ≡ Absent
none_before runs i begin to some none g = absent_before runs (begin - 1) (all_map (λ (r : Run) from. omega (arith, from, some)) runs (subst (λ n. BeginFrom begin (drop n runs)) none g.later))

module _ (runs : List Run) (are : AreRuns runs) (i : ℕ) (run : Run) (within : i < length runs) (is : run ≡ get_or runs i run) (begin to : ℕ) (g : AreGapless runs (i + 1) begin to) where
  next : suc i ≡ i + 1
  next = omega arith

  run_is : (d : Run) → get_or runs i d ≡ run
  run_is d = run_at runs i run d within is

  -- a run that ends before them leaves a gap
  pub gap_before : end_of run < begin → place_of runs (begin - 1) ≡ Absent
  gap_before ends =
      absent_between runs i run (begin - 1) are within
      (all_take (λ (r : Run). r.page ≤ begin - 1) runs (suc i) (λ k d less.
      let up = rising runs k i d are (omega (arith, less)) within in
      let run_k : IsRun (get_or runs i d) = is_run_at runs i d are within in
      let same : end_of (get_or runs i d) ≡ end_of run = ap end_of (run_is d) in
      omega (arith, up, run_k.some, same, ends)) (omega (arith, within)))
      (all_map (λ (r : Run) from. omega (arith, from, ends)) (drop (suc i) runs) (subst (λ n. BeginFrom begin (drop n runs)) (sym next) g.later))
      (subst (λ (r : Run). end_of r ≤ begin - 1) is (omega (arith, ends)))

  -- and one that does not has the pages in front
  pub goes_down : begin ≤ end_of run → run.page ≤ to → AreGapless runs i run.page to
  goes_down reaches low = record {
    within = low;
    there = λ page begins ends. ⊎_elim
        (λ before.
        let has : Has page run = record { is_run = subst IsRun (sym is) (is_run_at runs i run are within); begins = begins; ends = omega (arith, before, reaches) } in
        λ none. never_absent _ (sym (place_at runs i run page are within (subst (Has page) is has)) ∙ none))
        (λ behind. g.there page behind ends)
        (cases_lt page begin);
    later = all_drop (λ (r : Run). run.page ≤ r.page) runs i (λ k d from below.
        let up = rising runs i k d are from below in
        let same : (get_or runs i d).page ≡ run.page = ap (λ (r : Run). r.page) (run_is d) in
        omega (arith, up, same)) (omega (arith, within));
  }

-- the same of the run before a place
module _ (runs : List Run) (are : AreRuns runs) (n : ℕ) (run : Run) (some : 1 ≤ n) (within : n ≤ length runs) (is : run ≡ get_or runs (n - 1) run) where
  inside : n - 1 < length runs
  inside = omega (arith, some, within)

  pub run_of : IsRun run
  run_of = subst IsRun (sym is) (is_run_at runs (n - 1) run are inside)

  module _ (begin to : ℕ) (g : AreGapless runs n begin to) where
    behind_it : AreGapless runs (n - 1 + 1) begin to
    behind_it = subst (λ k. AreGapless runs k begin to) (omega (arith, some)) g

    pub gap_below : end_of run < begin → place_of runs (begin - 1) ≡ Absent
    gap_below ends = gap_before runs are (n - 1) run inside is begin to behind_it ends

    pub goes_on_down : (count : ℕ) → n ≤ count → count ≤ length runs → BeginBefore to (take count runs) → begin ≤ end_of run → AreGapless runs (n - 1) run.page to
    goes_on_down count less all front reaches =
        let low : (get_or runs (n - 1) run).page < to = take_at (λ (r : Run). r.page < to) runs count (n - 1) run front (omega (arith, some, less)) inside in
        let same : (get_or runs (n - 1) run).page ≡ run.page = ap (λ (r : Run). r.page) (sym is) in
        goes_down runs are (n - 1) run inside is begin to behind_it reaches (omega (arith, low, same))
