-- Which runs have room for another.
use Rattle.std.proofs.Common.{◌≡◌, ℕ, ◌-◌, ◌<◌, ◌≤◌, Bool, true, false, cond, leb, List, [], ◌∷◌, take, drop, refl, sym, ap, ◌∙◌, inl, inr, arith}
use Rattle.std.proofs.lemmas.Bool.{cases_Bool, leb-true, leb-false}
use Rattle.std.proofs.lemmas.List.{take-append-drop}
use Rattle.extent_maps.specs.declared.run.Run.{Run}
use Rattle.extent_maps.specs.declared.run.PagePlace.TheVariants.{Absent}
use Rattle.extent_maps.specs.Runs.{AreRuns, BeginBefore, BeginFrom, EndUpTo, IsFree, IsRun, behind, covers, end_of, place_of, placed}
use Rattle.extent_maps.proofs.RunLemmas.{absent_before, all_map}
use Rattle.extent_maps.proofs.EditLemmas.{absent_after, absent_in_front, covers_from, covers_is, never_absent, place_append, take_runs}

-- no run has a page of one that begins where those before a place end, and ends where those after
-- it begin
pub free_between : (runs : List Run) (at : ℕ) (run : Run) → EndUpTo run.page (take at runs) → BeginFrom (end_of run) (drop at runs) → IsFree run runs
free_between runs at run ends begins p e =
    let is = covers_is run p e in
    let front : place_of (take at runs) p ≡ Absent = absent_after (take at runs) p run.page ends is.0 in
    let back : place_of (drop at runs) p ≡ Absent = absent_before (drop at runs) p (all_map {P = λ (x : Run). end_of run ≤ x.page} {Q = λ (x : Run). p < x.page} (λ x le. omega (arith, le, is.1)) (drop at runs) begins) in
    ap (λ l. place_of l p) (sym (take-append-drop at runs)) ∙ place_append (take at runs) (drop at runs) p ∙ rw (front, back) refl

-- a page that two runs have
meets_first : (run x : Run) (xs : List Run) → IsRun run → IsRun x → x.page < end_of run → IsFree run (x ∷ xs) → end_of x ≤ run.page
meets_first run x xs is there begins free = go (leb (end_of x) run.page) refl (leb run.page x.page) refl
  where
    taken : (p : ℕ) → covers run p ≡ true → covers x p ≡ true → end_of x ≤ run.page
    taken p a b = absurd (never_absent (behind (p - x.page) x.first) (ap (λ b. cond b (placed (behind (p - x.page) x.first)) (place_of xs p)) (sym b) ∙ free p a))

    go : (a : Bool) → leb (end_of x) run.page ≡ a → (b : Bool) → leb run.page x.page ≡ b → end_of x ≤ run.page
    go true e b eb = leb-true (end_of x) run.page e
    go false e true eb = taken x.page (covers_from run x.page (leb-true run.page x.page eb) begins) (covers_from x x.page (omega arith) (omega (arith, there.some)))
    go false e false eb = taken run.page (covers_from run run.page (omega arith) (omega (arith, is.some)))
        (covers_from x run.page (omega (arith, leb-false run.page x.page eb)) (leb-false (end_of x) run.page e))

pub free_ends : (run : Run) (runs : List Run) → IsRun run → AreRuns runs → BeginBefore (end_of run) runs → IsFree run runs → EndUpTo run.page runs
free_ends run [] is h begins free = tt
free_ends run (x ∷ xs) is h begins free = (meets_first run x xs is h.0 begins.0 free, free_ends run xs is h.2 begins.1 rest)
  where
    rest : IsFree run xs
    rest p a = elim (cases_Bool (covers x p)) [
      | inl has ↦ absurd (never_absent (behind (p - x.page) x.first) (ap (λ b. cond b (placed (behind (p - x.page) x.first)) (place_of xs p)) (sym has) ∙ free p a))
      | inr lacks ↦ ap (λ b. cond b (placed (behind (p - x.page) x.first)) (place_of xs p)) (sym lacks) ∙ free p a
    ]

pub free_front : (runs : List Run) (at : ℕ) (run : Run) → IsRun run → AreRuns runs → BeginBefore (end_of run) (take at runs) → IsFree run runs → EndUpTo run.page (take at runs)
free_front runs at run is h begins free = free_ends run (take at runs) is (take_runs runs at h) begins (λ p a. absent_in_front runs at p (free p a))
