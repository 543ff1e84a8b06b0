-- Runs in the order of their pages.
use Rattle.std.proofs.Common.{◌≡◌, ℕ, zero, suc, ◌-◌, ◌<◌, ◌≤◌, Bool, true, false, cond, ltb, leb, List, [], ◌∷◌, length, get_or, take, drop, refl, subst, ◌∙◌, arith}
use Rattle.std.specs.List.{AllByRecursion}
use Rattle.std.specs.Option.{IsSome}
use Rattle.domain_base.specs.Limits.{file_pages}
use Rattle.std.proofs.lemmas.Bool.{lt-ltb, le-leb, ltb-true, and_parts, and_from}
use Rattle.std.proofs.lemmas.List.{get_or_default}
use Rattle.extent_maps.specs.declared.run.Run.{Run}
use Rattle.extent_maps.specs.declared.run.PagePlace.TheVariants.{Absent}
use Rattle.extent_maps.specs.Runs.{AreRuns, BeginBehind, BeginUpTo, Has, IsRun, covers, end_of, home_at, behind, place_of, placed}

pub all_map : {P Q : Run → Type 0} → ((r : Run) → P r → Q r) → (runs : List Run) → AllByRecursion P runs → AllByRecursion Q runs
all_map h [] a = tt
all_map h (r ∷ rs) a = (h r a.0, all_map h rs a.1)

pub all_at : (P : Run → Type 0) (runs : List Run) (k : ℕ) (d : Run) → AllByRecursion P runs → k < length runs → P (get_or runs k d)
all_at P [] k d a within = absurd (omega arith)
all_at P (r ∷ rs) zero d a within = a.0
all_at P (r ∷ rs) (suc k) d a within = all_at P rs k d a.1 (omega arith)

-- the runs after one begin where it ends or later
pub behind_first : (run : Run) (runs : List Run) → AreRuns (run ∷ runs) → AllByRecursion (λ (r : Run). end_of run ≤ r.page) runs
behind_first run [] h = tt
behind_first run (next ∷ runs) h =
    (h.1.behind, all_map (λ r le. omega (arith, le, h.1.behind, h.2.0.some)) runs (behind_first next runs h.2))

pub covers_not_before : (run : Run) (page : ℕ) → page < run.page → covers run page ≡ false
covers_not_before run page lt = grind arith

pub covers_not_behind : (run : Run) (page : ℕ) → end_of run ≤ page → covers run page ≡ false
covers_not_behind run page le = grind arith

pub absent_before : (runs : List Run) (page : ℕ) → BeginBehind page runs → place_of runs page ≡ Absent
absent_before [] page h = refl
absent_before (r ∷ rs) page h = rw (covers_not_before r page h.0) (absent_before rs page h.1)

-- where the runs from the k-th on say that a page is, if that run begins at the page or before it
pub place_from : (runs : List Run) (k : ℕ) (d : Run) (page : ℕ) → AreRuns runs → k < length runs → (get_or runs k d).page ≤ page
    → place_of runs page ≡ place_of (get_or runs k d ∷ drop (suc k) runs) page
place_from [] k d page h within le = absurd (omega arith)
place_from (r ∷ rs) zero d page h within le = refl
place_from (r ∷ rs) (suc k) d page h within le =
    let from = all_at (λ (x : Run). end_of r ≤ x.page) rs k d (behind_first r rs h) (omega arith) in
    rw (covers_not_behind r page (omega (arith, from, le))) (place_from rs k d page h.2 (omega arith) le)

pub is_run_at : (runs : List Run) (k : ℕ) (d : Run) → AreRuns runs → k < length runs → IsRun (get_or runs k d)
is_run_at [] k d h within = absurd (omega arith)
is_run_at (r ∷ rs) zero d h within = h.0
is_run_at (r ∷ rs) (suc k) d h within = is_run_at rs k d h.2 (omega arith)

-- a later run begins after an earlier one
pub rising : (runs : List Run) (i j : ℕ) (d : Run) → AreRuns runs → i ≤ j → j < length runs → (get_or runs i d).page ≤ (get_or runs j d).page
rising [] i j d h le within = absurd (omega arith)
rising (r ∷ rs) zero zero d h le within = omega arith
rising (r ∷ rs) zero (suc j) d h le within = let from = all_at (λ (x : Run). end_of r ≤ x.page) rs j d (behind_first r rs h) (omega arith) in omega arith
rising (r ∷ rs) (suc i) zero d h le within = absurd (omega arith)
rising (r ∷ rs) (suc i) (suc j) d h le within = rising rs i j d h.2 (omega arith) (omega arith)

pub all_take : (P : Run → Type 0) (runs : List Run) (n : ℕ) → ((k : ℕ) (d : Run) → k < n → P (get_or runs k d)) → n ≤ length runs → AllByRecursion P (take n runs)
all_take P runs zero at within = tt
all_take P [] (suc n) at within = absurd (omega arith)
all_take P (r ∷ rs) (suc n) at within = (at zero r (omega arith), all_take P rs n (λ k d lt. at (suc k) d (omega arith)) (omega arith))

pub all_drop : (P : Run → Type 0) (runs : List Run) (n : ℕ) → ((k : ℕ) (d : Run) → n ≤ k → k < length runs → P (get_or runs k d)) → n ≤ length runs → AllByRecursion P (drop n runs)
all_drop P [] zero at within = tt
all_drop P (r ∷ rs) zero at within = (at zero r (omega arith) (omega arith), all_drop P rs zero (λ k d le lt. at (suc k) d (omega arith) (omega arith)) (omega arith))
all_drop P [] (suc n) at within = absurd (omega arith)
all_drop P (r ∷ rs) (suc n) at within = all_drop P rs n (λ k d le lt. at (suc k) d (omega arith) (omega arith)) (omega arith)

pub take_at : (P : Run → Type 0) (runs : List Run) (n k : ℕ) (d : Run) → AllByRecursion P (take n runs) → k < n → k < length runs → P (get_or runs k d)
take_at P runs zero k d a lt within = absurd (omega arith)
take_at P [] (suc n) k d a lt within = absurd (omega arith)
take_at P (r ∷ rs) (suc n) zero d a lt within = a.0
take_at P (r ∷ rs) (suc n) (suc k) d a lt within = take_at P rs n k d a.1 (omega arith) (omega arith)

-- a page that the last run which begins up to it does not have
pub absent_between : (runs : List Run) (n : ℕ) (d : Run) (page : ℕ) → AreRuns runs → n < length runs → BeginUpTo page (take (suc n) runs)
    → BeginBehind page (drop (suc n) runs) → end_of (get_or runs n d) ≤ page → place_of runs page ≡ Absent
absent_between runs n d page h within front back le =
    let begins = take_at (λ (r : Run). r.page ≤ page) runs (suc n) n d front (omega arith) within in
    place_from runs n d page h within begins ∙ rw (covers_not_behind (get_or runs n d) page le) (absent_before (drop (suc n) runs) page back)

-- the last run that begins up to a page has it, if it ends after it
pub has_at : (runs : List Run) (n : ℕ) (e : Run) (page : ℕ) → AreRuns runs → n < length runs → BeginUpTo page (take (suc n) runs)
    → page < end_of (get_or runs n e) → (d : Run) → Has page (get_or runs n d)
has_at runs n e page h within front lt d =
    subst (Has page) (get_or_default runs n e d within) (record {
      is_run = is_run_at runs n e h within;
      begins = take_at (λ (r : Run). r.page ≤ page) runs (suc n) n e front (omega arith) within;
      ends = lt;
    })

-- the place of a page that a run has
pub place_at : (runs : List Run) (n : ℕ) (d : Run) (page : ℕ) → AreRuns runs → n < length runs → Has page (get_or runs n d)
    → place_of runs page ≡ placed (behind (page - (get_or runs n d).page) (get_or runs n d).first)
place_at runs n d page h within has =
    let there : covers (get_or runs n d) page ≡ true = and_from (leb (get_or runs n d).page page) (ltb page (end_of (get_or runs n d))) (le-leb (get_or runs n d).page page has.begins) (lt-ltb page (end_of (get_or runs n d)) has.ends) in
    place_from runs n d page h within has.begins ∙ rw there refl

-- a page that has a home lies within a file's pages
pub small_if_there : (runs : List Run) (page : ℕ) → AreRuns runs → IsSome (home_at (place_of runs page)) → page < file_pages
small_if_there [] page h some = absurd cc
small_if_there (r ∷ rs) page h some = go (covers r page) refl (small_if_there rs page h.2)
  where
    go : (b : Bool) → covers r page ≡ b → (IsSome (home_at (place_of rs page)) → page < file_pages) → page < file_pages
    go true e rest =
        let b = and_parts (leb r.page page) (ltb page (end_of r)) e in
        omega (arith, ltb-true page (end_of r) b.1, h.0.ends)
    go false e rest = rest (subst (λ b. IsSome (home_at (cond b (placed (behind (page - r.page) r.first)) (place_of rs page)))) e some)
