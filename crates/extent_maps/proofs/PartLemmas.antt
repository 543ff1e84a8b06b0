-- Runs parted at a page.
use Rattle.std.proofs.Common.{◌≡◌, ℕ, zero, suc, ◌+◌, ◌-◌, ◌<◌, ◌≤◌, Bool, true, false, cond, ltb, List, [], ◌∷◌, ◌++◌, length, get_or, slice_set, take, drop, refl, sym, ap, subst, ◌∙◌, arith}
use Rattle.std.proofs.lemmas.Bool.{ltb-true, ltb-false}
use Rattle.std.proofs.lemmas.List.{take-append-drop}
use Rattle.extent_maps.specs.declared.run.Run.{Run}
use Rattle.extent_maps.specs.declared.run.PagePlace.{PagePlace}
use Rattle.extent_maps.specs.declared.run.PagePlace.TheVariants.{Absent}
use Rattle.extent_maps.specs.Runs.{AreRuns, BeginFrom, EndUpTo, IsPartedAt, behind, covers, end_of, front_of, place_of, placed, rest_from}
use Rattle.extent_maps.proofs.RunLemmas.{absent_before, all_map, behind_first, covers_not_before, covers_not_behind}
use Rattle.extent_maps.proofs.EditLemmas.{absent_after, append, around, back_of, behind_twice, covers_from, covers_is, drop_runs, ends_before, front_is_run, front_of_list, meets_changed, meets_of, over, place_append, rest_follows, rest_is_run, set_here, take_next, take_runs}

absent_from : (runs : List Run) (from p : ℕ) → BeginFrom from runs → p < from → place_of runs p ≡ Absent
absent_from runs from p begin lt = absent_before runs p (all_map {P = λ (x : Run). from ≤ x.page} {Q = λ (x : Run). p < x.page} (λ x le. omega (arith, lt, le)) runs begin)

-- where no run reaches over the page
pub parted_between : (runs : List Run) (at from : ℕ) → AreRuns runs → EndUpTo from (take at runs) → BeginFrom from (drop at runs) → IsPartedAt from runs (take at runs) (drop at runs)
parted_between runs at from h ends begins = record {
  front_runs = take_runs runs at h;
  tail_runs = drop_runs runs at h;
  front_places = λ p. front p (ltb p from) refl;
  tail_places = λ p. tail p (ltb p from) refl;
}
  where
    whole : (p : ℕ) → place_of runs p ≡ over (place_of (take at runs) p) (place_of (drop at runs) p)
    whole p = ap (λ l. place_of l p) (sym (take-append-drop at runs)) ∙ place_append (take at runs) (drop at runs) p

    over_none : (a : PagePlace) → over a Absent ≡ a
    over_none a = grind arith

    front : (p : ℕ) (b : Bool) → ltb p from ≡ b → place_of (take at runs) p ≡ cond (ltb p from) (place_of runs p) Absent
    front p true e =
        let none = absent_from (drop at runs) from p begins (ltb-true p from e) in
        rw e (sym (over_none (place_of (take at runs) p)) ∙ ap (over (place_of (take at runs) p)) (sym none) ∙ sym (whole p))
    front p false e = rw e (absent_after (take at runs) p from ends (ltb-false p from e))

    tail : (p : ℕ) (b : Bool) → ltb p from ≡ b → place_of (drop at runs) p ≡ cond (ltb p from) Absent (place_of runs p)
    tail p true e = rw e (absent_from (drop at runs) from p begins (ltb-true p from e))
    tail p false e =
        let none = absent_after (take at runs) p from ends (ltb-false p from e) in
        rw e (ap (λ a. over a (place_of (drop at runs) p)) (sym none) ∙ sym (whole p))

-- where a run reaches over it
parted_run : (front : List Run) (run : Run) (rest : List Run) (o : ℕ) → AreRuns (front ++ run ∷ rest) → 0 < o → o < run.count
    → IsPartedAt (run.page + o) (front ++ run ∷ rest) (front ++ front_of o run ∷ []) (rest_from o run ∷ rest)
parted_run front run rest o h some lt = record {
  front_runs = append front (front_of o run ∷ []) before (front_is_run o run back.0 some lt, tt, tt)
      (meets_changed front (run ∷ rest) (front_of o run ∷ []) (λ x is f. record { behind = f.behind; apart = f.apart }) before (meets_of front (run ∷ rest) h));
  tail_runs = (rest_is_run o run back.0 lt, rest_follows o run rest lt back.1, back.2);
  front_places = λ p. in_front p (ltb p (run.page + o)) refl (covers run p) refl;
  tail_places = λ p. in_tail p (ltb p (run.page + o)) refl (covers run p) refl;
}
  where
    back : AreRuns (run ∷ rest)
    back = back_of front (run ∷ rest) h

    before : AreRuns front
    before = front_of_list front (run ∷ rest) h

    all : (p : ℕ) → place_of (front ++ run ∷ rest) p ≡ over (place_of front p) (place_of (run ∷ rest) p)
    all p = place_append front (run ∷ rest) p

    none_behind : (p : ℕ) → p < end_of run → place_of rest p ≡ Absent
    none_behind p lt = absent_from rest (end_of run) p (behind_first run rest back) lt

    none_before : (p : ℕ) → run.page ≤ p → place_of front p ≡ Absent
    none_before p le = absent_after front p run.page (ends_before front run rest h) le

    in_front : (p : ℕ) (b : Bool) → ltb p (run.page + o) ≡ b → (c : Bool) → covers run p ≡ c → place_of (front ++ front_of o run ∷ []) p ≡ cond (ltb p (run.page + o)) (place_of (front ++ run ∷ rest) p) Absent
    in_front p true e true ec =
        let lower = ltb-true p (run.page + o) e in
        let has : covers (front_of o run) p ≡ true = covers_from (front_of o run) p (covers_is run p ec).0 lower in
        rw e (place_append front (front_of o run ∷ []) p ∙ rw (has, all p, ec) refl)
    in_front p true e false ec =
        let lower = ltb-true p (run.page + o) e in
        let lacks : covers (front_of o run) p ≡ false = grind (arith, ec, lower, lt) in
        rw e (place_append front (front_of o run ∷ []) p ∙ rw (lacks, all p, ec, none_behind p (omega (arith, lower, lt))) refl)
    in_front p false e c ec =
        let upper = ltb-false p (run.page + o) e in
        let lacks : covers (front_of o run) p ≡ false = covers_not_behind (front_of o run) p upper in
        rw e (place_append front (front_of o run ∷ []) p ∙ rw (lacks, none_before p (omega (arith, upper))) refl)

    in_tail : (p : ℕ) (b : Bool) → ltb p (run.page + o) ≡ b → (c : Bool) → covers run p ≡ c → place_of (rest_from o run ∷ rest) p ≡ cond (ltb p (run.page + o)) Absent (place_of (front ++ run ∷ rest) p)
    in_tail p true e c ec =
        let lower = ltb-true p (run.page + o) e in
        let lacks : covers (rest_from o run) p ≡ false = covers_not_before (rest_from o run) p lower in
        rw (e, lacks) (none_behind p (omega (arith, lower, lt)))
    in_tail p false e true ec =
        let upper = ltb-false p (run.page + o) e in
        let in_run = covers_is run p ec in
        let has : covers (rest_from o run) p ≡ true = covers_from (rest_from o run) p upper (omega (arith, in_run.1, lt)) in
        let far : o + (p - (run.page + o)) ≡ p - run.page = omega (arith, upper) in
        let same = sym (behind_twice o (p - (run.page + o)) run.first) ∙ ap (λ n. behind n run.first) far in
        rw (e, has, all p, none_before p in_run.0, ec) (ap placed same)
    in_tail p false e false ec =
        let upper = ltb-false p (run.page + o) e in
        let lacks : covers (rest_from o run) p ≡ false = grind (arith, ec, upper, lt) in
        rw (e, lacks, all p, none_before p (omega (arith, upper)), ec) refl

pub parted_over : (runs : List Run) (k at from : ℕ) (run : Run) → k + 1 ≡ at → k < length runs → run ≡ get_or runs k run → AreRuns runs → run.page < from → from < end_of run
    → IsPartedAt from runs (take at (slice_set runs k (front_of (from - run.page) run))) (rest_from (from - run.page) run ∷ drop at runs)
parted_over runs k at from run is within here h low high =
    let o = from - run.page in
    let rest = drop (k + 1) runs in
    let parts : runs ≡ take k runs ++ run ∷ rest = around runs k run within ∙ ap (λ r. take k runs ++ r ∷ rest) (sym here) in
    let so = parted_run (take k runs) run rest o (subst AreRuns parts h) (omega (arith, low)) (omega (arith, low, high)) in
    let place : run.page + o ≡ from = omega (arith, low) in
    let front : take (k + 1) (slice_set runs k (front_of o run)) ≡ take k runs ++ front_of o run ∷ [] =
    ap (take (k + 1)) (set_here runs k (front_of o run) within) ∙ taken (take k runs) (front_of o run) rest k (length_taken runs k within) in
    subst (λ n. IsPartedAt from runs (take n (slice_set runs k (front_of o run))) (rest_from o run ∷ drop n runs)) is
    (subst (λ l. IsPartedAt from runs l (rest_from o run ∷ rest)) (sym front)
    (subst (λ l. IsPartedAt from l (take k runs ++ front_of o run ∷ []) (rest_from o run ∷ rest)) (sym parts)
    (subst (λ n. IsPartedAt n (take k runs ++ run ∷ rest) (take k runs ++ front_of o run ∷ []) (rest_from o run ∷ rest)) place so)))
  where
    length_taken : (runs : List Run) (k : ℕ) → k < length runs → length (take k runs) ≡ k
    length_taken runs zero w = refl
    length_taken [] (suc k) w = absurd (omega arith)
    length_taken (r ∷ rs) (suc k) w = let rest = length_taken rs k (omega arith) in omega (arith, rest)

    taken : (xs : List Run) (x : Run) (ys : List Run) (k : ℕ) → length xs ≡ k → take (k + 1) (xs ++ x ∷ ys) ≡ xs ++ x ∷ []
    taken [] x ys k e = let one : k + 1 ≡ suc zero = omega (arith, e) in rw one refl
    taken (a ∷ xs) x ys zero e = absurd (omega arith)
    taken (a ∷ xs) x ys (suc k) e = let next : suc k + 1 ≡ suc (k + 1) = omega arith in rw next (ap (λ l. a ∷ l) (taken xs x ys k (omega (arith, e))))

-- runs end in order, the last of them at the page or before it
pub ends_all : (runs : List Run) (k at from : ℕ) (run : Run) → k + 1 ≡ at → k < length runs → run ≡ get_or runs k run → AreRuns runs → end_of run ≤ from → EndUpTo from (take at runs)
ends_all runs k at from run is within here h le =
    let parts : runs ≡ take k runs ++ run ∷ drop (k + 1) runs = around runs k run within ∙ ap (λ r. take k runs ++ r ∷ drop (k + 1) runs) (sym here) in
    let before = ends_before (take k runs) run (drop (k + 1) runs) (subst AreRuns parts h) in
    let next : suc k ≡ at = omega (arith, is) in
    let taken : take at runs ≡ take k runs ++ run ∷ [] = ap (λ n. take n runs) (sym next) ∙ take_next runs k run within ∙ ap (λ r. take k runs ++ r ∷ []) (sym here) in
    subst (EndUpTo from) (sym taken) (all_but_last (take k runs) before)
  where
    all_but_last : (xs : List Run) → EndUpTo run.page xs → EndUpTo from (xs ++ run ∷ [])
    all_but_last [] a = (le, tt)
    all_but_last (x ∷ xs) a = (omega (arith, a.0, le), all_but_last xs a.1)
