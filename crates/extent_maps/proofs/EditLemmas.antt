-- What an edit of a list of runs leaves: their order, and where each page is.
use Rattle.std.proofs.Common.{◌≡◌, ℕ, zero, suc, ◌+◌, ◌-◌, ◌<◌, ◌≤◌, Bool, true, false, cond, ltb, leb, eqb, List, [], ◌∷◌, ◌++◌, length, get_or, slice_set, take, drop, refl, sym, ap, subst, append_assoc, ◌∙◌, Result, Ok, Err, inl, inr, arith}
use Rattle.std.specs.Result.{OnOk}
use Rattle.std.proofs.lemmas.List.{append-nil, drop_more, get_or_default, set_split, take-append-drop, take_more}
use Rattle.std.proofs.lemmas.Bool.{cases_Bool, lt-ltb, leb-true, le-leb, ltb-true, and_parts, and_from, eqb-true, eq-eqb, eqb-false}
use Rattle.extent_maps.specs.declared.run.Run.{Run}
use Rattle.extent_maps.specs.declared.run.RunPlace.{RunPlace}
use Rattle.extent_maps.specs.declared.run.RunPlace.TheVariants as place
use Rattle.extent_maps.specs.declared.run.PagePlace.{PagePlace}
use Rattle.extent_maps.specs.declared.run.PagePlace.TheVariants.{At, Hole, Absent}
use Rattle.extent_maps.specs.Runs.{AreRuns, BeginBehind, BeginFrom, BeginUpTo, ChangesPlace, EndUpTo, FirstFollows, FitsVolume, Follows, IsRun, PutsRun, SamePlaces, behind, covers, end_of, first_goes_on, front_of, front_piece, goes_on, goes_on_last, joined, place_of, placed, rest_from, rest_piece, same_place, with_place}
use Rattle.extent_maps.proofs.RunLemmas.{absent_before, all_map, behind_first, covers_not_before, covers_not_behind}

-- the first place of two that is not absent
abbrev pub over : PagePlace → PagePlace → PagePlace
over Absent b = b
over (At home) b = At home
over Hole b = Hole

pub over_placed : (x : RunPlace) (b : PagePlace) → placed x ≡ over (placed x) b
over_placed (place.At home) b = refl
over_placed place.Holes b = refl

pub never_absent : (x : RunPlace) → placed x ≡ Absent → ⊥
never_absent (place.At home) e = absurd cc
never_absent place.Holes e = absurd cc

pub place_append : (xs ys : List Run) (p : ℕ) → place_of (xs ++ ys) p ≡ over (place_of xs p) (place_of ys p)
place_append [] ys p = refl
place_append (r ∷ rs) ys p = elim (cases_Bool (covers r p)) [
  | inl has ↦ rw has (over_placed (behind (p - r.page) r.first) (place_of ys p))
  | inr lacks ↦ rw lacks (place_append rs ys p)
]

-- runs that begin at a page or before it, and do not have it, end there or before it
pub end_up_to : (runs : List Run) (page : ℕ) → BeginUpTo page runs → place_of runs page ≡ Absent → EndUpTo page runs
end_up_to [] page begin absent = tt
end_up_to (r ∷ rs) page begin absent =
    let there = placed (behind (page - r.page) r.first) in
    elim (cases_Bool (covers r page)) [
      | inl has ↦ absurd (never_absent (behind (page - r.page) r.first) (ap (λ b. cond b there (place_of rs page)) (sym has) ∙ absent))
      | inr lacks ↦ (grind (arith, lacks, begin.0), end_up_to rs page begin.1 (ap (λ b. cond b there (place_of rs page)) (sym lacks) ∙ absent))
    ]

-- ** The order of two lists, one after the other

abbrev pub Meets : List Run → List Run → Type 0
Meets [] ys = Unit {0}
Meets (x ∷ []) ys = FirstFollows x ys
Meets (x ∷ x2 ∷ xs) ys = Meets (x2 ∷ xs) ys

pub append : (xs ys : List Run) → AreRuns xs → AreRuns ys → Meets xs ys → AreRuns (xs ++ ys)
append [] ys hx hy m = hy
append (x ∷ []) ys hx hy m = (hx.0, m, hy)
append (x ∷ x2 ∷ xs) ys hx hy m = (hx.0, hx.1, append (x2 ∷ xs) ys hx.2 hy m)

pub front_of_list : (xs ys : List Run) → AreRuns (xs ++ ys) → AreRuns xs
front_of_list [] ys h = tt
front_of_list (x ∷ []) ys h = (h.0, tt, tt)
front_of_list (x ∷ x2 ∷ xs) ys h = (h.0, h.1, front_of_list (x2 ∷ xs) ys h.2)

pub back_of : (xs ys : List Run) → AreRuns (xs ++ ys) → AreRuns ys
back_of [] ys h = h
back_of (x ∷ []) ys h = h.2
back_of (x ∷ x2 ∷ xs) ys h = back_of (x2 ∷ xs) ys h.2

pub meets_of : (xs ys : List Run) → AreRuns (xs ++ ys) → Meets xs ys
meets_of [] ys h = tt
meets_of (x ∷ []) ys h = h.1
meets_of (x ∷ x2 ∷ xs) ys h = meets_of (x2 ∷ xs) ys h.2

pub meets_last : (xs : List Run) (x : Run) (ys : List Run) → FirstFollows x ys → Meets (xs ++ x ∷ []) ys
meets_last [] x ys f = f
meets_last (a ∷ []) x ys f = f
meets_last (a ∷ b ∷ xs) x ys f = meets_last (b ∷ xs) x ys f

-- whatever follows where one list follows
pub meets_changed : (xs ys zs : List Run) → ((x : Run) → IsRun x → FirstFollows x ys → FirstFollows x zs) → AreRuns xs → Meets xs ys → Meets xs zs
meets_changed [] ys zs h hx m = tt
meets_changed (x ∷ []) ys zs h hx m = h x hx.0 m
meets_changed (x ∷ x2 ∷ xs) ys zs h hx m = meets_changed (x2 ∷ xs) ys zs h hx.2 m

-- ** Two runs as one

pub behind_twice : (m n : ℕ) (x : RunPlace) → behind (m + n) x ≡ behind n (behind m x)
behind_twice m n (place.At home) = grind arith
behind_twice m n place.Holes = refl

same_is : (x y : RunPlace) → same_place x y ≡ true → x ≡ y
same_is (place.At a) (place.At b) e = let p = and_parts (eqb a.vol b.vol) (eqb a.page b.page) e in grind (arith, eqb-true a.vol b.vol p.0, eqb-true a.page b.page p.1)
same_is (place.At a) place.Holes e = absurd cc
same_is place.Holes (place.At b) e = absurd cc
same_is place.Holes place.Holes e = refl

pub next_is : (run next : Run) → goes_on run next ≡ true → (end_of run ≡ next.page) × (behind run.count run.first ≡ next.first)
next_is run next e =
    let p = and_parts (eqb (end_of run) next.page) (same_place (behind run.count run.first) next.first) e in
    (eqb-true (end_of run) next.page p.0, same_is (behind run.count run.first) next.first p.1)

apart_if_behind : (run next : Run) → end_of run < next.page → goes_on run next ≡ false
apart_if_behind run next lt = grind arith

pub follows_behind : (run next : Run) → end_of run < next.page → Follows run next
follows_behind run next lt = record { behind = omega (arith, lt); apart = apart_if_behind run next lt }

pub covers_is : (run : Run) (p : ℕ) → covers run p ≡ true → (run.page ≤ p) × (p < end_of run)
covers_is run p e = let b = and_parts (leb run.page p) (ltb p (end_of run)) e in (leb-true run.page p b.0, ltb-true p (end_of run) b.1)

pub covers_from : (run : Run) (p : ℕ) → run.page ≤ p → p < end_of run → covers run p ≡ true
covers_from run p le lt = and_from (leb run.page p) (ltb p (end_of run)) (le-leb run.page p le) (lt-ltb p (end_of run) lt)

fits_joined : (m n : ℕ) (x : RunPlace) → FitsVolume n (behind m x) → FitsVolume (m + n) x
fits_joined m n (place.At home) h = omega (arith, h)
fits_joined m n place.Holes h = tt

pub joined_is_run : (run next : Run) → IsRun run → IsRun next → goes_on run next ≡ true → IsRun (joined run next)
joined_is_run run next a b e =
    let is = next_is run next e in
    record {
      some = omega (arith, a.some);
      ends = omega (arith, is.0, b.ends);
      homes = fits_joined run.count next.count run.first (rw (is.1) b.homes);
    }

joined_goes_on : (run next x : Run) → goes_on run next ≡ true → goes_on (joined run next) x ≡ goes_on next x
joined_goes_on run next x e =
    let is = next_is run next e in
    let ends : end_of (joined run next) ≡ end_of next = omega (arith, is.0) in
    let homes : behind (run.count + next.count) run.first ≡ behind next.count next.first = behind_twice run.count next.count run.first ∙ ap (behind next.count) is.1 in
    rw (ends, homes) refl

joined_follows : (run next : Run) (runs : List Run) → goes_on run next ≡ true → FirstFollows next runs → FirstFollows (joined run next) runs
joined_follows run next [] e f = tt
joined_follows run next (x ∷ xs) e f =
    let is = next_is run next e in
    record { behind = omega (arith, is.0, f.behind); apart = joined_goes_on run next x e ∙ f.apart }

pub joined_are_runs : (run next : Run) (runs : List Run) → IsRun run → goes_on run next ≡ true → AreRuns (next ∷ runs) → AreRuns (joined run next ∷ runs)
joined_are_runs run next runs a e h = (joined_is_run run next a h.0 e, joined_follows run next runs e h.1, h.2)

place_behind : (run next : Run) (p : ℕ) → goes_on run next ≡ true → next.page ≤ p → run.page ≤ next.page → placed (behind (p - run.page) run.first) ≡ placed (behind (p - next.page) next.first)
place_behind run next p e le up =
    let is = next_is run next e in
    let far : p - run.page ≡ run.count + (p - next.page) = omega (arith, is.0, le) in
    rw far (ap placed (behind_twice run.count (p - next.page) run.first ∙ ap (behind (p - next.page)) is.1))

pub joined_places : (run next : Run) (runs : List Run) → goes_on run next ≡ true → SamePlaces (run ∷ next ∷ runs) (joined run next ∷ runs)
joined_places run next runs e p = go (covers run p) refl (covers next p) refl
  where
    is : (end_of run ≡ next.page) × (behind run.count run.first ≡ next.first)
    is = next_is run next e

    go : (a : Bool) → covers run p ≡ a → (b : Bool) → covers next p ≡ b → place_of (joined run next ∷ runs) p ≡ place_of (run ∷ next ∷ runs) p
    go true ea b eb =
        let in_run = covers_is run p ea in
        let has : covers (joined run next) p ≡ true = covers_from (joined run next) p in_run.0 (omega (arith, in_run.1)) in
        rw (has, ea) refl
    go false ea true eb =
        let in_next = covers_is next p eb in
        let has : covers (joined run next) p ≡ true = covers_from (joined run next) p (omega (arith, is.0, in_next.0)) (omega (arith, is.0, in_next.1)) in
        rw (has, ea, eb) (place_behind run next p e in_next.0 (omega (arith, is.0)))
    go false ea false eb =
        let lacks : covers (joined run next) p ≡ false = grind (arith, ea, eb, is.0) in
        rw (lacks, ea, eb) refl

-- a run before those that begin where it ends or later, the first of which does not go on from it
pub first_apart : (run : Run) (rest : List Run) → IsRun run → BeginFrom (end_of run) rest → first_goes_on run rest ≡ false → AreRuns rest → AreRuns (run ∷ rest)
first_apart run [] is begin apart h = (is, tt, tt)
first_apart run (next ∷ rest) is begin apart h = (is, record { behind = begin.0; apart = apart }, h)

-- ** Parts of a list of runs

pub drop_runs : (runs : List Run) (n : ℕ) → AreRuns runs → AreRuns (drop n runs)
drop_runs runs zero h = h
drop_runs [] (suc n) h = tt
drop_runs (r ∷ rs) (suc n) h = drop_runs rs n h.2

pub take_runs : (runs : List Run) (n : ℕ) → AreRuns runs → AreRuns (take n runs)
take_runs runs n h = front_of_list (take n runs) (drop n runs) (subst AreRuns (sym (take-append-drop n runs)) h)

goes_on_within : (runs : List Run) (at : ℕ) (run : Run) → first_goes_on run (drop at runs) ≡ true → at < length runs
goes_on_within [] zero run e = absurd cc
goes_on_within [] (suc at) run e = absurd cc
goes_on_within (r ∷ rs) zero run e = omega arith
goes_on_within (r ∷ rs) (suc at) run e = let rest = goes_on_within rs at run e in omega (arith, rest)

-- a run and the one that goes on from it, taken off the runs
pub record Joins (runs : List Run) (at : ℕ) (run next : Run) : Type 0 where
  pub next_is : IsRun next
  pub apart : AreRuns (joined run next ∷ drop (at + 1) runs)
  pub places : SamePlaces (run ∷ drop at runs) (joined run next ∷ drop (at + 1) runs)
  pub goes : goes_on run next ≡ true

pub joins : (runs : List Run) (at : ℕ) (run next : Run) → AreRuns runs → IsRun run → first_goes_on run (drop at runs) ≡ true → next ≡ get_or runs at next → Joins runs at run next
joins runs at run next h is e here =
    let within = goes_on_within runs at run e in
    let parts : drop at runs ≡ next ∷ drop (at + 1) runs = drop_more runs at next within ∙ ap (λ r. r ∷ drop (at + 1) runs) (sym here) in
    let rest : AreRuns (next ∷ drop (at + 1) runs) = subst AreRuns parts (drop_runs runs at h) in
    let goes : goes_on run next ≡ true = subst (λ l. first_goes_on run l ≡ true) parts e in
    record {
      next_is = rest.0;
      apart = joined_are_runs run next (drop (at + 1) runs) is goes rest;
      places = subst (λ l. SamePlaces (run ∷ l) (joined run next ∷ drop (at + 1) runs)) (sym parts) (joined_places run next (drop (at + 1) runs) goes);
      goes = goes;
    }

pub behind_taken : (runs : List Run) (at : ℕ) (ys : List Run) → at ≤ length runs → drop at (take at runs ++ ys) ≡ ys
behind_taken runs zero ys within = refl
behind_taken [] (suc at) ys within = absurd (omega arith)
behind_taken (r ∷ rs) (suc at) ys within = behind_taken rs at ys (omega arith)

-- ** The last run before a place

pub take_next : (runs : List Run) (k : ℕ) (d : Run) → k < length runs → take (suc k) runs ≡ take k runs ++ get_or runs k d ∷ []
take_next runs k d within = let next : suc k ≡ k + 1 = omega arith in ap (λ n. take n runs) next ∙ take_more runs k d within

pub run_before : (runs : List Run) (at k : ℕ) (d : Run) → AreRuns (take at runs) → k < at → k < length runs → IsRun (get_or runs k d)
run_before runs zero k d h lt within = absurd (omega arith)
run_before [] (suc at) k d h lt within = absurd (omega arith)
run_before (r ∷ rs) (suc at) zero d h lt within = h.0
run_before (r ∷ rs) (suc at) (suc k) d h lt within = run_before rs at k d h.2 (omega arith) (omega arith)

goes_on_end : (xs : List Run) (x run : Run) → goes_on_last (xs ++ x ∷ []) run ≡ goes_on x run
goes_on_end [] x run = refl
goes_on_end (a ∷ []) x run = refl
goes_on_end (a ∷ b ∷ xs) x run = goes_on_end (b ∷ xs) x run

pub goes_on_place : (runs : List Run) (k : ℕ) (d run : Run) → k < length runs → goes_on_last (take (suc k) runs) run ≡ goes_on (get_or runs k d) run
goes_on_place runs k d run within = ap (λ l. goes_on_last l run) (take_next runs k d within) ∙ goes_on_end (take k runs) (get_or runs k d) run

pub end_at : (runs : List Run) (at k : ℕ) (d : Run) (page : ℕ) → EndUpTo page (take at runs) → k < at → k < length runs → end_of (get_or runs k d) ≤ page
end_at runs zero k d page h lt within = absurd (omega arith)
end_at [] (suc at) k d page h lt within = absurd (omega arith)
end_at (r ∷ rs) (suc at) zero d page h lt within = h.0
end_at (r ∷ rs) (suc at) (suc k) d page h lt within = end_at rs at k d page h.1 (omega arith) (omega arith)

-- a run that goes on from the one before the place, made one with it
pub record JoinsLast (runs : List Run) (k at : ℕ) (last run : Run) : Type 0 where
  pub last_is : IsRun last
  pub goes : goes_on last run ≡ true
  pub order : AreRuns (take k runs ++ joined last run ∷ drop at runs)
  pub places : SamePlaces (take at runs ++ run ∷ drop at runs) (take k runs ++ joined last run ∷ drop at runs)

same_begin : (last run : Run) (rest : List Run) (x : Run) → IsRun x → FirstFollows x (last ∷ []) → FirstFollows x (joined last run ∷ rest)
same_begin last run rest x is f = record { behind = f.behind; apart = f.apart }

joins_last : (runs : List Run) (k : ℕ) (last run : Run) → k < length runs → last ≡ get_or runs k last → AreRuns (take (suc k) runs)
    → AreRuns (run ∷ drop (suc k) runs) → goes_on_last (take (suc k) runs) run ≡ true → JoinsLast runs k (suc k) last run
joins_last runs k last run within here hf hb e =
    let rest = drop (suc k) runs in
    let parts : take (suc k) runs ≡ take k runs ++ last ∷ [] = take_next runs k last within ∙ ap (λ r. take k runs ++ r ∷ []) (sym here) in
    let front : AreRuns (take k runs ++ last ∷ []) = subst AreRuns parts hf in
    let is : IsRun last = (back_of (take k runs) (last ∷ []) front).0 in
    let goes : goes_on last run ≡ true = sym (goes_on_end (take k runs) last run) ∙ ap (λ l. goes_on_last l run) (sym parts) ∙ e in
    let meets = meets_changed (take k runs) (last ∷ []) (joined last run ∷ rest) (same_begin last run rest) (front_of_list (take k runs) (last ∷ []) front) (meets_of (take k runs) (last ∷ []) front) in
    record {
      last_is = is;
      goes = goes;
      order = append (take k runs) (joined last run ∷ rest) (front_of_list (take k runs) (last ∷ []) front) (joined_are_runs last run rest is goes hb) meets;
      places = λ p.
          place_append (take k runs) (joined last run ∷ rest) p
          ∙ ap (over (place_of (take k runs) p)) (joined_places last run rest goes p)
          ∙ sym (place_append (take k runs) (last ∷ run ∷ rest) p)
          ∙ ap (λ l. place_of l p) (sym (append_assoc (take k runs) (last ∷ []) (run ∷ rest)) ∙ ap (λ l. l ++ run ∷ rest) (sym parts));
    }

pub joins_before : (runs : List Run) (k at : ℕ) (last run : Run) → suc k ≡ at → k < length runs → last ≡ get_or runs k last → AreRuns (take at runs)
    → AreRuns (run ∷ drop at runs) → goes_on_last (take at runs) run ≡ true → JoinsLast runs k at last run
joins_before runs k at last run is within here =
    subst (λ n. AreRuns (take n runs) → AreRuns (run ∷ drop n runs) → goes_on_last (take n runs) run ≡ true → JoinsLast runs k n last run) is
    (λ hf hb e. joins_last runs k last run within here hf hb e)

pub goes_on_front : (runs : List Run) (k at : ℕ) (last run : Run) → suc k ≡ at → k < length runs → last ≡ get_or runs k last → goes_on last run ≡ goes_on_last (take at runs) run
goes_on_front runs k at last run is within here =
    subst (λ n. goes_on last run ≡ goes_on_last (take n runs) run) is (ap (λ r. goes_on r run) here ∙ sym (goes_on_place runs k last run within))

-- a run that does not go on from the one before the place, put there
pub put_apart : (runs : List Run) (at : ℕ) (run : Run) → at ≤ length runs → AreRuns (take at runs) → EndUpTo run.page (take at runs)
    → AreRuns (run ∷ drop at runs) → goes_on_last (take at runs) run ≡ false → AreRuns (take at runs ++ run ∷ drop at runs)
put_apart runs zero run within hf ends hb e = hb
put_apart runs (suc k) run within hf ends hb e =
    let last = get_or runs k run in
    let parts : take (suc k) runs ≡ take k runs ++ last ∷ [] = take_next runs k run (omega arith) in
    let follows : Follows last run = record {
      behind = end_at runs (suc k) k run run.page ends (omega arith) (omega arith);
      apart = sym (goes_on_place runs k run run (omega arith)) ∙ e;
    } in
    let meets : Meets (take (suc k) runs) (run ∷ drop (suc k) runs) = subst (λ l. Meets l (run ∷ drop (suc k) runs)) (sym parts) (meets_last (take k runs) last (run ∷ drop (suc k) runs) follows) in
    append (take (suc k) runs) (run ∷ drop (suc k) runs) hf hb meets

pub joins_at : (runs : List Run) (at : ℕ) (last run : Run) → at < length runs → last ≡ get_or runs at last → AreRuns (take (at + 1) runs)
    → AreRuns (run ∷ drop (at + 1) runs) → goes_on_last (take (at + 1) runs) run ≡ true → JoinsLast runs at (at + 1) last run
joins_at runs at last run within here = let next : suc at ≡ at + 1 = omega arith in joins_before runs at (at + 1) last run next within here

pub set_here : (runs : List Run) (at : ℕ) (run : Run) → at < length runs → slice_set runs at run ≡ take at runs ++ run ∷ drop (at + 1) runs
set_here runs at run within = let next : suc at ≡ at + 1 = omega arith in set_split runs at run within ∙ ap (λ n. take at runs ++ run ∷ drop n runs) next

pub goes_on_not_first : (runs : List Run) (at : ℕ) (run : Run) → goes_on_last (take at runs) run ≡ true → 0 < at
goes_on_not_first runs zero run e = absurd cc
goes_on_not_first runs (suc at) run e = omega arith

pub on_ok : {T E P Q : Type 0} (r : Result T E) → (P → Q) → OnOk r P → OnOk r Q
on_ok (Ok x) h p = h p
on_ok (Err e) h p = tt

-- ** A page put before the runs from a place on

behind_none : (x : RunPlace) → behind 0 x ≡ x
behind_none (place.At home) = grind arith
behind_none place.Holes = refl

pub over_absent : (a b : PagePlace) → over a b ≡ Absent → a ≡ Absent
over_absent Absent b e = refl
over_absent (At home) b e = e
over_absent Hole b e = e

abbrev pub one : ℕ → RunPlace → Run
one page first = record { page = page; count = 1; first = first }

pub absent_after : (xs : List Run) (page n : ℕ) → EndUpTo n xs → n ≤ page → place_of xs page ≡ Absent
absent_after [] page n h le = refl
absent_after (x ∷ xs) page n h le = rw (covers_not_behind x page (omega (arith, h.0, le))) (absent_after xs page n h.1 le)

pub put_places : (runs : List Run) (at : ℕ) (put run : Run) (rest : List Run) → EndUpTo put.page (take at runs)
    → SamePlaces (put ∷ drop at runs) (run ∷ rest) → PutsRun put runs (take at runs ++ run ∷ rest)
put_places runs at put run rest ends same p = go (covers put p) refl
  where
    F : PagePlace
    F = place_of (take at runs) p

    whole : place_of runs p ≡ over F (place_of (drop at runs) p)
    whole = ap (λ l. place_of l p) (sym (take-append-drop at runs)) ∙ place_append (take at runs) (drop at runs) p

    new : place_of (take at runs ++ run ∷ rest) p ≡ over F (place_of (put ∷ drop at runs) p)
    new = place_append (take at runs) (run ∷ rest) p ∙ ap (over F) (same p)

    go : (b : Bool) → covers put p ≡ b → place_of (take at runs ++ run ∷ rest) p ≡ cond (covers put p) (placed (behind (p - put.page) put.first)) (place_of runs p)
    go true e =
        let front : F ≡ Absent = absent_after (take at runs) p put.page ends (covers_is put p e).0 in
        new ∙ rw (front, e) refl
    go false e = new ∙ rw e (sym whole)

-- a run of one page has that page alone
pub one_page : (runs new : List Run) (page : ℕ) (first : RunPlace) → PutsRun (one page first) runs new → ChangesPlace page (placed first) runs new
one_page runs new page first puts p = go (eqb p page) refl
  where
    go : (b : Bool) → eqb p page ≡ b → place_of new p ≡ with_place page (placed first) (place_of runs) p
    go true e =
        let here : p ≡ page = eqb-true p page e in
        let has : covers (one page first) p ≡ true = covers_from (one page first) p (omega (arith, here)) (omega (arith, here)) in
        let offset : p - page ≡ 0 = omega (arith, here) in
        puts p ∙ rw (has, e, offset) (ap placed (behind_none first))
    go false e =
        let lacks : covers (one page first) p ≡ false = grind (arith, e) in
        puts p ∙ rw (lacks, e) refl

pub behind_one : (runs : List Run) (page : ℕ) → BeginBehind page runs → BeginFrom (page + 1) runs
behind_one runs page h = all_map {P = λ (x : Run). page < x.page} {Q = λ (x : Run). page + 1 ≤ x.page} (λ x lt. omega (arith, lt)) runs h

-- ** A page cut out of a run

pub rest_is_run : (o : ℕ) (run : Run) → IsRun run → o < run.count → IsRun (rest_from o run)
rest_is_run o run is lt = record { some = omega (arith, lt); ends = omega (arith, is.ends, lt); homes = fits o run.count run.first lt is.homes }
  where
    fits : (o n : ℕ) (x : RunPlace) → o < n → FitsVolume n x → FitsVolume (n - o) (behind o x)
    fits o n (place.At home) lt h = omega (arith, lt, h)
    fits o n place.Holes lt h = tt

pub front_is_run : (o : ℕ) (run : Run) → IsRun run → 0 < o → o < run.count → IsRun (front_of o run)
front_is_run o run is some lt = record { some = some; ends = omega (arith, is.ends, lt); homes = fits o run.count run.first lt is.homes }
  where
    fits : (o n : ℕ) (x : RunPlace) → o < n → FitsVolume n x → FitsVolume o x
    fits o n (place.At home) lt h = omega (arith, lt, h)
    fits o n place.Holes lt h = tt

rest_goes_on : (o : ℕ) (run x : Run) → o < run.count → goes_on (rest_from o run) x ≡ goes_on run x
rest_goes_on o run x lt =
    let ends : end_of (rest_from o run) ≡ end_of run = omega (arith, lt) in
    let all : o + (run.count - o) ≡ run.count = omega (arith, lt) in
    let homes : behind (run.count - o) (behind o run.first) ≡ behind run.count run.first = sym (behind_twice o (run.count - o) run.first) ∙ ap (λ n. behind n run.first) all in
    rw (ends, homes) refl

pub rest_follows : (o : ℕ) (run : Run) (runs : List Run) → o < run.count → FirstFollows run runs → FirstFollows (rest_from o run) runs
rest_follows o run [] lt f = tt
rest_follows o run (x ∷ xs) lt f = record { behind = omega (arith, lt, f.behind); apart = rest_goes_on o run x lt ∙ f.apart }

far_follows : (run : Run) (x : Run) (runs : List Run) → end_of x < end_of run → FirstFollows run runs → FirstFollows x runs
far_follows run x [] lt f = tt
far_follows run x (y ∷ ys) lt f = follows_behind x y (omega (arith, lt, f.behind))

abbrev pub pieces : ℕ → Run → List Run
pieces o run = front_piece o run ++ rest_piece o run

rest_order : (o : ℕ) (run : Run) (runs : List Run) → AreRuns (run ∷ runs) → o < run.count → AreRuns (rest_piece o run ++ runs)
rest_order o run runs h lt = go (eqb run.count (o + 1)) refl
  where
    go : (b : Bool) → eqb run.count (o + 1) ≡ b → AreRuns (rest_piece o run ++ runs)
    go true e = rw e h.2
    go false e =
        let ne = eqb-false run.count (o + 1) e in
        let more : o + 1 < run.count = omega (arith, lt, ne) in
        rw e (rest_is_run (o + 1) run h.0 more, rest_follows (o + 1) run runs more h.1, h.2)

front_follows : (o : ℕ) (run : Run) (runs : List Run) → AreRuns (run ∷ runs) → o < run.count → FirstFollows (front_of o run) (rest_piece o run ++ runs)
front_follows o run runs h lt = go (eqb run.count (o + 1)) refl
  where
    go : (b : Bool) → eqb run.count (o + 1) ≡ b → FirstFollows (front_of o run) (rest_piece o run ++ runs)
    go true e = rw e (far_follows run (front_of o run) runs (omega (arith, lt)) h.1)
    go false e = rw e (follows_behind (front_of o run) (rest_from (o + 1) run) (omega arith))

pieces_order : (o : ℕ) (run : Run) (runs : List Run) → AreRuns (run ∷ runs) → o < run.count → AreRuns (front_piece o run ++ rest_piece o run ++ runs)
pieces_order o run runs h lt = go (eqb o 0) refl
  where
    go : (b : Bool) → eqb o 0 ≡ b → AreRuns (front_piece o run ++ rest_piece o run ++ runs)
    go true e = rw e (rest_order o run runs h lt)
    go false e =
        let ne = eqb-false o 0 e in
        rw e (front_is_run o run h.0 (omega (arith, ne)) lt, front_follows o run runs h lt, rest_order o run runs h lt)

-- what followed a run follows what is left of it
follows_rest : (o : ℕ) (run : Run) (runs : List Run) → AreRuns (run ∷ runs) → o < run.count → (x : Run) → end_of x ≤ run.page → FirstFollows x (rest_piece o run ++ runs)
follows_rest o run runs h lt x le = go (eqb run.count (o + 1)) refl
  where
    go : (b : Bool) → eqb run.count (o + 1) ≡ b → FirstFollows x (rest_piece o run ++ runs)
    go true e = rw e (far_follows run x runs (omega (arith, le, h.0.some)) h.1)
    go false e = rw e (follows_behind x (rest_from (o + 1) run) (omega (arith, le)))

follows_pieces : (o : ℕ) (run : Run) (runs : List Run) → AreRuns (run ∷ runs) → o < run.count → (x : Run) → IsRun x → FirstFollows x (run ∷ runs) → FirstFollows x (front_piece o run ++ rest_piece o run ++ runs)
follows_pieces o run runs h lt x is f = go (eqb o 0) refl
  where
    go : (b : Bool) → eqb o 0 ≡ b → FirstFollows x (front_piece o run ++ rest_piece o run ++ runs)
    go true e = rw e (follows_rest o run runs h lt x f.behind)
    go false e = rw e (record { behind = f.behind; apart = f.apart })

pub cut_order : (o : ℕ) (front : List Run) (run : Run) (runs : List Run) → AreRuns (front ++ run ∷ runs) → o < run.count → AreRuns (front ++ (front_piece o run ++ rest_piece o run ++ runs))
cut_order o front run runs h lt =
    let back = back_of front (run ∷ runs) h in
    let before = front_of_list front (run ∷ runs) h in
    append front (front_piece o run ++ rest_piece o run ++ runs) before (pieces_order o run runs back lt)
    (meets_changed front (run ∷ runs) (front_piece o run ++ rest_piece o run ++ runs) (follows_pieces o run runs back lt) before (meets_of front (run ∷ runs) h))

ends_first : (x : Run) (xs : List Run) (run : Run) (ys : List Run) → AreRuns (x ∷ (xs ++ run ∷ ys)) → end_of x ≤ run.page
ends_first x [] run ys h = h.1.behind
ends_first x (x2 ∷ xs) run ys h = let rest = ends_first x2 xs run ys h.2 in omega (arith, h.1.behind, rest)

pub ends_before : (xs : List Run) (run : Run) (ys : List Run) → AreRuns (xs ++ run ∷ ys) → EndUpTo run.page xs
ends_before [] run ys h = tt
ends_before (x ∷ xs) run ys h = (ends_first x xs run ys h, ends_before xs run ys (back_of (x ∷ []) (xs ++ run ∷ ys) h))

abbrev pub piece : Run → ℕ → PagePlace
piece run p = cond (covers run p) (placed (behind (p - run.page) run.first)) Absent

front_place : (o : ℕ) (run : Run) (p : ℕ) → place_of (front_piece o run) p ≡ piece (front_of o run) p
front_place o run p = go (eqb o 0) refl
  where
    go : (b : Bool) → eqb o 0 ≡ b → place_of (front_piece o run) p ≡ piece (front_of o run) p
    go true e =
        let none : o ≡ 0 = eqb-true o 0 e in
        let lacks : covers (front_of o run) p ≡ false = grind (arith, none) in
        rw (e, lacks) refl
    go false e = rw e refl

rest_place : (o : ℕ) (run : Run) (p : ℕ) → place_of (rest_piece o run) p ≡ piece (rest_from (o + 1) run) p
rest_place o run p = go (eqb run.count (o + 1)) refl
  where
    go : (b : Bool) → eqb run.count (o + 1) ≡ b → place_of (rest_piece o run) p ≡ piece (rest_from (o + 1) run) p
    go true e =
        let all : run.count ≡ o + 1 = eqb-true run.count (o + 1) e in
        let lacks : covers (rest_from (o + 1) run) p ≡ false = grind (arith, all) in
        rw (e, lacks) refl
    go false e = rw e refl

cut_place : (o : ℕ) (run : Run) (r : PagePlace) (p : ℕ) → IsRun run → o < run.count → (p ≡ run.page + o → r ≡ Absent)
    → over (over (piece (front_of o run) p) (piece (rest_from (o + 1) run) p)) r ≡ cond (eqb p (run.page + o)) Absent (cond (covers run p) (placed (behind (p - run.page) run.first)) r)
cut_place o run r p is lt none = go (eqb p (run.page + o)) refl (covers run p) refl (ltb p (run.page + o)) refl
  where
    result : PagePlace
    result = cond (eqb p (run.page + o)) Absent (cond (covers run p) (placed (behind (p - run.page) run.first)) r)

    go : (a : Bool) → eqb p (run.page + o) ≡ a → (b : Bool) → covers run p ≡ b → (c : Bool) → ltb p (run.page + o) ≡ c
        → over (over (piece (front_of o run) p) (piece (rest_from (o + 1) run) p)) r ≡ result
    go true ea b eb c ec =
        let here : p ≡ run.page + o = eqb-true p (run.page + o) ea in
        let front : covers (front_of o run) p ≡ false = covers_not_behind (front_of o run) p (omega (arith, here)) in
        let rest : covers (rest_from (o + 1) run) p ≡ false = covers_not_before (rest_from (o + 1) run) p (omega (arith, here)) in
        rw (ea, front, rest) (none here)
    go false ea true eb true ec =
        let in_run = covers_is run p eb in
        let lower : p < run.page + o = ltb-true p (run.page + o) ec in
        let front : covers (front_of o run) p ≡ true = covers_from (front_of o run) p in_run.0 lower in
        let x = behind (p - run.page) run.first in
        rw (ea, eb, front) (ap (λ a. over a r) (sym (over_placed x (piece (rest_from (o + 1) run) p))) ∙ sym (over_placed x r))
    go false ea true eb false ec =
        let in_run = covers_is run p eb in
        let ne = eqb-false p (run.page + o) ea in
        let above : run.page + o < p = grind (arith, ec, ne) in
        let front : covers (front_of o run) p ≡ false = covers_not_behind (front_of o run) p (omega (arith, above)) in
        let rest : covers (rest_from (o + 1) run) p ≡ true = covers_from (rest_from (o + 1) run) p (omega (arith, above)) (omega (arith, above, in_run.1)) in
        let far : (o + 1) + (p - (run.page + (o + 1))) ≡ p - run.page = omega (arith, above) in
        let same : behind (p - (run.page + (o + 1))) (behind (o + 1) run.first) ≡ behind (p - run.page) run.first = sym (behind_twice (o + 1) (p - (run.page + (o + 1))) run.first) ∙ ap (λ n. behind n run.first) far in
        rw (ea, eb, front, rest) (ap (λ x. over (placed x) r) same ∙ sym (over_placed (behind (p - run.page) run.first) r))
    go false ea false eb c ec =
        let front : covers (front_of o run) p ≡ false = grind (arith, eb, lt) in
        let rest : covers (rest_from (o + 1) run) p ≡ false = grind (arith, eb, lt) in
        rw (ea, eb, front, rest) refl

pub cut_places : (o : ℕ) (front : List Run) (run : Run) (runs : List Run) → AreRuns (front ++ run ∷ runs) → o < run.count
    → ChangesPlace (run.page + o) Absent (front ++ run ∷ runs) (front ++ (front_piece o run ++ rest_piece o run ++ runs))
cut_places o front run runs h lt p = go (eqb p (run.page + o)) refl
  where
    back : AreRuns (run ∷ runs)
    back = back_of front (run ∷ runs) h

    r : PagePlace
    r = place_of runs p

    none : p ≡ run.page + o → r ≡ Absent
    none here = absent_before runs p (all_map {P = λ (x : Run). end_of run ≤ x.page} {Q = λ (x : Run). p < x.page} (λ x le. omega (arith, here, lt, le)) runs (behind_first run runs back))

    old : place_of (front ++ run ∷ runs) p ≡ over (place_of front p) (place_of (run ∷ runs) p)
    old = place_append front (run ∷ runs) p

    mid : place_of (front_piece o run ++ rest_piece o run ++ runs) p ≡ cond (eqb p (run.page + o)) Absent (place_of (run ∷ runs) p)
    mid =
        place_append (front_piece o run ++ rest_piece o run) runs p
        ∙ ap (λ a. over a r) (place_append (front_piece o run) (rest_piece o run) p ∙ ap (λ a. over a (place_of (rest_piece o run) p)) (front_place o run p) ∙ ap (over (piece (front_of o run) p)) (rest_place o run p))
        ∙ cut_place o run r p back.0 lt none

    new : place_of (front ++ (front_piece o run ++ rest_piece o run ++ runs)) p ≡ over (place_of front p) (cond (eqb p (run.page + o)) Absent (place_of (run ∷ runs) p))
    new = place_append front (front_piece o run ++ rest_piece o run ++ runs) p ∙ ap (over (place_of front p)) mid

    go : (b : Bool) → eqb p (run.page + o) ≡ b → place_of (front ++ (front_piece o run ++ rest_piece o run ++ runs)) p ≡ cond (eqb p (run.page + o)) Absent (place_of (front ++ run ∷ runs) p)
    go true e =
        let here : p ≡ run.page + o = eqb-true p (run.page + o) e in
        let before : place_of front p ≡ Absent = absent_after front p run.page (ends_before front run runs h) (omega (arith, here)) in
        new ∙ rw (e, before) refl
    go false e = new ∙ rw e (sym old)

-- ** The same by places in the list

pub run_at : (runs : List Run) (at : ℕ) (run d : Run) → at < length runs → run ≡ get_or runs at run → get_or runs at d ≡ run
run_at runs at run d within here = get_or_default runs at d run within ∙ sym here

pub kept_front : (runs : List Run) (at o : ℕ) (run d : Run) → at < length runs → run ≡ get_or runs at run → 0 < o
    → slice_set runs at (front_of o run) ≡ take at runs ++ front_piece o (get_or runs at d) ++ drop (at + 1) runs
kept_front runs at o run d within here some =
    let some_left : eqb o 0 ≡ false = grind (arith, some) in
    set_here runs at (front_of o run) within
    ∙ sym (append_assoc (take at runs) (front_of o run ∷ []) (drop (at + 1) runs))
    ∙ ap (λ l. take at runs ++ l ++ drop (at + 1) runs) (rw some_left refl)
    ∙ ap (λ r. take at runs ++ front_piece o r ++ drop (at + 1) runs) (sym (run_at runs at run d within here))

-- the runs around one of them
pub around : (runs : List Run) (at : ℕ) (d : Run) → at < length runs → runs ≡ take at runs ++ get_or runs at d ∷ drop (at + 1) runs
around runs at d within = sym (take-append-drop at runs) ∙ ap (λ l. take at runs ++ l) (drop_more runs at d within)

-- runs, one of which lost a page
pub record IsCut (runs new : List Run) (at o : ℕ) (run : Run) : Type 0 where
  pub order : AreRuns new
  pub places : ChangesPlace (run.page + o) Absent runs new

is_cut : (runs new : List Run) (at o : ℕ) (run : Run) → at < length runs → run ≡ get_or runs at run → AreRuns runs → o < run.count
    → new ≡ take at runs ++ (front_piece o run ++ rest_piece o run ++ drop (at + 1) runs) → IsCut runs new at o run
is_cut runs new at o run within here h lt is =
    let parts : runs ≡ take at runs ++ run ∷ drop (at + 1) runs = around runs at run within ∙ ap (λ r. take at runs ++ r ∷ drop (at + 1) runs) (sym here) in
    let order : AreRuns (take at runs ++ run ∷ drop (at + 1) runs) = subst AreRuns parts h in
    record {
      order = subst AreRuns (sym is) (cut_order o (take at runs) run (drop (at + 1) runs) order lt);
      places = λ p. ap (λ l. place_of l p) is ∙ cut_places o (take at runs) run (drop (at + 1) runs) order lt p ∙ ap (λ l. with_place (run.page + o) Absent (place_of l) p) (sym parts);
    }

-- if nothing stood after the page
pub cut_last : (runs new : List Run) (at o : ℕ) (run : Run) → at < length runs → run ≡ get_or runs at run → AreRuns runs → run.count ≡ o + 1
    → new ≡ take at runs ++ front_piece o run ++ drop (at + 1) runs → IsCut runs new at o run
cut_last runs new at o run within here h last is =
    let none : eqb run.count (o + 1) ≡ true = eq-eqb run.count (o + 1) last in
    is_cut runs new at o run within here h (omega (arith, last)) (is ∙ append_assoc (take at runs) (front_piece o run) (drop (at + 1) runs) ∙ ap (λ l. take at runs ++ (l ++ drop (at + 1) runs)) (sym (append-nil (front_piece o run)) ∙ ap (λ l. front_piece o run ++ l) (rw none refl)))

-- if the pages after it were put after the run first
pub cut_middle : (runs mid new : List Run) (at o : ℕ) (run : Run) → at < length runs → run ≡ get_or runs at run → AreRuns runs → o + 1 < run.count
    → mid ≡ take (at + 1) runs ++ rest_from (o + 1) run ∷ drop (at + 1) runs
    → new ≡ take at mid ++ front_piece o (get_or mid at run) ++ drop (at + 1) mid → IsCut runs new at o run
cut_middle runs mid new at o run within here h lt mids is =
    let some : eqb run.count (o + 1) ≡ false = grind (arith, lt) in
    let tail = rest_from (o + 1) run ∷ drop (at + 1) runs in
    let front : take at mid ≡ take at runs = ap (take at) mids ∙ taken_before runs at tail within in
    let same : get_or mid at run ≡ run = ap (λ l. get_or l at run) mids ∙ got_before runs at tail run within ∙ sym here in
    let back : drop (at + 1) mid ≡ tail = ap (drop (at + 1)) mids ∙ behind_taken runs (at + 1) tail (omega (arith, within)) in
    is_cut runs new at o run within here h (omega (arith, lt))
    (is ∙ ap (λ l. l ++ front_piece o (get_or mid at run) ++ drop (at + 1) mid) front
    ∙ ap (λ r. take at runs ++ front_piece o r ++ drop (at + 1) mid) same
    ∙ ap (λ l. take at runs ++ front_piece o run ++ l) back
    ∙ append_assoc (take at runs) (front_piece o run) tail
    ∙ ap (λ l. take at runs ++ l) (sym (append_assoc (front_piece o run) (rest_from (o + 1) run ∷ []) (drop (at + 1) runs)) ∙ ap (λ l. front_piece o run ++ l ++ drop (at + 1) runs) (rw some refl)))
  where
    taken_before : (runs : List Run) (at : ℕ) (tail : List Run) → at < length runs → take at (take (at + 1) runs ++ tail) ≡ take at runs
    taken_before runs at tail within =
        let next : at + 1 ≡ suc at = omega arith in
        rw next (go runs at within)
      where
        go : (runs : List Run) (at : ℕ) → at < length runs → take at (take (suc at) runs ++ tail) ≡ take at runs
        go [] at w = absurd (omega arith)
        go (r ∷ rs) zero w = refl
        go (r ∷ rs) (suc at) w = ap (λ l. r ∷ l) (go rs at (omega arith))

    got_before : (runs : List Run) (at : ℕ) (tail : List Run) (d : Run) → at < length runs → get_or (take (at + 1) runs ++ tail) at d ≡ get_or runs at d
    got_before runs at tail d within =
        let next : at + 1 ≡ suc at = omega arith in
        rw next (go runs at within)
      where
        go : (runs : List Run) (at : ℕ) → at < length runs → get_or (take (suc at) runs ++ tail) at d ≡ get_or runs at d
        go [] at w = absurd (omega arith)
        go (r ∷ rs) zero w = refl
        go (r ∷ rs) (suc at) w = go rs at (omega arith)

abbrev pub kept_by : ℕ → List Run → ℕ → Run → List Run
kept_by at runs o run = take at runs ++ front_piece o run ++ drop (at + 1) runs

abbrev pub rested_by : ℕ → List Run → ℕ → Run → List Run
rested_by at runs o run = take (at + 1) runs ++ rest_from (o + 1) run ∷ drop (at + 1) runs

pub absent_in_front : (runs : List Run) (at page : ℕ) → place_of runs page ≡ Absent → place_of (take at runs) page ≡ Absent
absent_in_front runs at page absent =
    over_absent (place_of (take at runs) page) (place_of (drop at runs) page)
    (sym (place_append (take at runs) (drop at runs) page) ∙ ap (λ l. place_of l page) (take-append-drop at runs) ∙ absent)
