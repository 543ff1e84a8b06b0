-- How many pages a file has, by its runs.
use Rattle.std.proofs.Common.{◌≡◌, ◌∙◌, ◌+◌, ◌-◌, ◌<◌, ◌≤◌, ℕ, zero, suc, Bool, true, false, cond, count_by, min, List, [], ◌∷◌, get_or, length, Option, Some, None, is_some, sum_by, refl, sym, ap, subst, arith, ⊎_elim, true≢false}
use Rattle.std.proofs.lemmas.Bool.{cases_eq, cases_lt}
use Rattle.std.proofs.lemmas.List.Sums.{sum_by-append}
use Rattle.std.specs.Cmp.{nat_cmp_total}
use Rattle.std.specs.FinMap as map
use Rattle.std.specs.FinMap.{contains_key, get, len, remove}
use Rattle.std.specs.List.{range_with_len}
use Rattle.std.specs.Option.{option_map}
use Rattle.std.specs.Ordering.{nat_cmp}
use Rattle.domain_memory.specs.domain_base.Limits.{file_pages}
use Rattle.domain_memory.specs.extent_maps.Runs.{AreRuns, BeginFrom, FirstFollows, IsRun, behind, covers, end_of, home_at, place_of, placed}
use Rattle.domain_memory.specs.extent_maps.declared.run.PagePlace.TheVariants.{Absent}
use Rattle.domain_memory.specs.extent_maps.declared.run.Run.{Run}
use Rattle.domain_memory.specs.extent_maps.declared.run.RunPlace.{RunPlace}
use Rattle.domain_memory.specs.extent_maps.declared.run.RunPlace.TheVariants as place
use Rattle.domain_memory.proofs.OfExtentMaps.EditLemmas.{covers_from, covers_is}
use Rattle.domain_memory.specs.fileset_model.Pages.{Pages}
use Rattle.domain_memory.proofs.OfFilesetValues.MapLemmas.{get-remove_other, got-remove}
use Rattle.domain_memory.proofs.OfFilesetModel.PageLemmas.{count_by-range_with_len_more}
use Rattle.file_changes.specs.Counting.{count_between, count_in}

-- ---- a count over numbers in a row

sum_next : (f : Run → ℕ) (run : Run) (runs : List Run) → sum_by f (run ∷ runs) ≡ f run + sum_by f runs
sum_next f run runs = sum_by-append f (run ∷ []) runs ∙ omega arith

next_is : (n : ℕ) → suc n ≡ n + 1
next_is n = omega arith

pub count_parts : (p : ℕ → Bool) (from a b all : ℕ) → a + b ≡ all → count_by p (range_with_len from all) ≡ count_by p (range_with_len from a) + count_by p (range_with_len (from + a) b)
count_parts p from a zero all e =
    let same : all ≡ a = omega (arith, e) in
    ap (λ n. count_by p (range_with_len from n)) same ∙ omega arith
count_parts p from a (suc b) all e =
    let before : a + b + 1 ≡ all = omega (arith, e) in
    let next : from + (a + b) ≡ from + a + b = omega arith in
    ap (λ n. count_by p (range_with_len from n)) (sym before)
    ∙ count_by-range_with_len_more p from (a + b) (from + a + b) next
    ∙ ap (λ n. n + cond (p (from + a + b)) 1 0) (count_parts p from a b (a + b) refl)
    ∙ omega (arith, count_by-range_with_len_more p (from + a) b (from + a + b) refl, ap (λ k. count_by p (range_with_len (from + a) k)) (next_is b))

count_none : (p : ℕ → Bool) (from n : ℕ) → ((q : ℕ) → from ≤ q → q < from + n → p q ≡ false) → count_by p (range_with_len from n) ≡ 0
count_none p from zero never = refl
count_none p from (suc n) never =
    let last : cond (p (from + n)) 1 0 ≡ 0 = ap {B = ℕ} (λ b. cond b 1 0) (never (from + n) (omega arith) (omega arith)) in
    ap (λ k. count_by p (range_with_len from k)) (next_is n)
    ∙ count_by-range_with_len_more p from n (from + n) refl
    ∙ omega (arith, last, count_none p from n (λ q low high. never q low (omega (arith, high))))

count_all : (p : ℕ → Bool) (from n : ℕ) → ((q : ℕ) → from ≤ q → q < from + n → p q ≡ true) → count_by p (range_with_len from n) ≡ n
count_all p from zero always = refl
count_all p from (suc n) always =
    let last : cond (p (from + n)) 1 0 ≡ 1 = ap {B = ℕ} (λ b. cond b 1 0) (always (from + n) (omega arith) (omega arith)) in
    ap (λ k. count_by p (range_with_len from k)) (next_is n)
    ∙ count_by-range_with_len_more p from n (from + n) refl
    ∙ omega (arith, last, count_all p from n (λ q low high. always q low (omega (arith, high))))

pub count_same : (p r : ℕ → Bool) (from n : ℕ) → ((q : ℕ) → from ≤ q → q < from + n → p q ≡ r q) → count_by p (range_with_len from n) ≡ count_by r (range_with_len from n)
count_same p r from zero same = refl
count_same p r from (suc n) same =
    let last : cond (p (from + n)) 1 0 ≡ cond (r (from + n)) 1 0 = ap {B = ℕ} (λ b. cond b 1 0) (same (from + n) (omega arith) (omega arith)) in
    let so_far = count_same p r from n (λ q low high. same q low (omega (arith, high))) in
    ap (λ k. count_by p (range_with_len from k)) (next_is n)
    ∙ count_by-range_with_len_more p from n (from + n) refl
    ∙ omega (arith, last, so_far, count_by-range_with_len_more r from n (from + n) refl)
    ∙ sym (ap (λ k. count_by r (range_with_len from k)) (next_is n))

-- ---- how many keys a map has

no_key : (pages : Pages) → ((q : ℕ) → contains_key pages q ≡ false) → pages ≡ map.empty
no_key pages none = map.same_map nat_cmp_total map.nat_cmp-IsAntisymmetric pages map.empty (λ q. by_page (get pages q) (none q) ∙ sym (map.get-empty nat_cmp q))
  where
    by_page : (o : Option (List ℕ)) → is_some o ≡ false → o ≡ None
    by_page None never = refl
    by_page (Some page) never = absurd (true≢false never)

some_len : (pages : Pages) (q : ℕ) → contains_key pages q ≡ true → 1 ≤ len pages
some_len pages q there = ⊎_elim (λ none. absurd (not_empty (map.empty_of_len pages (omega (arith, none))))) (λ some. omega (arith, some)) (cases_lt (len pages) 1)
  where
    not_empty : pages ≡ map.empty → ⊥
    not_empty is = true≢false (sym there ∙ ap (λ (m : Pages). contains_key m q) is ∙ ap is_some (map.get-empty nat_cmp q))

-- those of numbers before one are counted
pub keys_counted : (has : ℕ → Bool) (keep : ℕ) (pages : Pages) → ((q : ℕ) → q < keep → contains_key pages q ≡ has q) → ((q : ℕ) → keep ≤ q → contains_key pages q ≡ false) → len pages ≡ count_by has (range_with_len 0 keep)
keys_counted has zero pages near far = ap len (no_key pages (λ q. far q (omega arith))) ∙ map.len-empty nat_cmp (List ℕ)
keys_counted has (suc k) pages near far =
    let less = remove pages k in
    let gone : contains_key less k ≡ false = by_left (get less k) refl in
    let rest = keys_counted has k less
    (λ q below. ap is_some (get-remove_other nat_cmp_total map.nat_cmp-IsAntisymmetric pages k q (λ same. omega (arith, below, same))) ∙ near q (omega (arith, below)))
    (λ q from. ⊎_elim (λ same. subst (λ n. contains_key less n ≡ false) (sym same) gone)
    (λ other. ap is_some (get-remove_other nat_cmp_total map.nat_cmp-IsAntisymmetric pages k q other) ∙ far q (omega (arith, from, other))) (cases_eq q k)) in
    by_last (contains_key pages k) refl rest
  where
    by_left : (o : Option (List ℕ)) → get (remove pages k) k ≡ o → is_some o ≡ false
    by_left None is = refl
    by_left (Some page) is = absurd ((got-remove nat_cmp_total map.nat_cmp-IsAntisymmetric pages k k page is).0 refl)

    by_last : (b : Bool) → contains_key pages k ≡ b → len (remove pages k) ≡ count_by has (range_with_len 0 k) → len pages ≡ count_by has (range_with_len 0 (suc k))
    by_last true there rest =
        let had = some_len pages k there in
        let one_less = map.len-remove nat_cmp_total pages k ∙ ap (λ b. cond b (len pages - 1) (len pages)) there in
        let last : cond (has k) 1 0 ≡ 1 = ap {B = ℕ} (λ b. cond b 1 0) (sym (near k (omega arith)) ∙ there) in
        let more = ap (λ n. count_by has (range_with_len 0 n)) (next_is k) ∙ count_by-range_with_len_more has 0 k k (omega arith) in
        omega (arith, had, one_less, last, rest, more)
    by_last false none rest =
        let as_many = map.len-remove nat_cmp_total pages k ∙ ap (λ b. cond b (len pages - 1) (len pages)) none in
        let last : cond (has k) 1 0 ≡ 0 = ap {B = ℕ} (λ b. cond b 1 0) (sym (near k (omega arith)) ∙ none) in
        let more = ap (λ n. count_by has (range_with_len 0 n)) (next_is k) ∙ count_by-range_with_len_more has 0 k k (omega arith) in
        omega (arith, as_many, last, rest, more)

-- ---- by runs

abbrev has_home : List Run → ℕ → Bool
has_home runs q = is_some (home_at (place_of runs q))

-- where the first of runs begins, there they begin
pub begin_from : (runs : List Run) (run : Run) → IsRun run → FirstFollows run runs → AreRuns runs → BeginFrom (end_of run) runs
begin_from [] run is follows are = tt
begin_from (next ∷ runs) run is follows are =
    (follows.behind, later runs (begin_from runs next are.0 are.1 are.2))
  where
    later : (rest : List Run) → BeginFrom (end_of next) rest → BeginFrom (end_of run) rest
    later [] from = tt
    later (r ∷ rest) from = (omega (arith, from.0, follows.behind, are.0.some), later rest from.1)

pub absent_before : (runs : List Run) (from q : ℕ) → BeginFrom from runs → q < from → place_of runs q ≡ Absent
absent_before [] from q begin below = refl
absent_before (run ∷ runs) from q begin below = by_cover (absent_before runs from q begin.1 below) (covers run q) refl
  where
    by_cover : place_of runs q ≡ Absent → (b : Bool) → covers run q ≡ b → cond b (placed (behind (q - run.page) run.first)) (place_of runs q) ≡ Absent
    by_cover rest true is = absurd (omega (arith, (covers_is run q is).0, begin.0, below))
    by_cover rest false is = rest

pub covers_not : (run : Run) (q : ℕ) → end_of run ≤ q → covers run q ≡ false
covers_not run q far = by_cover (covers run q) refl
  where
    by_cover : (b : Bool) → covers run q ≡ b → b ≡ false
    by_cover true is = absurd (omega (arith, (covers_is run q is).1, far))
    by_cover false is = refl

module _ (run : Run) (runs : List Run) (keep : ℕ) (are : AreRuns (run ∷ runs)) where
  from_end : BeginFrom (end_of run) runs
  from_end = begin_from runs run are.0 are.1 are.2

  behind_first : BeginFrom run.page runs
  behind_first = later runs from_end
    where
      later : (rest : List Run) → BeginFrom (end_of run) rest → BeginFrom run.page rest
      later [] from = tt
      later (r ∷ rest) from = (omega (arith, from.0), later rest from.1)

  covered : (q : ℕ) → run.page ≤ q → q < end_of run → has_home (run ∷ runs) q ≡ is_some (home_at (placed (behind (q - run.page) run.first)))
  covered q low high = ap (λ t. is_some (home_at (cond t (placed (behind (q - run.page) run.first)) (place_of runs q)))) (covers_from run q low high)

  uncovered : (q : ℕ) → end_of run ≤ q → has_home (run ∷ runs) q ≡ has_home runs q
  uncovered q far = ap (λ t. is_some (home_at (cond t (placed (behind (q - run.page) run.first)) (place_of runs q)))) (covers_not run q far)

  -- those of the run
  own_counted : (first : RunPlace) → run.first ≡ first → (n : ℕ) → run.page + n ≤ end_of run → count_by (has_home (run ∷ runs)) (range_with_len run.page n) ≡ count_between first run.page (run.page + n)
  own_counted (place.At home) is n within =
      let all : count_by (has_home (run ∷ runs)) (range_with_len run.page n) ≡ n = count_all (has_home (run ∷ runs)) run.page n (λ q low high. covered q low (omega (arith, high, within)) ∙ ap (λ f. is_some (home_at (placed (behind (q - run.page) f)))) is) in
      omega (arith, all)
  own_counted place.Holes is n within =
      count_none (has_home (run ∷ runs)) run.page n (λ q low high. covered q low (omega (arith, high, within)) ∙ ap (λ f. is_some (home_at (placed (behind (q - run.page) f)))) is)

  -- if it is not reached, none of it counts
  none_counted : (first : RunPlace) → keep ≤ run.page → count_between first run.page (min keep (end_of run)) ≡ 0
  none_counted (place.At home) low = omega (arith, low)
  none_counted place.Holes low = refl

  -- those before it are absent
  module _ (from : ℕ) (begins : from ≤ run.page) where
    front : (a : ℕ) → from + a ≤ run.page → count_by (has_home (run ∷ runs)) (range_with_len from a) ≡ 0
    front a near = count_none (has_home (run ∷ runs)) from a (λ q low high. ap (λ p. is_some (home_at p)) (absent_before (run ∷ runs) run.page q (omega arith, behind_first) (omega (arith, high, near))))

    module _ (n : ℕ) (e : n ≡ keep - from) (rest : count_by (has_home runs) (range_with_len (end_of run) (keep - end_of run)) ≡ sum_by (count_in keep) runs) where
      none_behind : keep ≤ end_of run → sum_by (count_in keep) runs ≡ 0
      none_behind low =
          let zero_more : keep - end_of run ≡ 0 = omega (arith, low) in
          sym rest ∙ ap (λ k. count_by (has_home runs) (range_with_len (end_of run) k)) zero_more

      before : keep ≤ run.page → count_by (has_home (run ∷ runs)) (range_with_len from n) ≡ count_in keep run + sum_by (count_in keep) runs
      before low =
          let own = none_counted run.first low in
          let behind_it = none_behind (omega (arith, low)) in
          let all = front n (omega (arith, e, low, begins)) in
          omega (arith, own, behind_it, all)

      within : run.page ≤ keep → keep ≤ end_of run → count_by (has_home (run ∷ runs)) (range_with_len from n) ≡ count_in keep run + sum_by (count_in keep) runs
      within high low =
          let a = run.page - from in
          let b = keep - run.page in
          let start : from + a ≡ run.page = omega (arith, begins) in
          let parts = count_parts (has_home (run ∷ runs)) from a b n (omega (arith, e, high, begins)) in
          let none = front a (omega (arith, start)) in
          let at = ap (λ k. count_by (has_home (run ∷ runs)) (range_with_len k b)) start in
          let own = own_counted run.first refl b (omega (arith, high, low)) in
          let end : run.page + b ≡ min keep (end_of run) = omega (arith, high, low) in
          let as_end = ap (count_between run.first run.page) end in
          let behind_it = none_behind low in
          omega (arith, parts, none, at, own, as_end, behind_it)

      beyond : end_of run ≤ keep → count_by (has_home (run ∷ runs)) (range_with_len from n) ≡ count_in keep run + sum_by (count_in keep) runs
      beyond high =
          let a = run.page - from in
          let b = run.count in
          let c = keep - end_of run in
          let start : from + a ≡ run.page = omega (arith, begins) in
          let next : run.page + b ≡ end_of run = omega arith in
          let parts = count_parts (has_home (run ∷ runs)) from a (b + c) n (omega (arith, e, high, begins)) in
          let none = front a (omega (arith, start)) in
          let at = ap (λ k. count_by (has_home (run ∷ runs)) (range_with_len k (b + c))) start in
          let more = count_parts (has_home (run ∷ runs)) run.page b c (b + c) refl in
          let own = own_counted run.first refl b (omega arith) in
          let end : run.page + b ≡ min keep (end_of run) = omega (arith, high) in
          let as_end = ap (count_between run.first run.page) end in
          let behind_it = ap (λ k. count_by (has_home (run ∷ runs)) (range_with_len k c)) next in
          let as_rest = count_same (has_home (run ∷ runs)) (has_home runs) (end_of run) c (λ q low less. uncovered q low) in
          omega (arith, parts, none, at, more, own, as_end, behind_it, as_rest, rest)

runs_counted : (runs : List Run) (keep from n : ℕ) → AreRuns runs → BeginFrom from runs → n ≡ keep - from → count_by (has_home runs) (range_with_len from n) ≡ sum_by (count_in keep) runs
runs_counted [] keep from n are begin e = count_none (has_home []) from n (λ q low high. refl)
runs_counted (run ∷ runs) keep from n are begin e =
    let rest = runs_counted runs keep (end_of run) (keep - end_of run) are.2 (from_end run runs keep are) refl in
    (⊎_elim (λ less. before run runs keep are from begin.0 n e rest (omega (arith, less)))
    (λ high. ⊎_elim (λ part. within run runs keep are from begin.0 n e rest high (omega (arith, part))) (λ whole. beyond run runs keep are from begin.0 n e rest whole) (cases_lt keep (end_of run)))
    (cases_lt keep run.page))
    ∙ sym (sum_next (count_in keep) run runs)

-- no more than a file may have
counted_within : (keep : ℕ) (run : Run) → IsRun run → count_in keep run + run.page ≤ end_of run
counted_within keep run is = by_first run.first
  where
    by_first : (first : RunPlace) → count_between first run.page (min keep (end_of run)) + run.page ≤ end_of run
    by_first (place.At home) = omega (arith, is.some)
    by_first place.Holes = omega arith

few_from : (runs : List Run) (keep : ℕ) (run : Run) → AreRuns (run ∷ runs) → sum_by (count_in keep) (run ∷ runs) + run.page ≤ file_pages
few_from [] keep run are =
    let own = counted_within keep run are.0 in
    let sum = sum_next (count_in keep) run [] in
    omega (arith, own, sum, are.0.ends)
few_from (next ∷ runs) keep run are =
    let own = counted_within keep run are.0 in
    let rest = few_from runs keep next are.2 in
    let sum = sum_next (count_in keep) run (next ∷ runs) in
    omega (arith, own, rest, sum, are.1.behind)

pub few_counted : (runs : List Run) (keep : ℕ) → AreRuns runs → sum_by (count_in keep) runs ≤ file_pages
few_counted [] keep are = omega arith
few_counted (run ∷ runs) keep are = let few = few_from runs keep run are in omega (arith, few)

-- of a file whose pages stand in the runs as far as it keeps them
pub len_counted : (pages : Pages) (runs : List Run) (keep : ℕ) → AreRuns runs → ((q : ℕ) → q < keep → contains_key pages q ≡ is_some (home_at (place_of runs q))) → ((q : ℕ) → keep ≤ q → contains_key pages q ≡ false) → len pages ≡ sum_by (count_in keep) runs
len_counted pages runs keep are near far =
    keys_counted (has_home runs) keep pages near far ∙ runs_counted runs keep 0 keep are (all_from runs) (omega arith)
  where
    all_from : (rest : List Run) → BeginFrom 0 rest
    all_from [] = tt
    all_from (run ∷ rest) = (omega arith, all_from rest)

pub some_mapped : {X Y : Type 0} (f : X → Y) (o : Option X) → is_some (option_map f o) ≡ is_some o
some_mapped f None = refl
some_mapped f (Some x) = refl

pub run_in : (runs : List Run) (k : ℕ) (d : Run) → AreRuns runs → k < length runs → IsRun (get_or runs k d)
run_in [] k d are within = absurd (omega (arith, within))
run_in (run ∷ runs) zero d are within = are.0
run_in (run ∷ runs) (suc k) d are within = run_in runs k d are.2 (omega (arith, within))
