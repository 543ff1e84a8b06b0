-- Runs that are found page by page are those that are as long as they can be.
use Rattle.std.proofs.Common.{◌≡◌, ◌∙◌, inl, inr, ℕ, ◌+◌, ◌-◌, ◌==◌, ◌<◌, ◌≤◌, Bool, true, false, cond, eqb-true, List, [], ◌∷◌, ◌++◌, length, Option, Some, None, Contains, append_assoc, refl, sym, ap, subst, arith, ⊎_elim}
use Rattle.std.specs.List.{AllByRecursion}
use Rattle.std.specs.FinSet.{contains}
use Rattle.std.proofs.lemmas.Bool.{cases_lt, eq-eqb, eqb-false}
use Rattle.std.proofs.lemmas.List.{get_or_past}
use Rattle.std.proofs.lemmas.List.Elements.{All-contains, All-from_recursion, Contains-append_cases, Contains-append_left, Contains-append_right, Contains-push}
use mathlib.Core.Bool.{false≢true}
use Rattle.free_space.specs.Runs.{AddsRuns, AreInOrder, AreRuns, IsRunIn, IsRunOf, IsRunOn, IsWholeRun, StandsBefore, run_at, run_before}
use Rattle.free_space.specs.Spaces.{Spaces, volume_of}
use Rattle.free_space.specs.VolumePages.{VolumePages}
use Rattle.free_space.specs.VolumeSpace.{VolumeSpace, volume_pages}
use Rattle.free_space.specs.declared.runs.FreeRun.{FreeRun}

weaken : (P Q : FreeRun → Type 0) → ((run : FreeRun) → P run → Q run) → (runs : List FreeRun) → AllByRecursion P runs → AllByRecursion Q runs
weaken P Q so [] each = tt
weaken P Q so (run ∷ runs) each = (so run each.0, weaken P Q so runs each.1)

append_nil : (xs : List FreeRun) → xs ≡ xs ++ []
append_nil [] = refl
append_nil (x ∷ xs) = ap (λ l. x ∷ l) (append_nil xs)

push_all : (P : FreeRun → Type 0) (runs : List FreeRun) (run : FreeRun) → AllByRecursion P runs → P run → AllByRecursion P (runs ++ run ∷ [])
push_all P [] run each is = (is, tt)
push_all P (one ∷ runs) run each is = (each.0, push_all P runs run each.1 is)

push_order : (runs : List FreeRun) (run : FreeRun) → AreInOrder runs → AllByRecursion (λ one. StandsBefore one run) runs → AreInOrder (runs ++ run ∷ [])
push_order [] run order before = (tt, tt)
push_order (one ∷ runs) run order before = (push_all (StandsBefore one) runs run order.0 before.0, push_order runs run order.1 before.1)

-- the pages before a page, if there are none and if there are some
pub run_none : (vol end count : ℕ) (runs : List FreeRun) → count ≡ 0 → runs ≡ runs ++ run_before vol end count
run_none vol end count runs none = append_nil runs ∙ ap (λ (l : List FreeRun). runs ++ l) (by_test (count == 0) (eq-eqb count 0 none))
  where
    by_test : (b : Bool) → b ≡ true → ◌≡◌ {A = List FreeRun} [] (cond b [] (run_at vol (end - count) count ∷ []))
    by_test true is = refl
    by_test false is = absurd (false≢true is)

pub run_some : (vol end count : ℕ) → 0 < count → run_at vol (end - count) count ∷ [] ≡ run_before vol end count
run_some vol end count some = by_test (count == 0) refl
  where
    by_test : (b : Bool) → (count == 0) ≡ b → run_at vol (end - count) count ∷ [] ≡ cond b [] (run_at vol (end - count) count ∷ [])
    by_test true is = absurd (omega (arith, eqb-true count 0 is, some))
    by_test false is = refl

module _ (vol : ℕ) (m : VolumePages) where
  -- a run of the volume that ends before a page
  abbrev pub IsEnded : ℕ → FreeRun → Type 0
  IsEnded page run = (run.first.vol ≡ vol) × IsWholeRun m run.first.page run.count × (run.first.page + run.count < page)

  -- those that end before a page were found
  pub record AreEnded (page : ℕ) (runs : List FreeRun) : Type 0 where
    pub each : AllByRecursion (IsEnded page) runs
    pub all : (first count : ℕ) → IsWholeRun m first count → first + count < page → Contains runs (run_at vol first count)
    pub order : AreInOrder runs

  -- the last pages before a page are free, and no more of them
  pub record IsTail (page count : ℕ) : Type 0 where
    pub within : count ≤ page
    pub free : (p : ℕ) → page - count ≤ p → p < page → contains m.used p ≡ false
    pub front : (p : ℕ) → p + 1 + count ≡ page → contains m.used p ≡ true

  pub record AreFound (page count : ℕ) (runs : List FreeRun) : Type 0 where
    pub ended : AreEnded page runs
    pub tail : IsTail page count

  pub found_none : AreFound 0 0 []
  found_none = record {
    ended = record { each = tt; all = λ first count whole low. absurd (omega (arith, low)); order = tt };
    tail = record { within = omega arith; free = λ p low high. absurd (omega (arith, high)); front = λ p is. absurd (omega (arith, is)) };
  }

  both : {P : Type 0} (p : ℕ) → contains m.used p ≡ false → contains m.used p ≡ true → P
  both p free used = absurd (false≢true (sym free ∙ used))

  module _ (page count : ℕ) (runs : List FreeRun) (found : AreFound page count runs) where
    -- a free page follows
    pub found_free : page < m.pages → contains m.used page ≡ false → AreFound (page + 1) (count + 1) runs
    found_free within free = record {
      ended = record {
        each = weaken (IsEnded page) (IsEnded (page + 1)) (λ run is. (is.0, is.1, omega (arith, is.2))) runs found.ended.each;
        all = λ first n whole low. ⊎_elim (λ less. found.ended.all first n whole less)
            (λ far.
            let at : first + n ≡ page = omega (arith, low, far) in
            both page free (subst (λ p. contains m.used p ≡ true) at (whole.back (omega (arith, at, within)))))
            (cases_lt (first + n) page);
        order = found.ended.order;
      };
      tail = record {
        within = omega (arith, found.tail.within);
        free = λ p low high. ⊎_elim (λ less. found.tail.free p (omega (arith, low, found.tail.within)) less)
            (λ far. let same : page ≡ p = omega (arith, high, far) in subst (λ q. contains m.used q ≡ false) same free) (cases_lt p page);
        front = λ p is. found.tail.front p (omega (arith, is));
      };
    }

    -- the pages before it are a run, if it is used or after the last one
    module _ (most : page ≤ m.pages) (end : page < m.pages → contains m.used page ≡ true) where
      ended_here : (first n : ℕ) → IsWholeRun m first n → first + n ≡ page → n ≡ count
      ended_here first n whole at =
          ⊎_elim
          (λ fewer.
          let p : ℕ = first - 1 in
          let there : p + 1 ≡ first = omega (arith, at, fewer, found.tail.within) in
          both p (found.tail.free p (omega (arith, at, fewer, there)) (omega (arith, at, there, whole.some))) (whole.front p there))
          (λ more. ⊎_elim
          (λ less.
          let p : ℕ = page - count - 1 in
          let there : p + 1 + count ≡ page = omega (arith, at, less) in
          both p (whole.free.free p (omega (arith, at, less, there)) (omega (arith, at, there))) (found.tail.front p there))
          (λ far. omega (arith, more, far)) (cases_lt count n))
          (cases_lt n count)

      whole_here : 1 ≤ count → IsWholeRun m (page - count) count
      whole_here some = record {
        some = some;
        free = record { within = omega (arith, most, found.tail.within); free = λ q low high. found.tail.free q low (omega (arith, high, found.tail.within)) };
        front = λ p is. found.tail.front p (omega (arith, is, found.tail.within));
        back = λ less.
            let at : page - count + count ≡ page = omega (arith, found.tail.within) in
            subst (λ q. contains m.used q ≡ true) (sym at) (end (omega (arith, less, at)));
      }

      in_front : (run : FreeRun) → IsEnded page run → run.first.page < page - count
      in_front run is =
          ⊎_elim (λ less. omega (arith, less))
          (λ far. both (run.first.page + run.count) (found.tail.free (run.first.page + run.count) far is.2) (is.1.back (omega (arith, is.2, most))))
          (cases_lt (run.first.page + run.count) (page - count))

      ended_by : (b : Bool) → (count == 0) ≡ b → AreEnded (page + 1) (runs ++ cond b [] (run_at vol (page - count) count ∷ []))
      ended_by true test =
          let none : count ≡ 0 = eqb-true count 0 test in
          record {
            each = append_none (weaken (IsEnded page) (IsEnded (page + 1)) (λ run is. (is.0, is.1, omega (arith, is.2))) runs found.ended.each);
            all = λ first n whole low. ⊎_elim (λ less. Contains-append_left runs [] (run_at vol first n) (found.ended.all first n whole less))
                (λ far.
                let same = ended_here first n whole (omega (arith, low, far)) in
                absurd (omega (arith, same, none, whole.some)))
                (cases_lt (first + n) page);
            order = none_order found.ended.order;
          }
        where
          append_none : AllByRecursion (IsEnded (page + 1)) runs → AllByRecursion (IsEnded (page + 1)) (runs ++ [])
          append_none each = subst (AllByRecursion (IsEnded (page + 1))) (append_nil runs) each

          none_order : AreInOrder runs → AreInOrder (runs ++ [])
          none_order order = subst AreInOrder (append_nil runs) order
      ended_by false test =
          let other = eqb-false count 0 test in
          let some : 1 ≤ count = omega arith in
          record {
            each = push_all (IsEnded (page + 1)) runs (run_at vol (page - count) count)
                (weaken (IsEnded page) (IsEnded (page + 1)) (λ run is. (is.0, is.1, omega (arith, is.2))) runs found.ended.each)
                (refl, whole_here some, omega (arith, found.tail.within));
            all = λ first n whole low. ⊎_elim (λ less. Contains-append_left runs (run_at vol (page - count) count ∷ []) (run_at vol first n) (found.ended.all first n whole less))
                (λ far.
                let at : first + n ≡ page = omega (arith, low, far) in
                let same : count ≡ n = sym (ended_here first n whole at) in
                let begins : page - count ≡ first = omega (arith, at, same) in
                subst (λ r. Contains (runs ++ run_at vol (page - count) count ∷ []) r) (λ i. run_at vol (begins i) (same i)) (Contains-push runs (run_at vol (page - count) count)))
                (cases_lt (first + n) page);
            order = push_order runs (run_at vol (page - count) count) found.ended.order
                (weaken (IsEnded page) (λ one. StandsBefore one (run_at vol (page - count) count)) (λ run is. inr (is.0, in_front run is)) runs found.ended.each);
          }

      pub ended_all : AreEnded (page + 1) (runs ++ run_before vol page count)
      ended_all = ended_by (count == 0) refl

    -- a used page follows
    pub found_used : page < m.pages → contains m.used page ≡ true → AreFound (page + 1) 0 (runs ++ run_before vol page count)
    found_used within used = record {
      ended = ended_all (omega (arith, within)) (λ less. used);
      tail = record {
        within = omega arith;
        free = λ p low high. absurd (omega (arith, low, high));
        front = λ p is. let same : page ≡ p = omega (arith, is) in subst (λ q. contains m.used q ≡ true) same used;
      };
    }

  -- the runs so far came after others
  pub record AreFoundBehind (page count : ℕ) (old new : List FreeRun) : Type 0 where
    pub runs : List FreeRun
    pub behind : new ≡ old ++ runs
    pub found : AreFound page count runs

  pub behind_none : (old : List FreeRun) → AreFoundBehind 0 0 old old
  behind_none old = record { runs = []; behind = append_nil old; found = found_none }

  pub behind_free : (page count : ℕ) (old now : List FreeRun) → AreFoundBehind page count old now → page < m.pages → contains m.used page ≡ false → AreFoundBehind (page + 1) (count + 1) old now
  behind_free page count old now are within free = record { runs = are.runs; behind = are.behind; found = found_free page count are.runs are.found within free }

  pub behind_used : (page count : ℕ) (old now new : List FreeRun) → AreFoundBehind page count old now → new ≡ now ++ run_before vol page count → page < m.pages → contains m.used page ≡ true → AreFoundBehind (page + 1) 0 old new
  behind_used page count old now new are put within used = record {
    runs = are.runs ++ run_before vol page count;
    behind = put ∙ ap (λ l. l ++ run_before vol page count) are.behind ∙ append_assoc old are.runs (run_before vol page count);
    found = found_used page count are.runs are.found within used;
  }

  pub behind_passed : (page count next : ℕ) (old now new : List FreeRun) → AreFoundBehind page count old now → page < m.pages → (contains m.used page ≡ true → (next ≡ 0) × (new ≡ now ++ run_before vol page count))
      → (contains m.used page ≡ false → (next ≡ count + 1) × (new ≡ now)) → AreFoundBehind (page + 1) next old new
  behind_passed page count next old now new are within used free = by_test (contains m.used page) refl
    where
      by_test : (b : Bool) → contains m.used page ≡ b → AreFoundBehind (page + 1) next old new
      by_test true is =
          let so = used is in
          subst (λ (n : ℕ). AreFoundBehind (page + 1) n old new) (sym so.0) (behind_used page count old now new are so.1 within is)
      by_test false is =
          let so = free is in
          subst (λ (n : ℕ). AreFoundBehind (page + 1) n old new) (sym so.0) (subst (AreFoundBehind (page + 1) (count + 1) old) (sym so.1) (behind_free page count old now are within is))

  -- at the end they are all
  pub all_found : (count : ℕ) (old now new : List FreeRun) → AreFoundBehind m.pages count old now → new ≡ now ++ run_before vol m.pages count → AddsRuns (IsRunIn vol m) old new
  all_found count old now new are put =
      let ended = ended_all m.pages count are.runs are.found (omega arith) (λ less. absurd (omega (arith, less))) in
      record {
        runs = are.runs ++ run_before vol m.pages count;
        behind = put ∙ ap (λ l. l ++ run_before vol m.pages count) are.behind ∙ append_assoc old are.runs (run_before vol m.pages count);
        are = record {
          each = λ run. (
            λ among.
                let is = All-contains (IsEnded (m.pages + 1)) (are.runs ++ run_before vol m.pages count) run (All-from_recursion (IsEnded (m.pages + 1)) (are.runs ++ run_before vol m.pages count) ended.each) among in
                (is.0, is.1),
            λ is.
                let within : run.first.page + run.count < m.pages + 1 = omega (arith, is.1.free.within) in
                subst (Contains (are.runs ++ run_before vol m.pages count)) (λ i. record { first = record { vol = sym is.0 i; page = run.first.page }; count = run.count }) (ended.all run.first.page run.count is.1 within),
          );
          order = ended.order;
        };
      }

-- ---- the runs of all volumes

all_of : (P : FreeRun → Type 0) (runs : List FreeRun) → ((run : FreeRun) → Contains runs run → P run) → AllByRecursion P runs
all_of P [] each = tt
all_of P (run ∷ runs) each = (each run (0, omega arith, refl), all_of P runs (λ other among. each other (Contains-append_right (run ∷ []) runs other among)))

append_all : (P : FreeRun → Type 0) (xs ys : List FreeRun) → AllByRecursion P xs → AllByRecursion P ys → AllByRecursion P (xs ++ ys)
append_all P [] ys each more = more
append_all P (x ∷ xs) ys each more = (each.0, append_all P xs ys each.1 more)

append_order : (xs ys : List FreeRun) → AreInOrder xs → AreInOrder ys → ((x y : FreeRun) → Contains xs x → Contains ys y → StandsBefore x y) → AreInOrder (xs ++ ys)
append_order [] ys order more before = more
append_order (x ∷ xs) ys order more before = (
  append_all (StandsBefore x) xs ys order.0 (all_of (StandsBefore x) ys (λ y among. before x y (0, omega arith, refl) among)),
  append_order xs ys order.1 more (λ one other first second. before one other (Contains-append_right (x ∷ []) xs one first) second),
)

vol_of : (vol : ℕ) (o : Option VolumeSpace) (run : FreeRun) → IsRunOn vol o run → run.first.vol ≡ vol
vol_of vol None run is = absurd is
vol_of vol (Some v) run is = is.1.0

-- those of the first volumes
abbrev pub IsRunBelow : Spaces → ℕ → FreeRun → Type 0
IsRunBelow s index run = IsRunOf s run × (run.first.vol ≤ index)

pub runs_none : (s : Spaces) → AreRuns (IsRunBelow s 0) []
runs_none s = record {
  each = λ run. ((λ among. absurd (omega (arith, among.1))), (λ is. absurd (omega (arith, is.0.0, is.1))));
  order = tt;
}

pub runs_more : (s : Spaces) (index : ℕ) (old new : List FreeRun) → AreRuns (IsRunBelow s index) old → AddsRuns (IsRunOn (index + 1) (volume_of s (index + 1))) old new → AreRuns (IsRunBelow s (index + 1)) new
runs_more s index old new before adds = subst (AreRuns (IsRunBelow s (index + 1))) (sym adds.behind) (record {
  each = λ run. (
    λ among. ⊎_elim
        (λ was. let is = (before.each run).0 was in (is.0, omega (arith, is.1)))
        (λ here.
        let is = (adds.are.each run).0 here in
        let vol : run.first.vol ≡ index + 1 = vol_of (index + 1) (volume_of s (index + 1)) run is in
        ((omega (arith, vol), subst (λ v. IsRunOn v (volume_of s v) run) (sym vol) is), omega (arith, vol)))
        (Contains-append_cases old adds.runs run among),
    λ is. ⊎_elim
        (λ less. Contains-append_left old adds.runs run ((before.each run).1 (is.0, omega (arith, less))))
        (λ far.
        let vol : run.first.vol ≡ index + 1 = omega (arith, is.1, far) in
        Contains-append_right old adds.runs run ((adds.are.each run).1 (subst (λ v. IsRunOn v (volume_of s v) run) vol is.0.1)))
        (cases_lt run.first.vol (index + 1)),
  );
  order = append_order old adds.runs before.order adds.are.order (λ one other first second.
      let low = (before.each one).0 first in
      let vol = vol_of (index + 1) (volume_of s (index + 1)) other ((adds.are.each other).0 second) in
      inl (omega (arith, low.1, vol)));
})

-- after the last volume they are all
pub runs_all : (s : Spaces) (index : ℕ) (runs : List FreeRun) → length s.volumes ≤ index → AreRuns (IsRunBelow s index) runs → AreRuns (IsRunOf s) runs
runs_all s index runs whole are = record {
  each = λ run. (
    λ among. ((are.each run).0 among).0,
    λ is. (are.each run).1 (
      is,
      ⊎_elim (λ less. omega (arith, less)) (λ far.
          absurd (subst (λ o. IsRunOn run.first.vol o run) (get_or_past s.volumes (run.first.vol - 1) None (omega (arith, far, whole))) is.1)) (cases_lt run.first.vol (index + 1)),
    ),
  );
  order = are.order;
}

-- a volume that is not there has none, and one that is not open
pub adds_absent : (vol : ℕ) (runs : List FreeRun) → AddsRuns (IsRunOn vol None) runs runs
adds_absent vol runs = record {
  runs = [];
  behind = append_nil runs;
  are = record { each = λ run. ((λ among. absurd (omega (arith, among.1))), (λ is. absurd is)); order = tt };
}

pub adds_closed : (vol : ℕ) (v : VolumeSpace) (runs : List FreeRun) → v.is_open ≡ false → AddsRuns (IsRunOn vol (Some v)) runs runs
adds_closed vol v runs closed = record {
  runs = [];
  behind = append_nil runs;
  are = record { each = λ run. ((λ among. absurd (omega (arith, among.1))), (λ is. absurd (false≢true (sym closed ∙ is.0)))); order = tt };
}

-- one that is open has those of its pages
pub adds_open : (vol : ℕ) (v : VolumeSpace) (old new : List FreeRun) → v.is_open ≡ true → AddsRuns (IsRunIn vol (volume_pages v)) old new → AddsRuns (IsRunOn vol (Some v)) old new
adds_open vol v old new is_open adds = record {
  runs = adds.runs;
  behind = adds.behind;
  are = record { each = λ run. ((λ among. (is_open, (adds.are.each run).0 among)), (λ is. (adds.are.each run).1 is.1)); order = adds.are.order };
}
