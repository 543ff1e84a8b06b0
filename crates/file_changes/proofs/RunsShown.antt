-- Extents of runs: in order, as long as can be, and each of their pages stands in a run.
use Rattle.std.proofs.Common.{◌≡◌, ◌∙◌, ◌+◌, ◌-◌, ◌<◌, ◌≤◌, ◌==◌, ◌&&◌, ◌++◌, ℕ, zero, suc, All, AllPairs, Any, Bool, true, false, cond, min, nat_lt, IsSomeAnd, List, [], ◌∷◌, get_or, length, take, Option, Some, None, Result, Ok, Err, IfOk, is_some, refl, sym, ap, subst, arith, inl, inr, ⊎_elim, true≢false, eq-eqb, eqb-true, lt-ltb, ltb-true}
use Rattle.std.proofs.lemmas.Bool.{cases_lt}
use Rattle.std.proofs.lemmas.List.{take_more}
use Rattle.std.proofs.lemmas.List.Elements.{All-cons, All-nil, All-weaker, filter_map-append}
use Rattle.std.proofs.lemmas.List.Kept.{AllPairs-cons}
use Rattle.std.specs.FinMap.{contains_key, get}
use Rattle.std.specs.List.{AllAdjacentBelow, cons_option, filter_map}
use Rattle.domain_memory.specs.domain_base.declared.place.Home.{Home}
use Rattle.domain_memory.specs.extent_maps.Runs.{AreRuns, BeginFrom, behind, covers, end_of, goes_on, home_at, place_of, placed, same_place}
use Rattle.domain_memory.specs.extent_maps.declared.run.PagePlace.{PagePlace}
use Rattle.domain_memory.specs.extent_maps.declared.run.PagePlace.TheVariants as at
use Rattle.domain_memory.specs.extent_maps.declared.run.Run.{Run}
use Rattle.domain_memory.specs.extent_maps.declared.run.RunPlace.{RunPlace}
use Rattle.domain_memory.specs.extent_maps.declared.run.RunPlace.TheVariants.{At, Holes}
use Rattle.domain_memory.proofs.OfExtentMaps.EditLemmas.{covers_from, covers_is}
use Rattle.domain_memory.specs.fileset_model.Pages.{Pages}
use Rattle.domain_memory.specs.fileset_values.declared.reply.ExtentItem.{ExtentItem}
use Rattle.domain_memory.specs.legal_histories.State.{Member, MemberMap}
use Rattle.domain_memory.specs.legal_histories.Volumes.{AreApart, IsInRun, ShowsExtents, touches}
use Rattle.file_changes.specs.Extents.{StandsThere, extent_between, extent_of}
use Rattle.file_changes.proofs.Counted.{absent_before, begin_from, covers_not}

-- ---- one run

-- what a run before a page is as an extent
pub record IsCut (keep : ℕ) (run : Run) (e : ExtentItem) : Type 0 where
  pub home : Home
  pub first : run.first ≡ At home
  pub some : run.page < min keep (end_of run)
  pub is : e ≡ record { page = run.page; count = min keep (end_of run) - run.page; vol = home.vol; first = home.page }

some_one : {X : Type 0} (x y : X) → Some x ≡ Some y → x ≡ y
some_one x y e = cc

cut_of : (keep : ℕ) (run : Run) (e : ExtentItem) → extent_of keep run ≡ Some e → IsCut keep run e
cut_of keep run e is = by_first run.first refl is
  where
    by_test : (home : Home) → run.first ≡ At home → (b : Bool) → nat_lt run.page (min keep (end_of run)) ≡ b
        → cond b (Some (record { page = run.page; count = min keep (end_of run) - run.page; vol = home.vol; first = home.page })) None ≡ Some e → IsCut keep run e
    by_test home first true test is = record { home = home; first = first; some = ltb-true run.page (min keep (end_of run)) test; is = sym (some_one _ e is) }
    by_test home first false test is = absurd (let n : None ≡ Some e = is in cc)

    by_first : (first : RunPlace) → run.first ≡ first → extent_between first run.page (min keep (end_of run)) ≡ Some e → IsCut keep run e
    by_first (At home) first is = by_test home first (nat_lt run.page (min keep (end_of run))) refl is
    by_first Holes first is = absurd (let n : None ≡ Some e = is in cc)

-- if it is none, none of its pages before that has a home
cut_none : (keep : ℕ) (run : Run) → extent_of keep run ≡ None → (q : ℕ) → run.page ≤ q → q < end_of run → q < keep → (home : Home) → ¬ placed (behind (q - run.page) run.first) ≡ at.At home
cut_none keep run none q low high near home = by_first run.first none
  where
    by_test : (b : Bool) (e : ExtentItem) → nat_lt run.page (min keep (end_of run)) ≡ b → cond b (Some e) None ≡ None → ⊥
    by_test true e test is = let n : Some e ≡ None = is in cc
    by_test false e test is = true≢false (sym (lt-ltb run.page (min keep (end_of run)) (omega (arith, low, high, near))) ∙ test)

    by_first : (first : RunPlace) → extent_between first run.page (min keep (end_of run)) ≡ None → ¬ placed (behind (q - run.page) first) ≡ at.At home
    by_first (At there) is same = by_test (nat_lt run.page (min keep (end_of run))) _ refl is
    by_first Holes is same = let n : at.Hole ≡ at.At home = same in cc

-- ---- in order, and as long as can be

abbrev pub FirstAfter : ExtentItem → List ExtentItem → Type 0
FirstAfter e [] = Unit {0}
FirstAfter e (n ∷ es) = (e.page + e.count ≤ n.page) × (touches e n ≡ false)

abbrev pub Chained : List ExtentItem → Type 0
Chained [] = Unit {0}
Chained (e ∷ es) = (0 < e.count) × FirstAfter e es × Chained es

-- an extent that ends before another does not touch it
ends_before : (e n : ExtentItem) → e.page + e.count < n.page → touches e n ≡ false
ends_before e n less = by_test (e.page + e.count == n.page) refl
  where
    by_test : (b : Bool) → (e.page + e.count == n.page) ≡ b → (b && (e.vol == n.vol) && (e.first + e.count == n.first)) ≡ false
    by_test true is = let same = eqb-true (e.page + e.count) n.page is in absurd (omega (arith, same, less))
    by_test false is = refl

-- so none does after a gap
gap : (keep : ℕ) (e : ExtentItem) (limit : ℕ) → e.page + e.count < limit → (rest : List Run) → BeginFrom limit rest → FirstAfter e (filter_map (extent_of keep) rest)
gap keep e limit less [] from = tt
gap keep e limit less (run ∷ runs) from = by_option (extent_of keep run) refl (gap keep e limit less runs from.1)
  where
    by_option : (o : Option ExtentItem) → extent_of keep run ≡ o → FirstAfter e (filter_map (extent_of keep) runs) → FirstAfter e (cons_option o (filter_map (extent_of keep) runs))
    by_option None is rest = rest
    by_option (Some n) is rest =
        let cut = cut_of keep run n is in
        let page : n.page ≡ run.page = ap (λ (x : ExtentItem). x.page) cut.is in
        (omega (arith, page, from.0, less), ends_before e n (omega (arith, page, from.0, less)))

both : (a b : Bool) → (a && b) ≡ true → (a ≡ true) × (b ≡ true)
both true true is = (refl, refl)
both true false is = absurd (true≢false (sym is))
both false b is = absurd (true≢false (sym is))

module _ (keep : ℕ) (run next : Run) (e n : ExtentItem) (cut : IsCut keep run e) (other : IsCut keep next n) (behind_it : end_of run ≤ next.page) (apart : goes_on run next ≡ false) where
  not_touching : touches e n ≡ false
  not_touching = by_test (touches e n) refl
    where
      touching : touches e n ≡ true → goes_on run next ≡ true
      touching is =
          let t = both ((e.page + e.count == n.page) && (e.vol == n.vol)) (e.first + e.count == n.first) is in
          let u = both (e.page + e.count == n.page) (e.vol == n.vol) t.0 in
          let pages = eqb-true (e.page + e.count) n.page u.0 in
          let firsts = eqb-true (e.first + e.count) n.first t.1 in
          let page : e.page ≡ run.page = ap (λ (x : ExtentItem). x.page) cut.is in
          let count : e.count ≡ min keep (end_of run) - run.page = ap (λ (x : ExtentItem). x.count) cut.is in
          let first : e.first ≡ cut.home.page = ap (λ (x : ExtentItem). x.first) cut.is in
          let page_n : n.page ≡ next.page = ap (λ (x : ExtentItem). x.page) other.is in
          let first_n : n.first ≡ other.home.page = ap (λ (x : ExtentItem). x.first) other.is in
          let some = cut.some in
          let here : (end_of run == next.page) ≡ true = eq-eqb (end_of run) next.page (omega (arith, pages, page, count, page_n, some, behind_it)) in
          let there : (cut.home.page + run.count == other.home.page) ≡ true = eq-eqb (cut.home.page + run.count) other.home.page (omega (arith, firsts, pages, page, count, first, page_n, first_n, some, behind_it)) in
          let vol : e.vol ≡ cut.home.vol = ap (λ (x : ExtentItem). x.vol) cut.is in
          let vol_n : n.vol ≡ other.home.vol = ap (λ (x : ExtentItem). x.vol) other.is in
          let same = eqb-true e.vol n.vol u.1 in
          let vols : (cut.home.vol == other.home.vol) ≡ true = eq-eqb cut.home.vol other.home.vol (omega (arith, vol, vol_n, same)) in
          here_and here (place_is vols there)
        where
          place_is : (cut.home.vol == other.home.vol) ≡ true → (cut.home.page + run.count == other.home.page) ≡ true → same_place (behind run.count run.first) next.first ≡ true
          place_is vols there = (λ i. same_place (behind run.count (cut.first i)) (other.first i)) ∙ ap (λ b. b && (cut.home.page + run.count == other.home.page)) vols ∙ there

          here_and : (end_of run == next.page) ≡ true → same_place (behind run.count run.first) next.first ≡ true → goes_on run next ≡ true
          here_and here same = ap (λ b. b && same_place (behind run.count run.first) next.first) here ∙ same

      by_test : (b : Bool) → touches e n ≡ b → b ≡ false
      by_test true is = absurd (true≢false (sym (touching is) ∙ apart))
      by_test false is = refl

first_after : (keep : ℕ) (run : Run) (e : ExtentItem) → IsCut keep run e → (rest : List Run) → AreRuns (run ∷ rest) → FirstAfter e (filter_map (extent_of keep) rest)
first_after keep run e cut [] are = tt
first_after keep run e cut (next ∷ more) are = by_option (extent_of keep next) refl
  where
    page : e.page ≡ run.page
    page = ap (λ (x : ExtentItem). x.page) cut.is

    count : e.count ≡ min keep (end_of run) - run.page
    count = ap (λ (x : ExtentItem). x.count) cut.is

    by_option : (o : Option ExtentItem) → extent_of keep next ≡ o → FirstAfter e (cons_option o (filter_map (extent_of keep) more))
    by_option None is =
        gap keep e (end_of next) (omega (arith, page, count, cut.some, are.1.behind, are.2.0.some)) more (begin_from more next are.2.0 are.2.1 are.2.2)
    by_option (Some n) is =
        let other = cut_of keep next n is in
        let page_n : n.page ≡ next.page = ap (λ (x : ExtentItem). x.page) other.is in
        (omega (arith, page, count, cut.some, page_n, are.1.behind), not_touching keep run next e n cut other are.1.behind are.1.apart)

chained : (keep : ℕ) (runs : List Run) → AreRuns runs → Chained (filter_map (extent_of keep) runs)
chained keep [] are = tt
chained keep (run ∷ runs) are = by_option (extent_of keep run) refl (chained keep runs are.2)
  where
    by_option : (o : Option ExtentItem) → extent_of keep run ≡ o → Chained (filter_map (extent_of keep) runs) → Chained (cons_option o (filter_map (extent_of keep) runs))
    by_option None is rest = rest
    by_option (Some e) is rest =
        let cut = cut_of keep run e is in
        let count : e.count ≡ min keep (end_of run) - run.page = ap (λ (x : ExtentItem). x.count) cut.is in
        (omega (arith, count, cut.some), first_after keep run e cut runs are, rest)

-- so it is of each two of them, and of each two that stand side by side
counts : (es : List ExtentItem) → Chained es → All (λ e. 0 < e.count) es
counts [] are = All-nil (λ (e : ExtentItem). 0 < e.count)
counts (e ∷ es) are = All-cons (λ (x : ExtentItem). 0 < x.count) e es are.0 (counts es are.2)

adjacent : (P : ExtentItem → ExtentItem → Type 0) → ((e n : ExtentItem) → (e.page + e.count ≤ n.page) × (touches e n ≡ false) → P e n) → (es : List ExtentItem) → Chained es → AllAdjacentBelow P es (length es)
adjacent P says [] are k d within = absurd (omega (arith, within))
adjacent P says (e ∷ []) are k d within = absurd (omega (arith, within))
adjacent P says (e ∷ n ∷ es) are zero d within = says e n are.1
adjacent P says (e ∷ n ∷ es) are (suc k) d within =
    let next : suc (k + 1) ≡ suc k + 1 = omega arith in
    subst (λ m. P (get_or (n ∷ es) k d) (get_or (e ∷ n ∷ es) m d)) next (adjacent P says (n ∷ es) are.2 k d (omega (arith, within)))

from_page : (bound : ℕ) (e : ExtentItem) (es : List ExtentItem) → Chained (e ∷ es) → bound ≤ e.page → All (λ x. bound ≤ x.page) (e ∷ es)
from_page bound e [] are low = All-cons (λ (x : ExtentItem). bound ≤ x.page) e [] low (All-nil (λ (x : ExtentItem). bound ≤ x.page))
from_page bound e (n ∷ es) are low = All-cons (λ (x : ExtentItem). bound ≤ x.page) e (n ∷ es) low (from_page bound n es are.2 (omega (arith, low, are.1.0)))

abbrev Before : ExtentItem → ExtentItem → Type 0
Before e n = e.page + e.count ≤ n.page

pairs : (es : List ExtentItem) → Chained es → AllPairs Before es
pairs [] are = λ i j d first last. absurd (omega (arith, last))
pairs (e ∷ es) are = AllPairs-cons Before e es (by_rest es are) (pairs es are.2)
  where
    by_rest : (rest : List ExtentItem) → Chained (e ∷ rest) → All (Before e) rest
    by_rest [] chain = All-nil (Before e)
    by_rest (n ∷ rest) chain = from_page (e.page + e.count) n rest chain.2 chain.1.0

-- ---- where their pages stand

any_here : {X : Type 0} (P : X → Type 0) (x : X) (xs : List X) → P x → Any P (x ∷ xs)
any_here P x xs p = (0, x, omega arith, refl, p)

any_later : {X : Type 0} (P : X → Type 0) (x : X) (xs : List X) → Any P xs → Any P (x ∷ xs)
any_later P x xs (k, y, within, is, p) = (suc k, y, omega (arith, within), is, p)

-- a page that has a home is one of theirs
covered : (keep : ℕ) (runs : List Run) → AreRuns runs → (q : ℕ) (home : Home) → q < keep → place_of runs q ≡ at.At home → Any (IsInRun q) (filter_map (extent_of keep) runs)
covered keep [] are q home near there = absurd (let n : at.Absent ≡ at.At home = there in cc)
covered keep (run ∷ runs) are q home near there = by_cover (covered keep runs are.2 q home near) (covers run q) refl there
  where
    by_option : (o : Option ExtentItem) → extent_of keep run ≡ o → run.page ≤ q → q < end_of run → placed (behind (q - run.page) run.first) ≡ at.At home → Any (IsInRun q) (cons_option o (filter_map (extent_of keep) runs))
    by_option None is low high place = absurd (cut_none keep run is q low high near home place)
    by_option (Some e) is low high place =
        let cut = cut_of keep run e is in
        let page : e.page ≡ run.page = ap (λ (x : ExtentItem). x.page) cut.is in
        let count : e.count ≡ min keep (end_of run) - run.page = ap (λ (x : ExtentItem). x.count) cut.is in
        any_here (IsInRun q) e (filter_map (extent_of keep) runs) (omega (arith, page, low), omega (arith, page, count, near, high, low))

    later : (o : Option ExtentItem) → Any (IsInRun q) (filter_map (extent_of keep) runs) → Any (IsInRun q) (cons_option o (filter_map (extent_of keep) runs))
    later None is = is
    later (Some e) is = any_later (IsInRun q) e (filter_map (extent_of keep) runs) is

    by_cover : (place_of runs q ≡ at.At home → Any (IsInRun q) (filter_map (extent_of keep) runs)) → (b : Bool) → covers run q ≡ b → cond b (placed (behind (q - run.page) run.first)) (place_of runs q) ≡ at.At home → Any (IsInRun q) (filter_map (extent_of keep) (run ∷ runs))
    by_cover rest true is place = let c = covers_is run q is in by_option (extent_of keep run) refl c.0 c.1 place
    by_cover rest false is place = later (extent_of keep run) (rest place)

-- and so is each of theirs, which is before the last one that is kept
pub record IsThere (keep : ℕ) (runs : List Run) (e : ExtentItem) : Type 0 where
  pub stands : StandsThere (place_of runs) e
  pub kept : e.page + e.count ≤ keep

there : (keep : ℕ) (runs : List Run) → AreRuns runs → All (IsThere keep runs) (filter_map (extent_of keep) runs)
there keep [] are = All-nil (IsThere keep [])
there keep (run ∷ runs) are = by_option (extent_of keep run) refl (All-weaker (IsThere keep runs) (IsThere keep (run ∷ runs)) wider (filter_map (extent_of keep) runs) (there keep runs are.2))
  where
    wider : (e : ExtentItem) → IsThere keep runs e → IsThere keep (run ∷ runs) e
    wider e is = record {
      stands = λ k within.
          let place = is.stands k within in
          ⊎_elim
          (λ less. let n : at.Absent ≡ at.At (record { vol = e.vol; page = e.first + k }) = sym (absent_before runs (end_of run) (e.page + k) (begin_from runs run are.0 are.1 are.2) less) ∙ place in absurd (cc))
          (λ far. ap (λ b. cond b (placed (behind (e.page + k - run.page) run.first)) (place_of runs (e.page + k))) (covers_not run (e.page + k) far) ∙ place)
          (cases_lt (e.page + k) (end_of run));
      kept = is.kept;
    }

    own : (e : ExtentItem) → IsCut keep run e → IsThere keep (run ∷ runs) e
    own e cut = record {
      stands = λ k within.
          let low : run.page ≤ e.page + k = omega (arith, page) in
          let high : e.page + k < end_of run = omega (arith, page, count, within) in
          let offset : e.page + k - run.page ≡ k = omega (arith, page) in
          ap (λ b. cond b (placed (behind (e.page + k - run.page) run.first)) (place_of runs (e.page + k))) (covers_from run (e.page + k) low high)
          ∙ (λ i. placed (behind (offset i) (cut.first i)))
          ∙ (λ i. at.At (record { vol = sym vol i; page = sym first i + k }));
      kept = omega (arith, page, count, cut.some);
    }
      where
        page : e.page ≡ run.page
        page = ap (λ (x : ExtentItem). x.page) cut.is

        count : e.count ≡ min keep (end_of run) - run.page
        count = ap (λ (x : ExtentItem). x.count) cut.is

        vol : e.vol ≡ cut.home.vol
        vol = ap (λ (x : ExtentItem). x.vol) cut.is

        first : e.first ≡ cut.home.page
        first = ap (λ (x : ExtentItem). x.first) cut.is

    by_option : (o : Option ExtentItem) → extent_of keep run ≡ o → All (IsThere keep (run ∷ runs)) (filter_map (extent_of keep) runs) → All (IsThere keep (run ∷ runs)) (cons_option o (filter_map (extent_of keep) runs))
    by_option None is so_far = so_far
    by_option (Some e) is so_far = All-cons (IsThere keep (run ∷ runs)) e (filter_map (extent_of keep) runs) (own e (cut_of keep run e is)) so_far

pub standing : (keep : ℕ) (runs : List Run) → AreRuns runs → All (StandsThere (place_of runs)) (filter_map (extent_of keep) runs)
standing keep runs are = All-weaker (IsThere keep runs) (StandsThere (place_of runs)) (λ e is. is.stands) (filter_map (extent_of keep) runs) (there keep runs are)

-- what holds of a value that there is holds of it as another fact says
pub if_ok : {A E : Type 0} {P Q : A → Type 0} (r : Result A E) → ((x : A) → P x → Q x) → IfOk r P → IfOk r Q
if_ok (Ok x) says is = says x is
if_ok (Err e) says is = tt

-- ---- run by run

-- the extents of a run more
pub one_more_run : (keep : ℕ) (runs : List Run) (k : ℕ) (run : Run) (o : Option ExtentItem) → k < length runs → run ≡ get_or runs k run → o ≡ extent_of keep run
    → filter_map (extent_of keep) (take (k + 1) runs) ≡ filter_map (extent_of keep) (take k runs) ++ cons_option o []
one_more_run keep runs k run o within is of =
    ap (filter_map (extent_of keep)) (take_more runs k run within)
    ∙ filter_map-append (extent_of keep) (take k runs) (get_or runs k run ∷ [])
    ∙ ap (λ (r : Run). filter_map (extent_of keep) (take k runs) ++ cons_option (extent_of keep r) []) (sym is)
    ∙ ap (λ (e : Option ExtentItem). filter_map (extent_of keep) (take k runs) ++ cons_option e []) (sym of)

-- ---- what they show

module _ (keep : ℕ) (runs : List Run) (are : AreRuns runs) (pages : Pages) (members : MemberMap)
    (near : (q : ℕ) → q < keep → contains_key pages q ≡ is_some (home_at (place_of runs q))) (far : (q : ℕ) → keep ≤ q → contains_key pages q ≡ false)
    (within : (q : ℕ) (home : Home) → place_of runs q ≡ at.At home → IsSomeAnd (get members home.vol) (λ member. home.page < member.pages))
    (once : (p q : ℕ) (home : Home) → place_of runs p ≡ at.At home → place_of runs q ≡ at.At home → p ≡ q)
  where
    abbrev es : List ExtentItem
    es = filter_map (extent_of keep) runs

    chain : Chained es
    chain = chained keep runs are

    are_there : All (IsThere keep runs) es
    are_there = there keep runs are

    has_home : (q : ℕ) (place : PagePlace) → place_of runs q ≡ place → q < keep → is_some (home_at place) ≡ true → Any (IsInRun q) es
    has_home q (at.At home) is low some = covered keep runs are q home low is
    has_home q at.Hole is low none = absurd (true≢false (sym none))
    has_home q at.Absent is low none = absurd (true≢false (sym none))

    has_page : (q : ℕ) → contains_key pages q ≡ true → Any (IsInRun q) es
    has_page q some = ⊎_elim
        (λ low. has_home q (place_of runs q) refl low (sym (near q low) ∙ some))
        (λ high. absurd (true≢false (sym some ∙ far q high)))
        (cases_lt q keep)

    in_run : (q : ℕ) (e : ExtentItem) → IsThere keep runs e → IsInRun q e → contains_key pages q ≡ true
    in_run q e is inside =
        let offset : e.page + (q - e.page) ≡ q = omega (arith, inside.0) in
        let place = is.stands (q - e.page) (omega (arith, inside.0, inside.1)) in
        near q (omega (arith, inside.1, is.kept)) ∙ ap (λ n. is_some (home_at (place_of runs n))) (sym offset) ∙ ap (λ p. is_some (home_at p)) place

    on_member : (e : ExtentItem) → IsThere keep runs e → 0 < e.count → IsSomeAnd (get members e.vol) (λ member. e.first + e.count ≤ member.pages)
    on_member e is some =
        by_member (get members e.vol) (within (e.page + (e.count - 1)) (record { vol = e.vol; page = e.first + (e.count - 1) }) (is.stands (e.count - 1) (omega (arith, some))))
      where
        by_member : (o : Option Member) → IsSomeAnd o (λ member. e.first + (e.count - 1) < member.pages) → IsSomeAnd o (λ member. e.first + e.count ≤ member.pages)
        by_member None none = absurd none
        by_member (Some member) less = omega (arith, less, some)

    -- two that share a page of a volume share one of the file
    are_apart : (e n : ExtentItem) → IsThere keep runs e → IsThere keep runs n → 0 < e.count → 0 < n.count → Before e n → AreApart e n
    are_apart e n is other some some_too before vols = ⊎_elim
        (λ reach. ⊎_elim (λ shared. absurd (meet reach shared)) (λ free. inr free) (cases_lt e.first (n.first + n.count)))
        (λ free. inl free)
        (cases_lt n.first (e.first + e.count))
      where
        home : ℕ → Home
        home p = record { vol = e.vol; page = p }

        -- the later of their first pages is in both
        both_have : (p k l : ℕ) → e.first + k ≡ p → n.first + l ≡ p → k < e.count → l < n.count → ⊥
        both_have p k l here there_too low high =
            let one : place_of runs (e.page + k) ≡ at.At (record { vol = e.vol; page = p }) = is.stands k low ∙ (λ i. at.At (record { vol = e.vol; page = here i })) in
            let two : place_of runs (n.page + l) ≡ at.At (record { vol = e.vol; page = p }) = other.stands l high ∙ (λ i. at.At (record { vol = sym vols i; page = there_too i })) in
            let same = once (e.page + k) (n.page + l) (record { vol = e.vol; page = p }) one two in
            absurd (omega (arith, same, before, low))

        meet : n.first < e.first + e.count → e.first < n.first + n.count → ⊥
        meet reach shared = ⊎_elim
            (λ less. both_have n.first (n.first - e.first) 0 (omega (arith, less)) (omega arith) (omega (arith, reach, less)) some_too)
            (λ more. both_have e.first 0 (e.first - n.first) (omega arith) (omega (arith, more)) some (omega (arith, shared, more)))
            (cases_lt e.first n.first)

    pub shows : ShowsExtents members pages es
    shows = record {
      covered = λ q. (has_page q, λ (k, e, inside, is, has). in_run q e (subst (IsThere keep runs) is (are_there k e inside)) has);
      some = counts es chain;
      in_order = adjacent Before (λ e n is. is.0) es chain;
      maximal = adjacent (λ e n. touches e n ≡ false) (λ e n is. is.1) es chain;
      on_members = λ k d inside. on_member (get_or es k d) (are_there k d inside) (counts es chain k d inside);
      apart = λ i j d less inside. are_apart (get_or es i d) (get_or es j d) (are_there i d (omega (arith, less, inside))) (are_there j d inside) (counts es chain i d (omega (arith, less, inside))) (counts es chain j d inside) (pairs es chain i j d less inside);
    }
