-- How many runs have a page of a volume.
use Rattle.std.proofs.Common.{◌≡◌, ◌∙◌, ◌⊎◌, ◌↔◌, ◌&&◌, ◌==◌, ℕ, ◌+◌, ◌-◌, ◌<◌, ◌≤◌, Bool, true, false, cond, nat_le, nat_lt, nat_eq, List, [], ◌∷◌, ◌++◌, Contains, get_or, length, zero, suc, inl, inr, refl, sym, ap, subst, arith, ⊎_elim, eqb-true, eq-eqb}
use Rattle.std.specs.List.{AllByRecursion}
use Rattle.std.proofs.lemmas.Bool.{cases_Bool, cases_lt, cases_order, leb-true, le-leb, ltb-true, lt-ltb}
use Rattle.std.proofs.lemmas.List.Elements.{Contains-append_cases, Contains-append_left, Contains-append_right}
use Rattle.std.proofs.lemmas.List.Sums.{sum_by-append}
use Rattle.metadata_cells.specs.domain_base.declared.place.CellAt.{CellAt}
use Rattle.metadata_cells.specs.domain_base.declared.place.Home.{Home}
use Rattle.metadata_cells.specs.sorted_sets.SpanMembers.{HasAnyOf, IsOf}
use Rattle.metadata_cells.specs.sorted_sets.declared.span.Span.{Span}
use Rattle.metadata_cells.specs.sorted_sets.Counts.{counts, has}
use Rattle.cell_chains.specs.Runs.{Apart, AreApart, HasAt, HasPageIn, HaveAt, IsPageOf, IsSaid, IsShared, home_in, on, page_in, span_of, spans_on}
use Rattle.cell_chains.specs.declared.run.FileRun.{FileRun}

no_bool : false ≡ true → ⊥
no_bool e = cc

-- ---- spans

-- a span has a number, and then counts for it, or not
record IsCounted (n : ℕ) (span : Span) : Type 0 where
  is : (IsOf span n × (has n span ≡ 1)) ⊎ ((¬ IsOf span n) × (has n span ≡ 0))

counted : (n : ℕ) (span : Span) → IsCounted n span
counted n span = by_from (nat_le span.from n) refl
  where
    by_to : nat_le span.from n ≡ true → (b : Bool) → nat_lt n span.to ≡ b → IsCounted n span
    by_to from true to = record { is = inl ((leb-true span.from n from, ltb-true n span.to to), (λ i. cond (from i && to i) 1 0)) }
    by_to from false to = record { is = inr ((λ is. no_bool (sym to ∙ lt-ltb n span.to is.1)), (λ i. cond (from i && to i) 1 0)) }

    by_from : (b : Bool) → nat_le span.from n ≡ b → IsCounted n span
    by_from true from = by_to from (nat_lt n span.to) refl
    by_from false from = record { is = inr ((λ is. no_bool (sym from ∙ le-leb span.from n is.0)), (λ i. cond (from i && nat_lt n span.to) 1 0)) }

counts_more : (span : Span) (spans : List Span) (n : ℕ) → counts (span ∷ spans) n ≡ has n span + counts spans n
counts_more span spans n = sum_by-append (has n) (span ∷ []) spans ∙ ap (λ k. k + counts spans n) alone
  where
    alone : counts (span ∷ []) n ≡ has n span
    alone = omega arith

counts_both : (xs ys : List Span) (n : ℕ) → counts (xs ++ ys) n ≡ counts xs n + counts ys n
counts_both xs ys n = sum_by-append (has n) xs ys

some_counts : (spans : List Span) (n : ℕ) (span : Span) → Contains spans span → IsOf span n → 1 ≤ counts spans n
some_counts [] n span (k, within, at) is = absurd (omega (arith, within))
some_counts (x ∷ xs) n span (zero, within, at) is =
    ⊎_elim (λ one. omega (arith, one.1, counts_more x xs n)) (λ none. absurd (none.0 (subst (λ (s : Span). IsOf s n) (sym at) is))) (counted n x).is
some_counts (x ∷ xs) n span (suc k, within, at) is =
    let later : 1 ≤ counts xs n = some_counts xs n span (k, omega (arith, within), at) is in
    omega (arith, later, counts_more x xs n)

counts_some : (spans : List Span) (n : ℕ) → 1 ≤ counts spans n → HasAnyOf spans n
counts_some [] n some = absurd (omega (arith, some))
counts_some (x ∷ xs) n some =
    ⊎_elim (λ one. (x, (0, omega arith, refl), one.0))
    (λ none.
    let found = counts_some xs n (omega (arith, some, none.1, counts_more x xs n)) in
    (found.0, (suc found.1.0, omega (arith, found.1.1), found.1.2), found.2)) (counted n x).is

-- ---- runs

-- a run has a page of a volume, and which page of the file stands there
abbrev pub OnRun : ℕ → ℕ → FileRun → Type 0
OnRun vol n run = (run.row.vol ≡ vol) × IsOf (span_of run) n

abbrev pub page_at : ℕ → FileRun → ℕ
page_at n run = run.row.page + (n - run.row.first)

-- two runs have one page of one cell there
abbrev pub SamePage : ℕ → FileRun → CellAt → ℕ → Type 0
SamePage n run at page = (at ≡ run.at) × (page ≡ page_at n run)

is_page : (vol n : ℕ) (run : FileRun) → OnRun vol n run → IsPageOf run (page_at n run)
is_page vol n run (on, (from, to)) = (omega arith, omega (arith, from, to))

stands : (vol n : ℕ) (run : FileRun) → OnRun vol n run → home_in run (page_at n run) ≡ record { vol = vol; page = n }
stands vol n run (on, (from, to)) = let same : page_in run (page_at n run) ≡ n = omega (arith, from) in (λ i. record { vol = on i; page = same i })

-- the runs that stand on a volume count one for each that has the page
record IsCountedRun (vol n : ℕ) (run : FileRun) (runs : List FileRun) : Type 0 where
  is : (OnRun vol n run × (counts (spans_on vol (run ∷ runs)) n ≡ counts (spans_on vol runs) n + 1))
      ⊎ ((¬ OnRun vol n run) × (counts (spans_on vol (run ∷ runs)) n ≡ counts (spans_on vol runs) n))

counted_run : (vol n : ℕ) (run : FileRun) (runs : List FileRun) → IsCountedRun vol n run runs
counted_run vol n run runs = by_vol (run.row.vol == vol) refl
  where
    by_vol : (b : Bool) → (run.row.vol == vol) ≡ b → IsCountedRun vol n run runs
    by_vol true on =
        let volume : run.row.vol ≡ vol = eqb-true run.row.vol vol on in
        let first : counts (spans_on vol (run ∷ runs)) n ≡ has n (span_of run) + counts (spans_on vol runs) n = ap (λ b. counts (cond b (span_of run ∷ spans_on vol runs) (spans_on vol runs)) n) on ∙ counts_more (span_of run) (spans_on vol runs) n in
        record {
          is = ⊎_elim (λ one. inl ((volume, one.0), (let sum : has n (span_of run) + counts (spans_on vol runs) n ≡ counts (spans_on vol runs) n + 1 = omega (arith, one.1) in first ∙ sum)))
              (λ none. inr ((λ on_it. none.0 on_it.1), (let sum : has n (span_of run) + counts (spans_on vol runs) n ≡ counts (spans_on vol runs) n = omega (arith, none.1) in first ∙ sum))) (counted n (span_of run)).is;
        }
    by_vol false off =
        record { is = inr ((λ on_it. no_bool (sym off ∙ eq-eqb run.row.vol vol on_it.0)), ap (λ b. counts (cond b (span_of run ∷ spans_on vol runs) (spans_on vol runs)) n) off) }

some_run : (vol n : ℕ) (runs : List FileRun) → 1 ≤ counts (spans_on vol runs) n → (run : FileRun) × Contains runs run × OnRun vol n run
some_run vol n [] some = absurd (omega (arith, some))
some_run vol n (run ∷ runs) some =
    ⊎_elim (λ one. (run, (0, omega arith, refl), one.0))
    (λ none.
    let found = some_run vol n runs (omega (arith, some, none.1)) in
    (found.0, (suc found.1.0, omega (arith, found.1.1), found.1.2), found.2)) (counted_run vol n run runs).is

run_some : (vol n : ℕ) (runs : List FileRun) (run : FileRun) → Contains runs run → OnRun vol n run → 1 ≤ counts (spans_on vol runs) n
run_some vol n [] run (k, within, at) on = absurd (omega (arith, within))
run_some vol n (x ∷ xs) run (zero, within, at) on =
    ⊎_elim (λ one. omega (arith, one.1)) (λ none. absurd (none.0 (subst (OnRun vol n) (sym at) on))) (counted_run vol n x xs).is
run_some vol n (x ∷ xs) run (suc k, within, at) on =
    let later : 1 ≤ counts (spans_on vol xs) n = run_some vol n xs run (k, omega (arith, within), at) on in
    ⊎_elim (λ one. omega (arith, one.1, later)) (λ none. omega (arith, none.1, later)) (counted_run vol n x xs).is

pub all_at : (P : FileRun → Type 0) (runs : List FileRun) (run : FileRun) → AllByRecursion P runs → Contains runs run → P run
all_at P [] run all (k, within, at) = absurd (omega (arith, within))
all_at P (x ∷ xs) run all (zero, within, at) = subst P at all.0
all_at P (x ∷ xs) run all (suc k, within, at) = all_at P xs run all.1 (k, omega (arith, within), at)

-- two of the runs have the page, for two pages of files
record TwoRuns (vol n : ℕ) (runs : List FileRun) : Type 0 where
  one : FileRun
  other : FileRun
  in_one : Contains runs one
  in_other : Contains runs other
  on_one : OnRun vol n one
  on_other : OnRun vol n other
  apart : ¬ SamePage n other one.at (page_at n one)

later_in : (x : FileRun) (xs : List FileRun) (run : FileRun) → Contains xs run → Contains (x ∷ xs) run
later_in x xs run (k, within, at) = (suc k, omega (arith, within), at)

two_runs : (vol n : ℕ) (runs : List FileRun) → AreApart runs → 2 ≤ counts (spans_on vol runs) n → TwoRuns vol n runs
two_runs vol n [] apart two = absurd (omega (arith, two))
two_runs vol n (x ∷ xs) apart two = ⊎_elim here (λ none. later (two_runs vol n xs apart.1 (omega (arith, two, none.1)))) (counted_run vol n x xs).is
  where
    here : OnRun vol n x × (counts (spans_on vol (x ∷ xs)) n ≡ counts (spans_on vol xs) n + 1) → TwoRuns vol n (x ∷ xs)
    here (on, sum) =
        let found = some_run vol n xs (omega (arith, two, sum)) in
        let s = found.0 in
        record {
          one = x;
          other = s;
          in_one = (0, omega arith, refl);
          in_other = later_in x xs s found.1;
          on_one = on;
          on_other = found.2;
          apart = λ (same, page). all_at (Apart x) xs s apart.0 found.1 (page_at n x) (is_page vol n x on) (subst (IsPageOf s) (sym page) (is_page vol n s found.2)) same;
        }

    later : TwoRuns vol n xs → TwoRuns vol n (x ∷ xs)
    later two = record {
      one = two.one;
      other = two.other;
      in_one = later_in x xs two.one two.in_one;
      in_other = later_in x xs two.other two.in_other;
      on_one = two.on_one;
      on_other = two.on_other;
      apart = two.apart;
    }

same_number : (m n : ℕ) → (m ≡ n) ⊎ ¬ m ≡ n
same_number m n = ⊎_elim (λ same. inl same) (λ apart. inr (λ same. ⊎_elim (λ less. omega (arith, less, same)) (λ more. omega (arith, more, same)) apart)) (cases_order m n)

same_at : (a b : CellAt) → (a ≡ b) ⊎ ¬ a ≡ b
same_at a b =
    ⊎_elim (λ vol. ⊎_elim (λ page. ⊎_elim (λ cell. inl (λ i. record { vol = vol i; page = page i; cell = cell i }))
    (λ other. inr (λ same. other (ap (λ (c : CellAt). c.cell) same))) (same_number a.cell b.cell))
    (λ other. inr (λ same. other (ap (λ (c : CellAt). c.page) same))) (same_number a.page b.page))
    (λ other. inr (λ same. other (ap (λ (c : CellAt). c.vol) same))) (same_number a.vol b.vol)

same_page : (n : ℕ) (run : FileRun) (at : CellAt) (page : ℕ) → SamePage n run at page ⊎ ¬ SamePage n run at page
same_page n run at page =
    ⊎_elim (λ here. ⊎_elim (λ number. inl (here, number)) (λ other. inr (λ same. other same.1)) (same_number page (page_at n run)))
    (λ other. inr (λ same. other same.0)) (same_at at run.at)

-- one of two is not a page of a file
record OtherRun (vol n : ℕ) (runs : List FileRun) (at : CellAt) (page : ℕ) : Type 0 where
  run : FileRun
  among : Contains runs run
  on : OnRun vol n run
  apart : ¬ SamePage n run at page

other_run : (vol n : ℕ) (runs : List FileRun) (at : CellAt) (page : ℕ) → TwoRuns vol n runs → OtherRun vol n runs at page
other_run vol n runs at page two = ⊎_elim by_first (λ apart. record { run = two.one; among = two.in_one; on = two.on_one; apart = apart }) (same_page n two.one at page)
  where
    by_first : SamePage n two.one at page → OtherRun vol n runs at page
    by_first (cell, number) = record {
      run = two.other;
      among = two.in_other;
      on = two.on_other;
      apart = λ (same, also). two.apart (sym cell ∙ same, sym number ∙ also);
    }

-- two runs of the list that are not the same count two
shared_counts : (vol n : ℕ) (runs : List FileRun) (a b : FileRun) → Contains runs a → Contains runs b → OnRun vol n a → OnRun vol n b → ¬ a ≡ b → 2 ≤ counts (spans_on vol runs) n
shared_counts vol n [] a b (k, within, at) in_b on_a on_b apart = absurd (omega (arith, within))
shared_counts vol n (x ∷ xs) a b (zero, within, at) (zero, also, there) on_a on_b apart = absurd (apart (sym at ∙ there))
shared_counts vol n (x ∷ xs) a b (zero, within, at) (suc k, also, there) on_a on_b apart =
    let later : 1 ≤ counts (spans_on vol xs) n = run_some vol n xs b (k, omega (arith, also), there) on_b in
    ⊎_elim (λ one. omega (arith, one.1, later)) (λ none. absurd (none.0 (subst (OnRun vol n) (sym at) on_a))) (counted_run vol n x xs).is
shared_counts vol n (x ∷ xs) a b (suc k, within, at) (zero, also, there) on_a on_b apart =
    let later : 1 ≤ counts (spans_on vol xs) n = run_some vol n xs a (k, omega (arith, within), at) on_a in
    ⊎_elim (λ one. omega (arith, one.1, later)) (λ none. absurd (none.0 (subst (OnRun vol n) (sym there) on_b))) (counted_run vol n x xs).is
shared_counts vol n (x ∷ xs) a b (suc k, within, at) (suc j, also, there) on_a on_b apart =
    let later : 2 ≤ counts (spans_on vol xs) n = shared_counts vol n xs a b (k, omega (arith, within), at) (j, omega (arith, also), there) on_a on_b apart in
    ⊎_elim (λ one. omega (arith, one.1, later)) (λ none. omega (arith, none.1, later)) (counted_run vol n x xs).is

-- ---- a page of a run

-- where a page of a run stands, and that it stands there again
on_run : (vol : ℕ) (run : FileRun) (page : ℕ) → run.row.vol ≡ vol → IsPageOf run page → OnRun vol (page_in run page) run
on_run vol run page on (from, to) = (on, (omega arith, omega (arith, from, to)))

same_again : (run : FileRun) (page : ℕ) → IsPageOf run page → page_at (page_in run page) run ≡ page
same_again run page (from, to) = omega (arith, from)

module _ (spans : List Span) (runs : List FileRun) (apart : AreApart runs) (vol : ℕ) (run : FileRun) (page : ℕ) (among : Contains runs run) (on : run.row.vol ≡ vol) (is : IsPageOf run page) where
  abbrev number : ℕ
  number = page_in run page

  sum : counts (spans ++ spans_on vol runs) number ≡ counts spans number + counts (spans_on vol runs) number
  sum = counts_both spans (spans_on vol runs) number

  one : 1 ≤ counts (spans_on vol runs) number
  one = run_some vol number runs run among (on_run vol run page on is)

  shared_by : OtherRun vol number runs run.at page → IsShared runs run page
  shared_by other = (
    other.run.at,
    page_at number other.run,
    (
      other.run,
      other.among,
      (refl, is_page vol number other.run other.on, stands vol number other.run other.on ∙ (λ i. record { vol = sym on i; page = number })),
    ),
    (λ (same, also). other.apart (sym same, sym also)),
  )

  by_shared : IsShared runs run page → 2 ≤ counts (spans_on vol runs) number
  by_shared (at, other, (also, in_also, (same, is_also, home)), differ) =
      let volume : also.row.vol ≡ vol = ap (λ (h : Home). h.vol) home ∙ on in
      let there : page_in also other ≡ number = ap (λ (h : Home). h.page) home in
      let on_also : OnRun vol number also = subst (λ n. OnRun vol n also) there (on_run vol also other volume is_also) in
      shared_counts vol number runs run also among in_also (on_run vol run page on is) on_also
      (λ equal. differ (
        sym same ∙ ap (λ (r : FileRun). r.at) (sym equal),
        let first : page_in run other ≡ number = subst (λ (r : FileRun). page_in r other ≡ number) (sym equal) there in
            let from : run.row.page ≤ other = subst (λ (r : FileRun). r.row.page ≤ other) (sym equal) is_also.0 in
            omega (arith, first, from, is.0),
      ))

  pub doubled_is : (2 ≤ counts (spans ++ spans_on vol runs) number) ↔ (HasAnyOf spans number ⊎ IsShared runs run page)
  doubled_is = (
    λ two. ⊎_elim
        (λ none. inr (shared_by (other_run vol number runs run.at page (two_runs vol number runs apart (omega (arith, two, sum, none))))))
        (λ some. inl (counts_some spans number some)) (cases_lt (counts spans number) 1),
    λ which. ⊎_elim
        (λ (span, in_span, of). let first : 1 ≤ counts spans number = some_counts spans number span in_span of in omega (arith, first, one, sum))
        (λ shared. let two = by_shared shared in omega (arith, two, sum)) which,
  )

-- a page of a run is at such a number exactly where a number of its span is such
pub page_by_number : (Is : ℕ → Type 0) (run : FileRun) → ((n : ℕ) × IsOf (span_of run) n × Is n) ↔ HasPageIn Is run
page_by_number Is run = (
  λ (n, (from, to), is). (
    page_at n run,
    (omega arith, omega (arith, from, to)),
    subst Is (let same : n ≡ page_in run (page_at n run) = omega (arith, from) in same) is,
  ),
  λ (page, (from, to), is). (page_in run page, (omega arith, omega (arith, from, to)), is),
)

-- ---- spans of runs, one behind the other

abbrev with_first : FileRun → List Span → Bool → List Span
with_first x later b = cond b (span_of x ∷ later) later

spans_first : (vol : ℕ) (x : FileRun) (xs ys : List FileRun) (b : Bool) → spans_on vol (xs ++ ys) ≡ spans_on vol xs ++ spans_on vol ys
    → with_first x (spans_on vol (xs ++ ys)) b ≡ with_first x (spans_on vol xs) b ++ spans_on vol ys
spans_first vol x xs ys true later = ap (λ (l : List Span). span_of x ∷ l) later
spans_first vol x xs ys false later = later

pub spans_both : (vol : ℕ) (xs ys : List FileRun) → spans_on vol (xs ++ ys) ≡ spans_on vol xs ++ spans_on vol ys
spans_both vol [] ys = refl
spans_both vol (x ∷ xs) ys = spans_first vol x xs ys (x.row.vol == vol) (spans_both vol xs ys)

-- ---- the spans that have a page of a volume

has_step : (vol n : ℕ) (x : FileRun) (xs : List FileRun) (b : Bool) → (x.row.vol == vol) ≡ b → (HasAnyOf (spans_on vol xs) n → (run : FileRun) × Contains xs run × OnRun vol n run)
    → HasAnyOf (with_first x (spans_on vol xs) b) n → (run : FileRun) × Contains (x ∷ xs) run × OnRun vol n run
has_step vol n x xs true on later (span, (zero, within, at), of) = (x, (0, omega arith, refl), (eqb-true x.row.vol vol on, subst (λ (s : Span). IsOf s n) (sym at) of))
has_step vol n x xs true on later (span, (suc k, within, at), of) = let found = later (span, (k, omega (arith, within), at), of) in (found.0, later_in x xs found.0 found.1, found.2)
has_step vol n x xs false off later has = let found = later has in (found.0, later_in x xs found.0 found.1, found.2)

run_of_span : (vol n : ℕ) (runs : List FileRun) → HasAnyOf (spans_on vol runs) n → (run : FileRun) × Contains runs run × OnRun vol n run
run_of_span vol n [] (span, (k, within, at), of) = absurd (omega (arith, within))
run_of_span vol n (x ∷ xs) has = has_step vol n x xs (x.row.vol == vol) refl (λ later. run_of_span vol n xs later) has

said_by : (vol n : ℕ) (runs : List FileRun) → HasAnyOf (spans_on vol runs) n ↔ IsSaid runs (on vol n)
said_by vol n runs = (
  λ has. let (run, among, on_it) = run_of_span vol n runs has in (run.at, page_at n run, (run, among, (refl, is_page vol n run on_it, stands vol n run on_it))),
  λ (at, page, (run, among, (same, is, home))).
      let volume : run.row.vol ≡ vol = ap (λ (h : Home). h.vol) home in
      let there : page_in run page ≡ n = ap (λ (h : Home). h.page) home in
      counts_some (spans_on vol runs) n (run_some vol n runs run among (subst (λ m. OnRun vol m run) there (on_run vol run page volume is))),
)

any_both : (xs ys : List Span) (n : ℕ) → HasAnyOf (xs ++ ys) n ↔ (HasAnyOf xs n ⊎ HasAnyOf ys n)
any_both xs ys n = (
  λ (span, among, of). ⊎_elim (λ here. inl (span, here, of)) (λ there. inr (span, there, of)) (Contains-append_cases xs ys span among),
  λ which. ⊎_elim (λ (span, among, of). (span, Contains-append_left xs ys span among, of)) (λ (span, among, of). (span, Contains-append_right xs ys span among, of)) which,
)

pub owned_all : (spans : List Span) (vol : ℕ) (runs : List FileRun) (n : ℕ) → HasAnyOf (spans ++ spans_on vol runs) n ↔ (HasAnyOf spans n ⊎ IsSaid runs (on vol n))
owned_all spans vol runs n =
    let both = any_both spans (spans_on vol runs) n in
    let said = said_by vol n runs in (
      λ has. ⊎_elim (λ first. inl first) (λ run. inr (said.0 run)) (both.0 has),
      λ which. both.1 (⊎_elim (λ first. inl first) (λ run. inr (said.1 run)) which),
    )
