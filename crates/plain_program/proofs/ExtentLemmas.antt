-- The checks of an extent list, and what it shows.
use Rattle.std.proofs.Common.{◌≡◌, ◌+◌, ◌-◌, ◌<◌, ◌≤◌, ℕ, zero, suc, Bool, true, false, ◌||◌, ◌≢◌, IsTrue, List, [], ◌∷◌, length, drop, get_or, take, refl, ap, sym, ◌∙◌, subst, arith}
use Rattle.std.specs.Prelude.{◌↔◌, All, AllPairs, Any, IsSomeAnd}
use Rattle.std.specs.List.{AllAdjacentBelow, list_any}
use Rattle.std.specs.Ordering.{eq_by_cmp, nat_cmp}
use Rattle.std.proofs.lemmas.Bool.Decides.{nat_tests}
use Rattle.std.proofs.lemmas.List.{get_or-drop, get_or_default, length-drop, take_rest}
use Rattle.plain_program.proofs.MemberLemmas.{apart, tied}
use Rattle.std.specs.FinMap.{contains_key, contains_key-keys, get, keys}
use Rattle.legal_histories.specs.fileset_model.Pages.{Pages}
use Rattle.legal_histories.specs.fileset_values.declared.reply.ExtentItem.{ExtentItem}
use Rattle.legal_histories.specs.State.{MemberMap}
use Rattle.legal_histories.specs.Volumes.{AreApart, IsInRun, ShowsExtents, touches}

-- what is tested of a list: its order, and each run of it
abbrev pub AreInOrder : List ExtentItem → Type 0
AreInOrder runs = AllAdjacentBelow (λ run next. (run.page + run.count ≤ next.page) × (touches run next ≡ false)) runs (length runs)

abbrev pub HavePages : Pages → List ExtentItem → Type 0
HavePages pages runs = All (λ run. (0 < run.count) × ((q : ℕ) → IsInRun q run → IsTrue (contains_key pages q))) runs

abbrev pub AreOnMembers : MemberMap → List ExtentItem → Type 0
AreOnMembers members runs = All (λ run. IsSomeAnd (get members run.vol) (λ member. run.first + run.count ≤ member.pages)) runs

abbrev pub AreInRuns : List ℕ → List ExtentItem → Type 0
AreInRuns numbers runs = All (λ q. Any (IsInRun q) runs) numbers

-- a test that fails refutes what it tests
pub refuted : {P Q : Type 0} (b : Bool) → b ≡ false → (IsTrue b ↔ P) → (Q → P) → IsTrue false ↔ Q
refuted b fails tests needs = (λ never. absurd (cc), λ q. let t : IsTrue b = tests.1 (needs q) in absurd (cc))

-- what is left of the runs after a place
rest_at : (runs : List ExtentItem) (n k : ℕ) (d : ExtentItem) → get_or (take (length runs - n) (drop n runs)) k d ≡ get_or runs (n + k) d
rest_at runs n k d = ap (λ (l : List ExtentItem). get_or l k d) (take_rest runs n) ∙ get_or-drop n runs k d

rest_len : (runs : List ExtentItem) (n : ℕ) → length (take (length runs - n) (drop n runs)) ≡ length runs - n
rest_len runs n = ap (λ (l : List ExtentItem). length l) (take_rest runs n) ∙ length-drop n runs

module _ (runs : List ExtentItem) (i : ℕ) (e : ExtentItem) (h : i < length runs) where
  pub apart_from_rest : AllPairs AreApart runs → All (AreApart (get_or runs i e)) (take (length runs - (i + 1)) (drop (i + 1) runs))
  apart_from_rest pairs k d within =
      subst (λ run. AreApart (get_or runs i e) run) (sym (rest_at runs (i + 1) k d))
      (subst (λ run. AreApart run (get_or runs (i + 1 + k) d)) (get_or_default runs i d e h)
      (pairs i (i + 1 + k) d (omega arith) (omega (arith, within, rest_len runs (i + 1)))))

  pub apart_before : All (AreApart (get_or runs i e)) (take (length runs - (i + 1)) (drop (i + 1) runs)) → (j : ℕ) (d : ExtentItem) → i < j → j < length runs → AreApart (get_or runs i d) (get_or runs j d)
  apart_before each j d above within =
      let place : i + 1 + (j - (i + 1)) ≡ j = omega (arith, above) in
      subst (λ n. AreApart (get_or runs i d) (get_or runs n d)) place
      (subst (λ run. AreApart run (get_or runs (i + 1 + (j - (i + 1))) d)) (get_or_default runs i e d h)
      (subst (λ run. AreApart (get_or runs i e) run) (rest_at runs (i + 1) (j - (i + 1)) d)
      (each (j - (i + 1)) d (omega (arith, above, within, rest_len runs (i + 1))))))

-- a number that is listed, and where it stands
listed : (xs : List ℕ) (k d : ℕ) → k < length xs → IsTrue (list_any (eq_by_cmp nat_cmp (get_or xs k d)) xs)
listed [] k d h = absurd (omega (arith, h))
listed (x ∷ xs) zero d h = rw (tied x)
listed (x ∷ xs) (suc k) d h =
    let rest = listed xs k d (omega (arith, h)) in
    elim (eq_by_cmp nat_cmp (get_or xs k d) x) as (λ b. IsTrue (b || list_any (eq_by_cmp nat_cmp (get_or xs k d)) xs)) [
      | true ↦ refl
      | false ↦ rest
    ]

same_number : (m n : ℕ) → eq_by_cmp nat_cmp m n ≡ true → m ≡ n
same_number m n h =
    let differ = λ (e : m ≢ n). apart m n e in
    grind (arith, nat_tests)

stands : (q : ℕ) (xs : List ℕ) → IsTrue (list_any (eq_by_cmp nat_cmp q) xs) → (k : ℕ) × (k < length xs) × ((d : ℕ) → q ≡ get_or xs k d)
stands q [] h = absurd (cc)
stands q (x ∷ xs) h =
    let later = λ (found : IsTrue (list_any (eq_by_cmp nat_cmp q) xs)). stands q xs found in
    elim (eq_by_cmp nat_cmp q x) as (λ b. eq_by_cmp nat_cmp q x ≡ b → IsTrue (b || list_any (eq_by_cmp nat_cmp q) xs) → (k : ℕ) × (k < length (x ∷ xs)) × ((d : ℕ) → q ≡ get_or (x ∷ xs) k d)) [
      | true ↦ λ is found. (0, omega arith, λ d. same_number q x is)
      | false ↦ λ is found. let rest = later found in (suc rest.0, omega (arith, rest.1), rest.2)
    ] refl h

module _ (members : MemberMap) (pages : Pages) (runs : List ExtentItem) where
  pub shown : AreInRuns (keys pages) runs → HavePages pages runs → AreInOrder runs → AreOnMembers members runs → AllPairs AreApart runs → ShowsExtents members pages runs
  shown in_runs have in_order on apart = record {
    covered = λ q. (λ there. in_a_run q (stands q (keys pages) (sym (contains_key-keys pages q) ∙ there)), λ found. has_page q found);
    some = λ k d within. (have k d within).0;
    in_order = λ k d within. (in_order k d within).0;
    maximal = λ k d within. (in_order k d within).1;
    on_members = on;
    apart = apart;
  }
    where
      in_a_run : (q : ℕ) → (k : ℕ) × (k < length (keys pages)) × ((d : ℕ) → q ≡ get_or (keys pages) k d) → Any (IsInRun q) runs
      in_a_run q at = subst (λ p. Any (IsInRun p) runs) (sym (at.2 q)) (in_runs at.0 q at.1)

      has_page : (q : ℕ) → Any (IsInRun q) runs → IsTrue (contains_key pages q)
      has_page q found = (have found.0 found.1 found.2).1 q (subst (λ run. IsInRun q run) (sym found.3) found.4)

  pub shown_in_runs : ShowsExtents members pages runs → AreInRuns (keys pages) runs
  shown_in_runs shows k d within =
      (shows.covered (get_or (keys pages) k d)).0 (contains_key-keys pages (get_or (keys pages) k d) ∙ listed (keys pages) k d within)

  pub shown_pages : ShowsExtents members pages runs → HavePages pages runs
  shown_pages shows k d within = (shows.some k d within, λ q in_run. (shows.covered q).1 (k, get_or runs k d, within, get_or_default runs k (get_or runs k d) d within, in_run))

  pub shown_order : ShowsExtents members pages runs → AreInOrder runs
  shown_order shows k d within = (shows.in_order k d within, shows.maximal k d within)
