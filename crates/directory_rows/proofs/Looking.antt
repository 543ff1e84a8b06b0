-- Rows that are looked for.
use Rattle.std.proofs.Common.{◌≡◌, ◌∙◌, ◌⊎◌, inl, inr, ℕ, zero, suc, ◌+◌, ◌<◌, ◌≤◌, ◌&&◌, Bool, true, false, cond, nat_eq, Option, Some, None, List, [], ◌∷◌, ◌++◌, length, refl, sym, ap, subst, arith}
use Rattle.std.proofs.lemmas.Bool.{and_from, and_parts, cases_lt, eq-eqb, eqb-true}
use Rattle.std.proofs.lemmas.List.Sums.{sum_by-cons}
use Rattle.std.specs.Option.{is_some}
use Rattle.directory_pages.specs.domain_base.declared.place.Kind.{Kind}
use Rattle.directory_pages.specs.domain_base.declared.place.Tag.{Tag}
use Rattle.directory_pages.specs.declared.row.Row.{Row}
use Rattle.directory_pages.specs.RowPage.{rows_of}
use Rattle.directory_pages.specs.Rows.{found, has_name}
use Rattle.directory_pages.proofs.Places.{named_is}
use Rattle.directory_pages.specs.declared.entry.IndexEntry.{IndexEntry}
use Rattle.directory_pages.specs.Entries.{Has, HasNext, IsNext, hash_of}
use Rattle.directory_rows.specs.Directory.{AreEntriesOf, all_rows, count_entries, count_hash, rows_at}
use Rattle.directory_rows.specs.Places.{IsSearched, IsSearchedAt, NoneBelow, found_at}
use Rattle.directory_rows.proofs.Parts.{no_pages, rows_past}
use Rattle.directory_rows.specs.declared.look.Place.{Place}

-- ---- rows found among more rows

pub found_here : (name : List ℕ) (row : Row) (rows : List Row) → has_name name row ≡ true → found name (row ∷ rows) ≡ Some (row.tag, row.kind)
found_here name row rows same = ap (λ t. cond t (Some (row.tag, row.kind)) (found name rows)) same

pub found_later : (name : List ℕ) (row : Row) (rows : List Row) → has_name name row ≡ false → found name (row ∷ rows) ≡ found name rows
found_later name row rows other = ap (λ t. cond t (Some (row.tag, row.kind)) (found name rows)) other

pub found_behind : (name : List ℕ) (xs ys : List Row) → found name xs ≡ None → found name (xs ++ ys) ≡ found name ys
found_behind name [] ys none = refl
found_behind name (row ∷ xs) ys none = by_test (has_name name row) refl (found_behind name xs ys)
  where
    by_test : (b : Bool) → has_name name row ≡ b → (found name xs ≡ None → found name (xs ++ ys) ≡ found name ys) → found name ((row ∷ xs) ++ ys) ≡ found name ys
    by_test true same later = absurd (let e : Some (row.tag, row.kind) ≡ None = sym (found_here name row xs same) ∙ none in cc)
    by_test false other later = found_later name row (xs ++ ys) other ∙ later (sym (found_later name row xs other) ∙ none)

pub found_front : (name : List ℕ) (xs ys : List Row) (what : Tag × Kind) → found name xs ≡ Some what → found name (xs ++ ys) ≡ Some what
found_front name [] ys what some = absurd cc
found_front name (row ∷ xs) ys what some = by_test (has_name name row) refl (found_front name xs ys what)
  where
    by_test : (b : Bool) → has_name name row ≡ b → (found name xs ≡ Some what → found name (xs ++ ys) ≡ Some what) → found name ((row ∷ xs) ++ ys) ≡ Some what
    by_test true same later = found_here name row (xs ++ ys) same ∙ sym (found_here name row xs same) ∙ some
    by_test false other later = found_later name row (xs ++ ys) other ∙ later (sym (found_later name row xs other) ∙ some)

-- ---- rows found page after page

pub none_all : (name : List ℕ) (pages : List (List ℕ)) → ((number : ℕ) → found_at name number pages ≡ None) → found name (all_rows pages) ≡ None
none_all name [] none = refl
none_all name (page ∷ pages) none = found_behind name (rows_of page) (all_rows pages) (none 0) ∙ none_all name pages (λ number. none (suc number))

pub found_first : (name : List ℕ) (pages : List (List ℕ)) (number : ℕ) (what : Tag × Kind) → NoneBelow name pages number → found_at name number pages ≡ Some what → found name (all_rows pages) ≡ Some what
found_first name [] number what before here =
    let none : found_at name number no_pages ≡ None = ap (found name) (rows_past no_pages number (omega arith)) in
    let e : Some what ≡ None = sym here ∙ none in absurd cc
found_first name (page ∷ pages) zero what before here = found_front name (rows_of page) (all_rows pages) what here
found_first name (page ∷ pages) (suc number) what before here =
    found_behind name (rows_of page) (all_rows pages) (before 0 (omega arith)) ∙ found_first name pages number what (λ k below. before (suc k) (omega (arith, below))) here

-- ---- rows and entries of a hash, counted

-- one where a test holds
abbrev pub one_if : Bool → ℕ
one_if b = cond b 1 0

module _ (hash : ℕ) where
  abbrev pub has_hash : Row → Bool
  has_hash row = nat_eq (hash_of row.name) hash

  pub hash_more : (row : Row) (rows : List Row) → count_hash hash (row ∷ rows) ≡ one_if (has_hash row) + count_hash hash rows
  hash_more row rows = sum_by-cons (λ r. one_if (has_hash r)) row rows

  pub none_of_hash : (name : List ℕ) (rows : List Row) → hash_of name ≡ hash → count_hash hash rows ≡ 0 → found name rows ≡ None
  none_of_hash name [] of none = refl
  none_of_hash name (row ∷ rows) of none = by_test (has_name name row) refl (none_of_hash name rows of)
    where
      one : has_name name row ≡ true → one_if (has_hash row) ≡ 1
      one same = ap one_if (eq-eqb (hash_of row.name) hash (ap hash_of (named_is name row same) ∙ of))

      by_test : (b : Bool) → has_name name row ≡ b → (count_hash hash rows ≡ 0 → found name rows ≡ None) → found name (row ∷ rows) ≡ None
      by_test true same later = absurd (omega (arith, hash_more row rows, none, one same))
      by_test false other later = found_later name row rows other ∙ later (omega (arith, hash_more row rows, none))

  module _ (page : ℕ) where
    abbrev pub is_entry : IndexEntry → Bool
    is_entry entry = nat_eq entry.hash hash && nat_eq entry.page page

    pub entries_more : (entry : IndexEntry) (entries : List IndexEntry) → count_entries hash page (entry ∷ entries) ≡ one_if (is_entry entry) + count_entries hash page entries
    entries_more entry entries = sum_by-cons (λ e. one_if (is_entry e)) entry entries

    pub has_or_none : (entries : List IndexEntry) → (count_entries hash page entries ≡ 0) ⊎ Has entries hash page
    has_or_none [] = inl refl
    has_or_none (entry ∷ entries) = by_test (is_entry entry) refl (has_or_none entries)
      where
        by_test : (b : Bool) → is_entry entry ≡ b → (count_entries hash page entries ≡ 0) ⊎ Has entries hash page → (count_entries hash page (entry ∷ entries) ≡ 0) ⊎ Has (entry ∷ entries) hash page
        by_test true same later =
            let parts = and_parts (nat_eq entry.hash hash) (nat_eq entry.page page) same in
            inr (inl (eqb-true entry.hash hash parts.0, eqb-true entry.page page parts.1))
        by_test false other (inl none) = let nothing : one_if (is_entry entry) ≡ 0 = ap one_if other in inl (omega (arith, entries_more entry entries, nothing, none))
        by_test false other (inr has) = inr (inr has)

    pub some_counted : (entries : List IndexEntry) → Has entries hash page → 1 ≤ count_entries hash page entries
    some_counted [] has = absurd has
    some_counted (entry ∷ entries) (inl same) =
        let one : is_entry entry ≡ true = and_from (nat_eq entry.hash hash) (nat_eq entry.page page) (eq-eqb entry.hash hash same.0) (eq-eqb entry.page page same.1) in
        let counts : one_if (is_entry entry) ≡ 1 = ap one_if one in
        omega (arith, entries_more entry entries, counts)
    some_counted (entry ∷ entries) (inr later) = omega (arith, entries_more entry entries, some_counted entries later)

-- ---- the pages that an index has for a hash

module _ (pages : List (List ℕ)) (entries : List IndexEntry) (exact : AreEntriesOf pages entries) (name : List ℕ) (hash : ℕ) (of : hash_of name ≡ hash) where
  pub none_without : (number : ℕ) → (¬ Has entries hash number) → found_at name number pages ≡ None
  none_without number missing = elim (has_or_none hash number entries) [
    | inl none ↦ none_of_hash hash name (rows_at number pages) of (sym (exact hash number) ∙ none)
    | inr has ↦ absurd (missing has)
  ]

  pub page_there : (number : ℕ) → Has entries hash number → number < length pages
  page_there number has = elim (cases_lt number (length pages)) [
    | inl less ↦ less
    | inr past ↦ absurd (omega (arith, some_counted hash number entries has, exact hash number, ap (count_hash hash) (rows_past pages number past)))
  ]

  pub none_on : (from number : ℕ) → IsNext hash from entries number → NoneBelow name pages from → found_at name number pages ≡ None → NoneBelow name pages (number + 1)
  none_on from number next before here k below = elim (cases_lt k from) [
    | inl less ↦ before k less
    | inr least ↦ elim (cases_lt k number) [
      | inl between ↦ none_without k (λ has. omega (arith, next.least k has least, between))
      | inr same ↦ let e : k ≡ number = omega (arith, same, below) in ap (λ n. found_at name n pages) e ∙ here
    ]
  ]

  pub none_to : (from number : ℕ) → IsNext hash from entries number → NoneBelow name pages from → NoneBelow name pages number
  none_to from number next before k below = elim (cases_lt k from) [
    | inl less ↦ before k less
    | inr least ↦ none_without k (λ has. omega (arith, next.least k has least, below))
  ]

  pub none_at_all : (from : ℕ) → (¬ HasNext hash from entries) → NoneBelow name pages from → (number : ℕ) → found_at name number pages ≡ None
  none_at_all from none before number = elim (cases_lt number from) [
    | inl less ↦ before number less
    | inr least ↦ none_without number (λ has. none (number, least, has))
  ]

-- ---- what a look at one page answers

pub some_answer : (name : List ℕ) (pages : List (List ℕ)) (number : ℕ) (place : Option Place) → is_some place ≡ true → IsSearchedAt name number pages place → NoneBelow name pages number → IsSearched name pages place
some_answer name pages number None some here before = absurd cc
some_answer name pages number (Some place) some here before = record {
  before = subst (NoneBelow name pages) (sym here.0) before;
  here = ap (λ n. found_at name n pages) here.0 ∙ here.1;
}

pub none_answer : (name : List ℕ) (pages : List (List ℕ)) (number : ℕ) (place : Option Place) → is_some place ≡ false → IsSearchedAt name number pages place → found_at name number pages ≡ None
none_answer name pages number None none here = here
none_answer name pages number (Some place) none here = absurd cc
