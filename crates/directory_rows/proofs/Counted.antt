-- Rows and entries counted by their hashes.
use Rattle.std.proofs.Common.{◌≡◌, ◌∙◌, ◌⊎◌, inl, inr, ℕ, ◌+◌, ◌&&◌, Bool, true, false, nat_eq, List, [], ◌∷◌, ◌++◌, refl, sym, ap, subst, arith}
use Rattle.std.proofs.lemmas.Bool.{and_from, and_right, eq-eqb, eqb-true}
use Rattle.std.proofs.lemmas.List.Sums.{sum_by-append}
use Rattle.directory_pages.specs.declared.row.Row.{Row}
use Rattle.directory_pages.specs.declared.entry.IndexEntry.{IndexEntry}
use Rattle.directory_pages.specs.Entries.{Has, hash_of}
use Rattle.directory_rows.specs.Directory.{AreEntriesOf, count_entries, count_hash, rows_at}
use Rattle.directory_rows.proofs.Looking.{entries_more, has_hash, has_or_none, hash_more, is_entry, one_if}

module _ (hash : ℕ) where
  pub hash_middle : (front : List Row) (row : Row) (back : List Row) → count_hash hash (front ++ row ∷ back) ≡ one_if (has_hash hash row) + count_hash hash (front ++ back)
  hash_middle front row back =
      omega (arith, sum_by-append (λ r. one_if (has_hash hash r)) front (row ∷ back), sum_by-append (λ r. one_if (has_hash hash r)) front back, hash_more hash row back)

  module _ (page : ℕ) where
    pub entries_middle : (front : List IndexEntry) (entry : IndexEntry) (back : List IndexEntry) → count_entries hash page (front ++ entry ∷ back) ≡ one_if (is_entry hash page entry) + count_entries hash page (front ++ back)
    entries_middle front entry back =
        omega (arith, sum_by-append (λ e. one_if (is_entry hash page e)) front (entry ∷ back), sum_by-append (λ e. one_if (is_entry hash page e)) front back, entries_more hash page entry back)

-- pages that have one row more than others
pub record OneMore (number : ℕ) (row : Row) (pages more : List (List ℕ)) : Type 0 where
  pub front : List Row
  pub back : List Row
  pub had : rows_at number pages ≡ front ++ back
  pub has : rows_at number more ≡ front ++ row ∷ back
  pub others : (k : ℕ) → (¬ k ≡ number) → rows_at k more ≡ rows_at k pages

same_or_not : (a b : ℕ) → (a ≡ b) ⊎ (¬ a ≡ b)
same_or_not a b = by_test (nat_eq a b) refl
  where
    by_test : (t : Bool) → nat_eq a b ≡ t → (a ≡ b) ⊎ (¬ a ≡ b)
    by_test true same = inl (eqb-true a b same)
    by_test false other = inr (λ same. let e : true ≡ false = sym (eq-eqb a b same) ∙ other in absurd cc)

abbrev pub entry_for : ℕ → List ℕ → IndexEntry
entry_for number name = record { hash = hash_of name; page = number }

module _ (number : ℕ) (row : Row) (pages more : List (List ℕ)) (one : OneMore number row pages more) where
  abbrev entry : IndexEntry
  entry = entry_for number row.name

  here : (hash : ℕ) → is_entry hash number entry ≡ has_hash hash row
  here hash = by_test (has_hash hash row) refl
    where
      by_test : (t : Bool) → has_hash hash row ≡ t → is_entry hash number entry ≡ has_hash hash row
      by_test true same = and_from (has_hash hash row) (nat_eq number number) same (eq-eqb number number refl) ∙ sym same
      by_test false other = ap (λ t. t && nat_eq number number) other ∙ sym other

  elsewhere : (hash page : ℕ) → (¬ page ≡ number) → is_entry hash page entry ≡ false
  elsewhere hash page other = by_test (nat_eq number page) refl
    where
      by_test : (t : Bool) → nat_eq number page ≡ t → is_entry hash page entry ≡ false
      by_test true same = absurd (other (sym (eqb-true number page same)))
      by_test false not_same = and_right (has_hash hash row) (nat_eq number page) not_same

  pub count_more : (hash page : ℕ) → count_hash hash (rows_at page more) ≡ one_if (is_entry hash page entry) + count_hash hash (rows_at page pages)
  count_more hash page = elim (same_or_not page number) [
    | inl same ↦
        subst (λ p. count_hash hash (rows_at p more) ≡ one_if (is_entry hash p entry) + count_hash hash (rows_at p pages)) (sym same)
        (omega (arith, ap (count_hash hash) one.has, ap (count_hash hash) one.had, hash_middle hash one.front row one.back, ap one_if (here hash)))
    | inr other ↦ omega (arith, ap (count_hash hash) (one.others page other), ap one_if (elsewhere hash page other))
  ]

  -- the entries of all rows but one
  pub lacks_one : (entries : List IndexEntry) → AreEntriesOf pages entries → AreEntriesOf more (entry ∷ entries)
  lacks_one entries exact hash page = omega (arith, count_more hash page, exact hash page, entries_more hash page entry entries)

  -- the entries of all rows and one more
  pub spares_one : (entries : List IndexEntry) → AreEntriesOf more entries → (hash page : ℕ) → count_entries hash page entries ≡ count_entries hash page (entry ∷ []) + count_hash hash (rows_at page pages)
  spares_one entries exact hash page = omega (arith, count_more hash page, exact hash page, entries_more hash page entry [])

-- ---- an entry put among the others, or taken away

pub exact_with : (pages : List (List ℕ)) (entry : IndexEntry) (old new front back : List IndexEntry) → AreEntriesOf pages (entry ∷ old) → old ≡ front ++ back → new ≡ front ++ entry ∷ back → AreEntriesOf pages new
exact_with pages entry old new front back exact were are hash page =
    omega (arith, exact hash page, entries_more hash page entry old, ap (count_entries hash page) were, ap (count_entries hash page) are, entries_middle hash page front entry back)

module _ (pages : List (List ℕ)) (entry : IndexEntry) (old : List IndexEntry) (exact : (hash page : ℕ) → count_entries hash page old ≡ count_entries hash page (entry ∷ []) + count_hash hash (rows_at page pages)) where
  pub exact_without : (new front back : List IndexEntry) → old ≡ front ++ entry ∷ back → new ≡ front ++ back → AreEntriesOf pages new
  exact_without new front back were are hash page =
      omega (arith, exact hash page, entries_more hash page entry [], ap (count_entries hash page) were, ap (count_entries hash page) are, entries_middle hash page front entry back)

  pub spare_there : Has old entry.hash entry.page
  spare_there = elim (has_or_none entry.hash entry.page old) [
    | inl none ↦
        let itself : is_entry entry.hash entry.page entry ≡ true = and_from (nat_eq entry.hash entry.hash) (nat_eq entry.page entry.page) (eq-eqb entry.hash entry.hash refl) (eq-eqb entry.page entry.page refl) in
        absurd (omega (arith, none, exact entry.hash entry.page, entries_more entry.hash entry.page entry [], ap one_if itself))
    | inr has ↦ has
  ]
