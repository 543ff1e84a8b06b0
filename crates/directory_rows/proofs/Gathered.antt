-- The entries of all rows, gathered and in order.
use Rattle.std.proofs.Common.{◌≡◌, ◌∙◌, inl, inr, ℕ, suc, ◌+◌, ◌<◌, ◌≤◌, ◌&&◌, ◌||◌, Bool, true, false, cond, nat_eq, nat_lt, List, [], ◌∷◌, ◌++◌, length, get_or, refl, sym, ap, arith}
use Rattle.std.proofs.lemmas.Bool.{and_left, and_right, cases_lt, eq-eqb, eqb-true}
use Rattle.std.proofs.lemmas.List.Elements.{recursion_from_All}
use Rattle.std.proofs.lemmas.List.Sorted.{ranks_by, sorted_far, sum_by-IsPermutation}
use Rattle.std.proofs.lemmas.List.Sums.{sum_by-append}
use Rattle.std.proofs.lemmas.Cmp.{nat_cmp_total, on_total, then_total}
use Rattle.std.specs.Cmp.{IsTotalOrder}
use Rattle.std.specs.List.Sorted.{IsPermutation, IsSortedByKey}
use Rattle.std.specs.Ordering.{is_lt, nat_cmp, ordering_then}
use Rattle.std.specs.declared.cmp.Ordering.{Ordering}
use Rattle.std.specs.declared.cmp.Ordering.TheVariants.{Less, Equal, Greater}
use Rattle.directory_pages.specs.declared.row.Row.{Row}
use Rattle.directory_pages.specs.declared.entry.IndexEntry.{IndexEntry}
use Rattle.directory_pages.specs.Entries.{Rise, hash_of, is_below}
use Rattle.directory_rows.specs.Directory.{AreEntriesOf, count_entries, count_hash, rows_at}
use Rattle.directory_rows.specs.Steps.{entries_for}
use Rattle.directory_rows.proofs.Looking.{entries_more, has_hash, hash_more, is_entry, one_if}
use Rattle.directory_rows.proofs.Parts.{rows_past}

-- the entries of the rows of all pages before one
pub record AreEntriesBelow (pages : List (List ℕ)) (number : ℕ) (entries : List IndexEntry) : Type 0 where
  pub below : (hash page : ℕ) → page < number → count_entries hash page entries ≡ count_hash hash (rows_at page pages)
  pub none : (hash page : ℕ) → number ≤ page → count_entries hash page entries ≡ 0

module _ (hash page : ℕ) where
  count_here : (number : ℕ) (rows : List Row) → number ≡ page → count_entries hash page (entries_for number rows) ≡ count_hash hash rows
  count_here number [] same = refl
  count_here number (row ∷ rows) same =
      omega (arith, entries_more hash page (record { hash = hash_of row.name; page = number }) (entries_for number rows), hash_more hash row rows, count_here number rows same, ap one_if (one (has_hash hash row) refl))
    where
      one : (t : Bool) → has_hash hash row ≡ t → (nat_eq (hash_of row.name) hash && nat_eq number page) ≡ has_hash hash row
      one true is = (λ i. is i && eq-eqb number page same i) ∙ sym is
      one false is = and_left (has_hash hash row) (nat_eq number page) is ∙ sym is

  count_elsewhere : (number : ℕ) (rows : List Row) → (¬ number ≡ page) → count_entries hash page (entries_for number rows) ≡ 0
  count_elsewhere number [] other = refl
  count_elsewhere number (row ∷ rows) other =
      omega (arith, entries_more hash page (record { hash = hash_of row.name; page = number }) (entries_for number rows), count_elsewhere number rows other, ap one_if (none (nat_eq number page) refl))
    where
      none : (t : Bool) → nat_eq number page ≡ t → (nat_eq (hash_of row.name) hash && nat_eq number page) ≡ false
      none true is = absurd (other (eqb-true number page is))
      none false is = and_right (has_hash hash row) (nat_eq number page) is

pub entries_long : (number : ℕ) (rows : List Row) → length (entries_for number rows) ≡ length rows
entries_long number [] = refl
entries_long number (row ∷ rows) = ap suc (entries_long number rows)

pub entries_on : (pages : List (List ℕ)) (number : ℕ) (old new : List IndexEntry) → AreEntriesBelow pages number old → new ≡ old ++ entries_for number (rows_at number pages) → AreEntriesBelow pages (number + 1) new
entries_on pages number old new were are = record {
  below = λ hash page less. elim (cases_lt page number) [
    | inl before ↦ omega (arith, joined hash page, were.below hash page before, count_elsewhere hash page number (rows_at number pages) (λ same. omega (arith, same, before)))
    | inr least ↦
        let same : number ≡ page = omega (arith, less, least) in
        omega (arith, joined hash page, were.none hash page least, count_here hash page number (rows_at number pages) same, ap (λ n. count_hash hash (rows_at n pages)) same)
  ];
  none = λ hash page least. omega (arith, joined hash page, were.none hash page (omega (arith, least)), count_elsewhere hash page number (rows_at number pages) (λ same. omega (arith, same, least)));
}
  where
    joined : (hash page : ℕ) → count_entries hash page new ≡ count_entries hash page old + count_entries hash page (entries_for number (rows_at number pages))
    joined hash page = ap (count_entries hash page) are ∙ sum_by-append (λ e. one_if (is_entry hash page e)) old (entries_for number (rows_at number pages))

pub entries_all : (pages : List (List ℕ)) (number : ℕ) (entries : List IndexEntry) → length pages ≤ number → AreEntriesBelow pages number entries → AreEntriesOf pages entries
entries_all pages number entries past are hash page = elim (cases_lt page number) [
  | inl less ↦ are.below hash page less
  | inr least ↦ are.none hash page least ∙ sym (ap (count_hash hash) (rows_past pages page (omega (arith, past, least))))
]

-- the same entries in another order
pub entries_moved : (pages : List (List ℕ)) (old new : List IndexEntry) → AreEntriesOf pages old → IsPermutation old new → AreEntriesOf pages new
entries_moved pages old new exact moved hash page = sum_by-IsPermutation (λ e. one_if (is_entry hash page e)) old new moved ∙ exact hash page

-- ---- entries in their order

abbrev pub key_of : IndexEntry → ℕ × ℕ
key_of entry = (entry.hash, entry.page)

abbrev pub key_cmp : ℕ × ℕ → ℕ × ℕ → Ordering
key_cmp a b = ordering_then (nat_cmp a.0 b.0) (nat_cmp a.1 b.1)

key_total : IsTotalOrder key_cmp
key_total = then_total (on_total (λ (k : ℕ × ℕ). k.0) nat_cmp_total) (on_total (λ (k : ℕ × ℕ). k.1) nat_cmp_total)

below_is : (a b : IndexEntry) → is_below a b ≡ is_lt (key_cmp (key_of a) (key_of b))
below_is a b = by_test (nat_lt a.hash b.hash) (nat_eq a.hash b.hash) (nat_lt a.page b.page) (nat_eq a.page b.page)
  where
    by_test : (l e m f : Bool) → (l || (e && m)) ≡ is_lt (ordering_then (cond l Less (cond e Equal Greater)) (cond m Less (cond f Equal Greater)))
    by_test true e m f = refl
    by_test false true true f = refl
    by_test false true false true = refl
    by_test false true false false = refl
    by_test false false m f = refl

pub rise_from : (xs : List IndexEntry) → ((i j : ℕ) (d : IndexEntry) → i ≤ j → j < length xs → is_below (get_or xs j d) (get_or xs i d) ≡ false) → Rise xs
rise_from [] high = tt
rise_from (x ∷ xs) high =
    (recursion_from_All (λ later. is_below later x ≡ false) xs (λ k d within. high 0 (suc k) d (omega arith) (omega (arith, within))), rise_from xs (λ i j d order within. high (suc i) (suc j) d (omega (arith, order)) (omega (arith, within))))

pub rise_sorted : (xs : List IndexEntry) → IsSortedByKey key_of key_cmp xs → Rise xs
rise_sorted xs sorted = rise_from xs (λ i j d order within. below_is (get_or xs j d) (get_or xs i d) ∙ sorted_far (λ a b. is_lt (key_cmp (key_of a) (key_of b))) (ranks_by key_total key_of) xs sorted i j d order within)
