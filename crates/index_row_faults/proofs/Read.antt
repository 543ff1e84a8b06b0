-- How many entries are read of a page, and entries one behind the other.
use Rattle.std.proofs.Common.{◌≡◌, ◌≤◌, ◌∙◌, ◌+◌, ℕ, Bool, true, false, cond, List, [], ◌∷◌, ◌++◌, length, Option, None, refl, sym, ap, subst}
use Rattle.std.specs.Prelude.{nat_le, unwrap_or}
use Rattle.std.proofs.lemmas.Bool.{both_ways, le-leb}
use Rattle.page_faults.specs.directory_pages.Index.{entries_from, entries_of, entry_at}
use Rattle.page_faults.specs.directory_pages.declared.entry.IndexEntry.{IndexEntry}
use Rattle.page_faults.proofs.OfDirectoryPages.IndexParts.{entries_long, entries_more}
use Rattle.page_faults.specs.domain_base.declared.place.Home.{Home}
use Rattle.page_faults.specs.page_store.Pages.{Pages}
use Rattle.page_faults.specs.cell_records.Fields.{number_at}
use Rattle.page_faults.specs.domain_layout.DirectoryRules.{entries_in}
use Rattle.index_row_faults.specs.Entries.{entries_at, placed}
use Rattle.index_row_faults.specs.declared.entries.EntryAt.{EntryAt}

pub entries_are : (page : List ℕ) → number_at 4 4 page ≤ 1022 → entries_in page ≡ entries_of page
entries_are page low = by_test (nat_le (number_at 4 4 page) 1022) (le-leb (number_at 4 4 page) 1022 low)
  where
    by_test : (b : Bool) → b ≡ true → cond b (entries_of page) [] ≡ entries_of page
    by_test true is = refl
    by_test false is = absurd (both_ways false refl is)

pub entries_counted : (page bytes : List ℕ) (count : ℕ) → count ≡ number_at 4 4 bytes → bytes ≡ page → count ≤ 1022 → count ≡ length (entries_in page)
entries_counted page bytes count is same low =
    let number : count ≡ number_at 4 4 page = is ∙ ap (number_at 4 4) same in
    number ∙ sym (entries_long page 0 (number_at 4 4 page)) ∙ ap (λ (l : List IndexEntry). length l) (sym (entries_are page (subst (λ n. n ≤ 1022) number low)))

placed_append : (home : Home) (xs ys : List IndexEntry) → placed home (xs ++ ys) ≡ placed home xs ++ placed home ys
placed_append home [] ys = refl
placed_append home (x ∷ xs) ys = ap (λ (l : List EntryAt). record { home = home; entry = x } ∷ l) (placed_append home xs ys)

pub placed_more : (home : Home) (page : List ℕ) (k : ℕ) → placed home (entries_from page 0 k) ++ (record { home = home; entry = entry_at page k }) ∷ [] ≡ placed home (entries_from page 0 (k + 1))
placed_more home page k = sym (placed_append home (entries_from page 0 k) (entry_at page k ∷ [])) ∙ ap (placed home) (sym (entries_more page k))

pub entries_whole : (page : List ℕ) → entries_from page 0 (length (entries_in page)) ≡ entries_in page
entries_whole page = by_test (nat_le (number_at 4 4 page) 1022)
  where
    by_test : (b : Bool) → entries_from page 0 (length (cond b (entries_of page) [])) ≡ cond b (entries_of page) []
    by_test true = ap (entries_from page 0) (entries_long page 0 (number_at 4 4 page))
    by_test false = refl

pub none_there : (pages : Pages) (home : Home) → pages home ≡ None → entries_at pages home ≡ []
unfolding number_at
none_there pages home none = ap (λ (o : Option (List ℕ)). placed home (entries_in (unwrap_or o []))) none
