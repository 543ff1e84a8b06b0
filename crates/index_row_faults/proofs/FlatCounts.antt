-- How often an entry stands on pages, one behind the other.
use Rattle.std.proofs.Common.{◌≡◌, ◌∙◌, ◌+◌, ◌==◌, ◌&&◌, ℕ, Bool, true, false, cond, List, [], ◌∷◌, ◌++◌, length, map, refl, sym, ap, arith, suc}
use Rattle.std.specs.List.{count_by, filter, flat_map}
use Rattle.std.proofs.lemmas.List.Sums.{length-filter}
use Rattle.page_faults.specs.domain_base.declared.place.Home.{Home}
use Rattle.page_faults.specs.page_store.Pages.{Pages}
use Rattle.page_faults.specs.directory_pages.declared.entry.IndexEntry.{IndexEntry}
use Rattle.page_faults.specs.directory_rows.Directory.{count_entries}
use Rattle.page_faults.specs.domain_layout.DirectoryRules.{entries_in}
use Rattle.index_row_faults.specs.Counts.{is_key}
use Rattle.index_row_faults.specs.Entries.{entries_at, entries_on, page_at, placed}
use Rattle.index_row_faults.specs.Totals.{key_of}
use Rattle.index_row_faults.specs.declared.entries.EntryAt.{EntryAt}
use Rattle.index_row_faults.proofs.RowsKeyed.{count_append}

module _ {X Y : Type 0} (f : X → Y) (p : Y → Bool) where
  filter_map : (xs : List X) → length (filter p (map f xs)) ≡ length (filter (λ x. p (f x)) xs)
  filter_map [] = refl
  filter_map (x ∷ xs) = by_test (p (f x)) (filter_map xs)
    where
      by_test : (b : Bool) → length (filter p (map f xs)) ≡ length (filter (λ x. p (f x)) xs)
          → length (cond b (f x ∷ filter p (map f xs)) (filter p (map f xs))) ≡ length (cond b (x ∷ filter (λ x. p (f x)) xs) (filter (λ x. p (f x)) xs))
      by_test true rest = ap suc rest
      by_test false rest = rest

  pub count_map : (xs : List X) → count_by p (map f xs) ≡ count_by (λ x. p (f x)) xs
  count_map xs = sym (length-filter p (map f xs)) ∙ filter_map xs ∙ length-filter (λ x. p (f x)) xs

-- of this hash and page
abbrev pub is_entry : ℕ → ℕ → IndexEntry → Bool
is_entry hash page entry = (entry.hash == hash) && (entry.page == page)

abbrev pub is_at_entry : ℕ → ℕ → EntryAt → Bool
is_at_entry hash page at = is_entry hash page at.entry

flat_same : (pages : Pages) (hash page : ℕ) (homes : List Home) → count_by (is_at_entry hash page) (entries_on pages homes) ≡ count_by (is_entry hash page) (flat_map entries_in (map (page_at pages) homes))
flat_same pages hash page [] = refl
flat_same pages hash page (home ∷ homes) =
    let entries = entries_in (page_at pages home) in
    let place : IndexEntry → EntryAt = λ entry. record { home = home; entry = entry } in
    count_append (is_at_entry hash page) (entries_at pages home) (entries_on pages homes)
    ∙ (λ i. count_map place (is_at_entry hash page) entries i + flat_same pages hash page homes i)
    ∙ sym (count_append (is_entry hash page) entries (flat_map entries_in (map (page_at pages) homes)))

pub flat_count : (pages : Pages) (hash page : ℕ) (homes : List Home) → count_by (is_key hash page) (map key_of (entries_on pages homes)) ≡ count_entries hash page (flat_map entries_in (map (page_at pages) homes))
flat_count pages hash page homes = count_map key_of (is_key hash page) (entries_on pages homes) ∙ flat_same pages hash page homes

length_append : {X : Type 0} (xs ys : List X) → length (xs ++ ys) ≡ length xs + length ys
length_append [] ys = omega arith
length_append (x ∷ xs) ys = omega (arith, length_append xs ys)

length_map : {X Y : Type 0} (f : X → Y) (xs : List X) → length (map f xs) ≡ length xs
length_map f [] = refl
length_map f (x ∷ xs) = ap suc (length_map f xs)

pub flat_length : (pages : Pages) (homes : List Home) → length (entries_on pages homes) ≡ length (flat_map entries_in (map (page_at pages) homes))
flat_length pages [] = refl
flat_length pages (home ∷ homes) =
    let entries = entries_in (page_at pages home) in
    let place : IndexEntry → EntryAt = λ entry. record { home = home; entry = entry } in
    omega (arith, length_append (entries_at pages home) (entries_on pages homes), length_map place entries, flat_length pages homes, length_append entries (flat_map entries_in (map (page_at pages) homes)))
