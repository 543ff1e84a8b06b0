-- Entries of rising hashes.
use Rattle.std.proofs.Common.{◌≡◌, ℕ, ◌+◌, ◌<◌, true, List, [], ◌∷◌, ◌++◌, sym, subst, arith, append-nil}
use Rattle.std.proofs.lemmas.Bool.Decides.{nat_tests}
use Rattle.std.specs.List.{AllByRecursion}
use Rattle.directory_rows.specs.directory_pages.declared.entry.IndexEntry.{IndexEntry}
use Rattle.directory_rows.specs.directory_pages.Entries.{Rise, is_below}
use Rattle.directory_rows.proofs.OfDirectoryPages.Orders.{rise_with}

abbrev pub AreLow : ℕ → List IndexEntry → Type 0
AreLow hash entries = AllByRecursion (λ entry. entry.hash < hash) entries

abbrev next : ℕ → IndexEntry
next hash = record { hash = hash; page = 0 }

below : (entry : IndexEntry) (hash : ℕ) → entry.hash < hash → is_below entry (next hash) ≡ true
below entry hash less = grind (arith, nat_tests)

all_below : (entries : List IndexEntry) (hash : ℕ) → AreLow hash entries → AllByRecursion (λ entry. is_below entry (next hash) ≡ true) entries
all_below [] hash low = tt
all_below (entry ∷ entries) hash low = (below entry hash low.0, all_below entries hash low.1)

pub low_more : (entries : List IndexEntry) (hash : ℕ) → AreLow hash entries → AreLow (hash + 1) (entries ++ next hash ∷ [])
low_more [] hash low = (omega arith, tt)
low_more (entry ∷ entries) hash low = (omega (arith, low.0), low_more entries hash low.1)

pub rise_more : (entries : List IndexEntry) (hash : ℕ) → Rise entries → AreLow hash entries → Rise (entries ++ next hash ∷ [])
rise_more entries hash rise low = rise_with entries (next hash) [] (subst Rise (sym (append-nil entries)) rise) (all_below entries hash low) tt
