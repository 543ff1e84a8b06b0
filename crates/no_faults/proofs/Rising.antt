-- Entries of the pages of an index, which rise over all of them.
use Rattle.std.proofs.Common.{◌≡◌, ◌∙◌, ◌⊎◌, inl, inr, ℕ, zero, suc, ◌+◌, ◌<◌, Bool, true, false, cond, nat_le, List, [], ◌∷◌, ◌++◌, length, map, Some, slice_get, refl, sym, ap, subst, arith, length-append, ⊎_elim}
use Rattle.std.specs.List.{AllByRecursion, flat_map}
use Rattle.domain_memory.specs.page_store.Bitfiles.{shown_index}
use Rattle.domain_memory.specs.cell_records.Fields.{number_at}
use Rattle.domain_memory.specs.directory_pages.Entries.{Rise, is_below}
use Rattle.domain_memory.specs.directory_pages.Index.{entries_from, entries_of}
use Rattle.domain_memory.specs.directory_pages.declared.entry.IndexEntry.{IndexEntry}
use Rattle.domain_memory.specs.stored_set.Whole.{entries_on, total_on}
use Rattle.domain_memory.proofs.OfStoredSet.Entries.{shown_entries}
use Rattle.domain_memory.specs.domain_layout.DirectoryRules.{IsGoodIndexPage, entries_in}
use Rattle.domain_memory.proofs.OfDomainLayout.OnePage.{some_same}
use Rattle.no_faults.proofs.InChains.{all_get}
use Rattle.no_faults.proofs.Ways.{nothing}

-- ---- lists

pub same_list : {X : Type 0} (xs ys : List X) → ((k : ℕ) → slice_get xs k ≡ slice_get ys k) → xs ≡ ys
same_list [] [] same = refl
same_list [] (y ∷ ys) same = nothing y (same 0)
same_list (x ∷ xs) [] same = nothing x (sym (same 0))
same_list (x ∷ xs) (y ∷ ys) same = let first : x ≡ y = some_same x y (same 0) in λ i. first i ∷ same_list xs ys (λ k. same (suc k)) i

all_front : (P : IndexEntry → Type 0) (xs ys : List IndexEntry) → AllByRecursion P (xs ++ ys) → AllByRecursion P xs
all_front P [] ys all = tt
all_front P (x ∷ xs) ys all = (all.0, all_front P xs ys all.1)

all_back : (P : IndexEntry → Type 0) (xs ys : List IndexEntry) → AllByRecursion P (xs ++ ys) → AllByRecursion P ys
all_back P [] ys all = all
all_back P (x ∷ xs) ys all = all_back P xs ys all.1

-- an entry of a page is one of all pages
all_flat : (P : IndexEntry → Type 0) (pages : List (List ℕ)) → AllByRecursion P (flat_map entries_in pages) → (k : ℕ) (bytes : List ℕ) (j : ℕ) (a : IndexEntry) → slice_get pages k ≡ Some bytes → slice_get (entries_in bytes) j ≡ Some a → P a
all_flat P [] all k bytes j a is at = nothing bytes is
all_flat P (page ∷ pages) all zero bytes j a is at =
    all_get P (entries_in page) (all_front P (entries_in page) (flat_map entries_in pages) all) j a (subst (λ b. slice_get (entries_in b) j ≡ Some a) (sym (some_same page bytes is)) at)
all_flat P (page ∷ pages) all (suc k) bytes j a is at = all_flat P pages (all_back P (entries_in page) (flat_map entries_in pages) all) k bytes j a is at

-- ---- entries that rise

rise_front : (xs ys : List IndexEntry) → Rise (xs ++ ys) → Rise xs
rise_front [] ys rise = tt
rise_front (x ∷ xs) ys rise = (all_front (λ later. is_below later x ≡ false) xs ys rise.0, rise_front xs ys rise.1)

rise_back : (xs ys : List IndexEntry) → Rise (xs ++ ys) → Rise ys
rise_back [] ys rise = rise
rise_back (x ∷ xs) ys rise = rise_back xs ys rise.1

rise_pair : (xs : List IndexEntry) → Rise xs → (i j : ℕ) (a b : IndexEntry) → i < j → slice_get xs i ≡ Some a → slice_get xs j ≡ Some b → is_below b a ≡ false
rise_pair [] rise i j a b less at at' = nothing a at
rise_pair (x ∷ xs) rise i zero a b less at at' = absurd (omega (arith, less))
rise_pair (x ∷ xs) rise zero (suc j) a b less at at' =
    subst (λ y. is_below b y ≡ false) (some_same x a at) (all_get (λ later. is_below later x ≡ false) xs rise.0 j b at')
rise_pair (x ∷ xs) rise (suc i) (suc j) a b less at at' = rise_pair xs rise.1 i j a b (omega (arith, less)) at at'

rise_across : (xs ys : List IndexEntry) → Rise (xs ++ ys) → (i : ℕ) (a : IndexEntry) → slice_get xs i ≡ Some a → AllByRecursion (λ later. is_below later a ≡ false) ys
rise_across [] ys rise i a at = nothing a at
rise_across (x ∷ xs) ys rise zero a at =
    subst (λ y. AllByRecursion (λ later. is_below later y ≡ false) ys) (some_same x a at) (all_back (λ later. is_below later x ≡ false) xs ys rise.0)
rise_across (x ∷ xs) ys rise (suc i) a at = rise_across xs ys rise.1 i a at

-- an entry is not below one in front of it, on an earlier page or at an earlier place of its page
pub not_below : (pages : List (List ℕ)) → Rise (flat_map entries_in pages) → (k k' : ℕ) (bytes bytes' : List ℕ) (j j' : ℕ) (a b : IndexEntry) → slice_get pages k ≡ Some bytes → slice_get pages k' ≡ Some bytes'
    → slice_get (entries_in bytes) j ≡ Some a → slice_get (entries_in bytes') j' ≡ Some b → (k < k') ⊎ ((k ≡ k') × (j < j')) → is_below b a ≡ false
not_below [] rise k k' bytes bytes' j j' a b is is' at at' order = nothing bytes is
not_below (page ∷ pages) rise zero zero bytes bytes' j j' a b is is' at at' order =
    rise_pair (entries_in page) (rise_front (entries_in page) (flat_map entries_in pages) rise) j j' a b (⊎_elim (λ less. absurd (omega (arith, less))) (λ same. same.1) order)
    (subst (λ p. slice_get (entries_in p) j ≡ Some a) (sym (some_same page bytes is)) at) (subst (λ p. slice_get (entries_in p) j' ≡ Some b) (sym (some_same page bytes' is')) at')
not_below (page ∷ pages) rise zero (suc k') bytes bytes' j j' a b is is' at at' order =
    all_flat (λ later. is_below later a ≡ false) pages
    (rise_across (entries_in page) (flat_map entries_in pages) rise j a (subst (λ p. slice_get (entries_in p) j ≡ Some a) (sym (some_same page bytes is)) at)) k' bytes' j' b is' at'
not_below (page ∷ pages) rise (suc k) zero bytes bytes' j j' a b is is' at at' order = absurd (⊎_elim (λ less. omega (arith, less)) (λ same. omega (arith, same.0)) order)
not_below (page ∷ pages) rise (suc k) (suc k') bytes bytes' j j' a b is is' at at' order =
    not_below pages (rise_back (entries_in page) (flat_map entries_in pages) rise) k k' bytes bytes' j j' a b is is' at at'
    (⊎_elim (λ less. inl (omega (arith, less))) (λ same. inr (omega (arith, same.0), same.1)) order)

-- ---- how many they are

count_from : (page : List ℕ) (k n : ℕ) → length (entries_from page k n) ≡ n
count_from page k zero = refl
count_from page k (suc n) = ap suc (count_from page (k + 1) n)

entries_count : (page : List ℕ) → length (entries_in page) ≡ entries_on page
entries_count page = by_test (nat_le (number_at 4 4 page) 1022)
  where
    by_test : (b : Bool) → length (cond b (entries_of page) []) ≡ cond b (number_at 4 4 page) 0
    by_test true = count_from page 0 (number_at 4 4 page)
    by_test false = refl

pub total_is : (pages : List (List ℕ)) → AllByRecursion IsGoodIndexPage pages → total_on (map shown_index pages) ≡ length (flat_map entries_in pages)
total_is [] good = refl
total_is (page ∷ pages) good =
    let here : entries_on (shown_index page) ≡ length (entries_in page) = shown_entries page good.0.0.whole ∙ sym (entries_count page) in
    let later = total_is pages good.1 in
    omega (arith, here, later, length-append (entries_in page) (flat_map entries_in pages))

pub all_by_place : (P : List ℕ → Type 0) (xs : List (List ℕ)) → ((k : ℕ) (x : List ℕ) → slice_get xs k ≡ Some x → P x) → AllByRecursion P xs
all_by_place P [] each = tt
all_by_place P (x ∷ xs) each = (each 0 x refl, all_by_place P xs (λ k y at. each (suc k) y at))
