-- Entries of the pages of an index, page after page.
use Rattle.std.proofs.Common.{◌≡◌, ◌∙◌, ◌⊎◌, inl, inr, ⊎_elim, ℕ, suc, ◌+◌, ◌<◌, Bool, true, false, cond, List, [], ◌∷◌, ◌++◌, map, count_by, Some, None, slice_get, nat_le, refl, sym, ap, arith, leb-false}
use Rattle.std.proofs.lemmas.List.Sums.{sum_by-cons}
use Rattle.std.specs.List.{AllByRecursion, flat_map}
use Rattle.fileset_shapes.specs.page_store.Bitfiles.{shown_index}
use Rattle.fileset_shapes.specs.cell_records.Fields.{number_at}
use Rattle.fileset_shapes.specs.directory_pages.Entries.{Rise, is_below}
use Rattle.fileset_shapes.specs.directory_pages.Index.{IsIndexPage, all_entries, entries_of}
use Rattle.fileset_shapes.specs.directory_pages.declared.entry.IndexEntry.{IndexEntry}
use Rattle.fileset_shapes.proofs.OfDirectoryPages.Shown.{entries_same}
use Rattle.fileset_shapes.specs.domain_layout.DirectoryRules.{IsGoodIndexPage, entries_in}
use Rattle.fileset_shapes.proofs.OfDirectoryRows.AllLed.{get_parted}

none_is_some : {P X : Type 0} (x : X) → None ≡ Some x → P
none_is_some x is = absurd (cc)

-- an entry stands on a page, at a place of it
pub record IsEntered (pages : List (List ℕ)) (entry : IndexEntry) : Type 0 where
  pub page : ℕ
  pub bytes : List ℕ
  pub there : slice_get pages page ≡ Some bytes
  pub place : ℕ
  pub at : slice_get (entries_in bytes) place ≡ Some entry

pub entered : (pages : List (List ℕ)) (k : ℕ) (entry : IndexEntry) → slice_get (flat_map entries_in pages) k ≡ Some entry → IsEntered pages entry
entered [] k entry is = none_is_some entry is
entered (page ∷ pages) k entry is = ⊎_elim
    (λ here. record { page = 0; bytes = page; there = refl; place = k; at = here })
    (λ later. let e = entered pages later.0 entry later.1 in record { page = suc e.page; bytes = e.bytes; there = e.there; place = e.place; at = e.at })
    (get_parted (entries_in page) (flat_map entries_in pages) k entry is)

-- ---- entries that rise

all_of : (P : IndexEntry → Type 0) (xs : List IndexEntry) → ((k : ℕ) (x : IndexEntry) → slice_get xs k ≡ Some x → P x) → AllByRecursion P xs
all_of P [] each = tt
all_of P (x ∷ xs) each = (each 0 x refl, all_of P xs (λ k y at. each (suc k) y at))

rise_by : (xs : List IndexEntry) → ((i j : ℕ) (a b : IndexEntry) → i < j → slice_get xs i ≡ Some a → slice_get xs j ≡ Some b → is_below b a ≡ false) → Rise xs
rise_by [] each = tt
rise_by (x ∷ xs) each =
    (all_of (λ later. is_below later x ≡ false) xs (λ k y at. each 0 (suc k) x y (omega arith) refl at), rise_by xs (λ i j a b less at at'. each (suc i) (suc j) a b (omega (arith, less)) at at'))

both_all : (P : IndexEntry → Type 0) (xs ys : List IndexEntry) → AllByRecursion P xs → AllByRecursion P ys → AllByRecursion P (xs ++ ys)
both_all P [] ys all more = more
both_all P (x ∷ xs) ys all more = (all.0, both_all P xs ys all.1 more)

both_rise : (xs ys : List IndexEntry) → Rise xs → Rise ys → ((i j : ℕ) (a b : IndexEntry) → slice_get xs i ≡ Some a → slice_get ys j ≡ Some b → is_below b a ≡ false) → Rise (xs ++ ys)
both_rise [] ys rise more cross = more
both_rise (x ∷ xs) ys rise more cross =
    (both_all (λ later. is_below later x ≡ false) xs ys rise.0 (all_of (λ later. is_below later x ≡ false) ys (λ k y at. cross 0 k x y refl at)), both_rise xs ys rise.1 more (λ i j a b at at'. cross (suc i) j a b at at'))

-- an entry is not below one before it: on an earlier page, or at an earlier place of its page
abbrev pub AreRising : List (List ℕ) → Type 0
AreRising pages = (k k' : ℕ) (bytes bytes' : List ℕ) (j j' : ℕ) (a b : IndexEntry) → slice_get pages k ≡ Some bytes → slice_get pages k' ≡ Some bytes'
    → slice_get (entries_in bytes) j ≡ Some a → slice_get (entries_in bytes') j' ≡ Some b → (k < k') ⊎ ((k ≡ k') × (j < j')) → is_below b a ≡ false

pub pages_rise : (pages : List (List ℕ)) → AreRising pages → Rise (flat_map entries_in pages)
pages_rise [] rising = tt
pages_rise (page ∷ pages) rising =
    both_rise (entries_in page) (flat_map entries_in pages)
    (rise_by (entries_in page) (λ i j a b less at at'. rising 0 0 page page i j a b refl refl at at' (inr (refl, less))))
    (pages_rise pages (λ k k' bytes bytes' j j' a b at at' there there' order. rising (suc k) (suc k') bytes bytes' j j' a b at at' there there'
    (⊎_elim (λ less. inl (omega (arith, less))) (λ same. inr (ap suc same.0, same.1)) order)))
    (λ i j a b at at'.
    let e = entered pages j b at' in
    rising 0 (suc e.page) page e.bytes i e.place a b refl e.there at e.at (inl (omega arith)))

-- ---- entries that are counted

count_more : {X : Type 0} (p : X → Bool) (x : X) (xs : List X) → count_by p (x ∷ xs) ≡ cond (p x) 1 0 + count_by p xs
count_more p x xs = sum_by-cons (λ y. cond (p y) 1 0) x xs

-- what is counted is there
pub counted_there : {X : Type 0} (p : X → Bool) (xs : List X) → 0 < count_by p xs → (k : ℕ) × (x : X) × (slice_get xs k ≡ Some x) × (p x ≡ true)
counted_there p [] some = absurd (omega (arith, some))
counted_there p (x ∷ xs) some = by_test (p x) refl (λ more. counted_there p xs more)
  where
    by_test : (b : Bool) → p x ≡ b → (0 < count_by p xs → (k : ℕ) × (x : _) × (slice_get xs k ≡ Some x) × (p x ≡ true)) → (k : ℕ) × (y : _) × (slice_get (x ∷ xs) k ≡ Some y) × (p y ≡ true)
    by_test true is later = (0, x, refl, is)
    by_test false is later =
        let e : count_by p (x ∷ xs) ≡ 0 + count_by p xs = count_more p x xs ∙ ap (λ b. cond b 1 0 + count_by p xs) is in
        let more = later (omega (arith, e, some)) in
        (suc more.0, more.1, more.2, more.3)

-- ---- pages as a set shows them

pub entries_good : (page : List ℕ) → IsIndexPage page → entries_in page ≡ entries_of page
entries_good page good = by_test (nat_le (number_at 4 4 page) 1022) refl
  where
    by_test : (b : Bool) → nat_le (number_at 4 4 page) 1022 ≡ b → cond b (entries_of page) [] ≡ entries_of page
    by_test true is = refl
    by_test false is = let high = leb-false (number_at 4 4 page) 1022 is in absurd (omega (arith, high, good.count))

pub all_shown : (pages : List (List ℕ)) → AllByRecursion IsGoodIndexPage pages → all_entries (map shown_index pages) ≡ flat_map entries_in pages
all_shown [] good = refl
all_shown (page ∷ pages) good =
    let first : entries_of (shown_index page) ≡ entries_in page = entries_same page good.0.0.whole ∙ sym (entries_good page good.0.0) in
    λ i. first i ++ all_shown pages good.1 i
