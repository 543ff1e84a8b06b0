-- Parts of lists, of pages and of entries.
use Rattle.std.proofs.Common.{◌≡◌, ◌∙◌, ℕ, zero, suc, ◌+◌, ◌-◌, ◌<◌, ◌≤◌, true, false, Option, Some, None, List, [], ◌∷◌, ◌++◌, length, take, drop, slice_get, refl, sym, ap, subst, arith, append_assoc, length-drop}
use Rattle.std.proofs.lemmas.List.{drop-drop, take-append-drop, take_all}
use Rattle.std.proofs.Math.Seq.{take-add}
use Rattle.std.specs.List.{AllByRecursion}
use Rattle.std.specs.Option.{is_some, option_and_then, option_map_or}
use Rattle.cell_records.specs.domain_base.declared.place.Tag.{Tag}
use Rattle.page_store.specs.Bitfiles.{Bitfile, Bitfiles, index_at}
use Rattle.cell_records.specs.Fields.{number_at}
use Rattle.directory_pages.specs.declared.entry.IndexEntry.{IndexEntry}
use Rattle.directory_pages.specs.Entries.{EndsBelow, Rise, first_from, is_below}
use Rattle.directory_pages.specs.Index.{FirstPage, IsFirstPage, IsIndex, IsIndexPage, all_entries, between, entries_from, entries_of, entry_at, index_pages}
use Rattle.directory_pages.proofs.Orders.{all_below, first-append, first_here, or_first, or_is_none, or_is_some, or_none, rise_left, rise_right}

got : {X : Type 0} (xs : List X) (k : ℕ) (x : X) → slice_get xs k ≡ Some x → drop k xs ≡ x ∷ drop (k + 1) xs
got [] zero x is = absurd cc
got [] (suc k) x is = absurd cc
got (y ∷ xs) zero x is = let e : y ≡ x = cc in ap (λ z. z ∷ xs) e
got (y ∷ xs) (suc k) x is = let e : suc k + 1 ≡ suc (k + 1) = omega arith in got xs k x is ∙ ap (λ n. x ∷ drop n (y ∷ xs)) (sym e)

missing : {X : Type 0} (xs : List X) (k : ℕ) → slice_get xs k ≡ None → length xs ≤ k
missing [] k none = omega arith
missing (y ∷ xs) zero none = absurd cc
missing (y ∷ xs) (suc k) none = omega (arith, missing xs k none)

-- a part, split at an element of it
pub split : {X : Type 0} (xs : List X) (low middle high : ℕ) (x : X) → low ≤ middle → middle < high → slice_get xs middle ≡ Some x
    → take (high - low) (drop low xs) ≡ take (middle - low) (drop low xs) ++ x ∷ take (high - (middle + 1)) (drop (middle + 1) xs)
split xs low middle high x above below there =
    let n : high - low ≡ middle - low + (1 + (high - (middle + 1))) = omega (arith, above, below) in
    let m : low + (middle - low) ≡ middle = omega (arith, above) in
    let one : 1 + (high - (middle + 1)) ≡ suc (high - (middle + 1)) = omega arith in
    ap (λ k. take k (drop low xs)) n ∙ take-add (middle - low) (1 + (high - (middle + 1))) (drop low xs)
    ∙ ap (λ ys. take (middle - low) (drop low xs) ++ take (1 + (high - (middle + 1))) ys) (drop-drop (middle - low) low xs ∙ ap (λ k. drop k xs) m ∙ got xs middle x there)
    ∙ ap (λ k. take (middle - low) (drop low xs) ++ take k (x ∷ drop (middle + 1) xs)) one

-- a part that reaches past the end
pub cut : {X : Type 0} (xs : List X) (low middle high : ℕ) → middle ≤ high → slice_get xs middle ≡ None → take (high - low) (drop low xs) ≡ take (middle - low) (drop low xs)
cut xs low middle high less none =
    let end = missing xs middle none in
    take_all (high - low) (drop low xs) (omega (arith, length-drop low xs, end, less)) ∙ sym (take_all (middle - low) (drop low xs) (omega (arith, length-drop low xs, end)))

pub all-append : (ps qs : List (List ℕ)) → all_entries (ps ++ qs) ≡ all_entries ps ++ all_entries qs
all-append [] qs = refl
all-append (p ∷ ps) qs = ap (λ es. entries_of p ++ es) (all-append ps qs) ∙ sym (append_assoc (entries_of p) (all_entries ps) (all_entries qs))

pub rise_part : (pages : List (List ℕ)) (low n : ℕ) → Rise (all_entries pages) → Rise (all_entries (take n (drop low pages)))
rise_part pages low n rise =
    let right = rise_right (all_entries (take low pages)) (all_entries (drop low pages)) (subst Rise (ap all_entries (sym (take-append-drop low pages)) ∙ all-append (take low pages) (drop low pages)) rise) in
    rise_left (all_entries (take n (drop low pages))) (all_entries (drop n (drop low pages)))
    (subst Rise (ap all_entries (sym (take-append-drop n (drop low pages))) ∙ all-append (take n (drop low pages)) (drop n (drop low pages))) right)

pub rise_entries : (entries : List IndexEntry) (low n : ℕ) → Rise entries → Rise (take n (drop low entries))
rise_entries entries low n rise =
    rise_left (take n (drop low entries)) (drop n (drop low entries))
    (subst Rise (sym (take-append-drop n (drop low entries))) (rise_right (take low entries) (drop low entries) (subst Rise (sym (take-append-drop low entries)) rise)))

pub page_good : (pages : List (List ℕ)) (k : ℕ) (page : List ℕ) → AllByRecursion IsIndexPage pages → slice_get pages k ≡ Some page → IsIndexPage page
page_good [] zero page good there = absurd cc
page_good [] (suc k) page good there = absurd cc
page_good (p ∷ pages) zero page good there = let e : p ≡ page = cc in subst IsIndexPage e good.0
page_good (p ∷ pages) (suc k) page good there = page_good pages k page good.1 there

-- ---- the entries of a page

pub entry_there : (page : List ℕ) (from n k : ℕ) → k < n → slice_get (entries_from page from n) k ≡ Some (entry_at page (from + k))
entry_there page from zero k below = absurd (omega (arith, below))
entry_there page from (suc n) zero below = let e : from ≡ from + 0 = omega arith in ap (λ m. Some (entry_at page m)) e
entry_there page from (suc n) (suc k) below =
    let e : from + 1 + k ≡ from + suc k = omega arith in
    entry_there page (from + 1) n k (omega (arith, below)) ∙ ap (λ m. Some (entry_at page m)) e

pub entries_long : (page : List ℕ) (from n : ℕ) → length (entries_from page from n) ≡ n
entries_long page from zero = refl
entries_long page from (suc n) = ap suc (entries_long page (from + 1) n)

entries_last : (page : List ℕ) (from n : ℕ) → entries_from page from (n + 1) ≡ entries_from page from n ++ entry_at page (from + n) ∷ []
entries_last page from zero = let e : from ≡ from + 0 = omega arith in ap (λ m. entry_at page m ∷ []) e
entries_last page from (suc n) =
    let e : suc n + 1 ≡ suc (n + 1) = omega arith in
    let m : from + 1 + n ≡ from + suc n = omega arith in
    ap (entries_from page from) e ∙ ap (λ es. entry_at page from ∷ es) (entries_last page (from + 1) n ∙ ap (λ k. entries_from page (from + 1) n ++ entry_at page k ∷ []) m)

pub ends : (page : List ℕ) (key : IndexEntry) → 0 < number_at 4 4 page → is_below (entry_at page (number_at 4 4 page - 1)) key ≡ true → EndsBelow key (entries_of page)
ends page key some below =
    let n = number_at 4 4 page in
    let e : n - 1 + 1 ≡ n = omega (arith, some) in
    record {
      front = entries_from page 0 (n - 1);
      last = entry_at page (0 + (n - 1));
      parts = ap (entries_from page 0) (sym e) ∙ entries_last page 0 (n - 1);
      below = let zero_on : 0 + (n - 1) ≡ n - 1 = omega arith in ap (λ k. is_below (entry_at page k) key) zero_on ∙ below;
    }

-- ---- searches

-- the entries before an end that is below the key are left out
pub skip : (key : IndexEntry) (front here back : List IndexEntry) → Rise (front ++ (here ++ back)) → EndsBelow key here → first_from key (front ++ (here ++ back)) ≡ first_from key back
skip key front here back rise at =
    let whole : front ++ (here ++ back) ≡ (front ++ at.front ++ at.last ∷ []) ++ back =
    ap (λ (es : List IndexEntry). front ++ (es ++ back)) at.parts ∙ sym (append_assoc front (at.front ++ at.last ∷ []) back) ∙ ap (λ (es : List IndexEntry). es ++ back) (sym (append_assoc front at.front (at.last ∷ []))) in
    ap (first_from key) whole ∙ first-append key (front ++ at.front ++ at.last ∷ []) back
    ∙ or_none (first_from key (front ++ at.front ++ at.last ∷ [])) (first_from key back)
    (all_below key (front ++ at.front) at.last (rise_left (front ++ at.front ++ at.last ∷ []) back (subst Rise whole rise)) at.below)

pub rise_page : (pages : List (List ℕ)) (k : ℕ) (page : List ℕ) → Rise (all_entries pages) → slice_get pages k ≡ Some page → Rise (entries_of page)
rise_page [] zero page rise there = absurd cc
rise_page [] (suc k) page rise there = absurd cc
rise_page (p ∷ pages) zero page rise there = let e : p ≡ page = cc in subst (λ q. Rise (entries_of q)) e (rise_left (entries_of p) (all_entries pages) rise)
rise_page (p ∷ pages) (suc k) page rise there = rise_page pages k page (rise_right (entries_of p) (all_entries pages) rise) there

pub three : (key : IndexEntry) (front here back : List IndexEntry) → first_from key (front ++ (here ++ back)) ≡ or_first (first_from key front) (or_first (first_from key here) (first_from key back))
three key front here back = first-append key front (here ++ back) ∙ ap (or_first (first_from key front)) (first-append key here back)

-- ---- a search among the entries of a page

module _ (page : List ℕ) (key : IndexEntry) (low middle high : ℕ) (above : low ≤ middle) (below : middle < high) (within : high ≤ number_at 4 4 page) (rise : Rise (entries_of page)) where
  there : slice_get (entries_of page) middle ≡ Some (entry_at page middle)
  there = entry_there page 0 (number_at 4 4 page) middle (omega (arith, below, within)) ∙ (let e : 0 + middle ≡ middle = omega arith in ap (λ k. Some (entry_at page k)) e)

  parts : take (high - low) (drop low (entries_of page)) ≡ take (middle - low) (drop low (entries_of page)) ++ entry_at page middle ∷ take (high - (middle + 1)) (drop (middle + 1) (entries_of page))
  parts = split (entries_of page) low middle high (entry_at page middle) above below there

  pub entries_skipped : is_below (entry_at page middle) key ≡ true → first_from key (take (high - low) (drop low (entries_of page))) ≡ first_from key (take (high - (middle + 1)) (drop (middle + 1) (entries_of page)))
  entries_skipped before =
      let entry = entry_at page middle in
      let front = take (middle - low) (drop low (entries_of page)) in
      let back = take (high - (middle + 1)) (drop (middle + 1) (entries_of page)) in
      ap (first_from key) parts
      ∙ skip key front (entry ∷ []) back (subst Rise parts (rise_entries (entries_of page) low (high - low) rise)) (record { front = []; last = entry; parts = refl; below = before })

  pub entries_halved : is_below (entry_at page middle) key ≡ false → first_from key (take (high - low) (drop low (entries_of page))) ≡ or_first (first_from key (take (middle - low) (drop low (entries_of page)))) (Some (entry_at page middle))
  entries_halved other =
      let entry = entry_at page middle in
      let front = take (middle - low) (drop low (entries_of page)) in
      let back = take (high - (middle + 1)) (drop (middle + 1) (entries_of page)) in
      ap (first_from key) parts ∙ first-append key front (entry ∷ back) ∙ ap (or_first (first_from key front)) (first_here key entry back other)

-- ---- a search among pages

abbrev no_pages : List (List ℕ)
no_pages = []

index_at_page : (k : ℕ) → None ≡ slice_get no_pages k
index_at_page zero = refl
index_at_page (suc k) = refl

pub index_is : (files : Bitfiles) (tag : Tag) (k : ℕ) → index_at files tag k ≡ slice_get (index_pages files tag) k
index_is files tag k = by_file (files tag)
  where
    by_file : (o : Option Bitfile) → option_and_then (λ (file : Bitfile). slice_get file.index k) o ≡ slice_get (option_map_or (λ (file : Bitfile). file.index) o []) k
    by_file None = index_at_page k
    by_file (Some file) = refl

pub whole_index : (index : List (List ℕ)) (pages : ℕ) → pages ≡ length index → between 0 pages index ≡ index
whole_index index pages long = take_all (pages - 0) index (omega (arith, long))

module _ (index : List (List ℕ)) (key : IndexEntry) (low middle high : ℕ) (page : List ℕ) (above : low ≤ middle) (below : middle < high) (is : IsIndex index) (found : slice_get index middle ≡ Some page) where
  pages_split : all_entries (between low high index) ≡ all_entries (between low middle index) ++ (entries_of page ++ all_entries (between (middle + 1) high index))
  pages_split =
      ap all_entries (split index low middle high page above below found)
      ∙ all-append (between low middle index) (page ∷ between (middle + 1) high index)

  pub pages_skipped : EndsBelow key (entries_of page) → first_from key (all_entries (between low high index)) ≡ first_from key (all_entries (between (middle + 1) high index))
  pages_skipped at =
      ap (first_from key) pages_split
      ∙ skip key (all_entries (between low middle index)) (entries_of page) (all_entries (between (middle + 1) high index)) (subst Rise pages_split (rise_part index low (high - low) is.rise)) at

  pub pages_halved : first_from key (all_entries (between low high index))
      ≡ or_first (first_from key (all_entries (between low middle index))) (or_first (first_from key (entries_of page)) (first_from key (all_entries (between (middle + 1) high index))))
  pages_halved = ap (first_from key) pages_split ∙ three key (all_entries (between low middle index)) (entries_of page) (all_entries (between (middle + 1) high index))

-- ---- the first page with an entry that is not below the key

module _ (index : List (List ℕ)) (key : IndexEntry) (low middle high : ℕ) (above : low ≤ middle) (below : middle < high) (is : IsIndex index) where
  pub no_page : (o : Option ℕ) → slice_get index middle ≡ None → IsFirstPage key index low middle o → IsFirstPage key index low high o
  no_page None none first = ap (λ pages. first_from key (all_entries pages)) (cut index low middle high (omega (arith, below)) none) ∙ first
  no_page (Some n) none first = first

  module _ (page : List ℕ) (found : slice_get index middle ≡ Some page) where
    pub page_skipped : (o : Option ℕ) → EndsBelow key (entries_of page) → IsFirstPage key index (middle + 1) high o → IsFirstPage key index low high o
    page_skipped None at first = pages_skipped index key low middle high page above below is found at ∙ first
    page_skipped (Some n) at first = record {
      page = first.page;
      there = first.there;
      begins = omega (arith, first.begins, above);
      before = pages_skipped index key low middle n page above (omega (arith, first.begins)) is found at ∙ first.before;
      here = first.here;
    }

    pub page_before : (o : Option ℕ) → is_some o ≡ true → IsFirstPage key index low middle o → IsFirstPage key index low high o
    page_before None some first = absurd cc
    page_before (Some n) some first = first

    pub none_before : (o : Option ℕ) → is_some o ≡ false → IsFirstPage key index low middle o → first_from key (all_entries (between low middle index)) ≡ None
    none_before None none first = first
    none_before (Some n) none first = absurd cc

    pub page_here : first_from key (all_entries (between low middle index)) ≡ None → is_some (first_from key (entries_of page)) ≡ true → FirstPage key index low middle
    page_here before here = record { page = page; there = found; begins = above; before = before; here = here }

    pub page_behind : (o : Option ℕ) → first_from key (all_entries (between low middle index)) ≡ None → is_some (first_from key (entries_of page)) ≡ false
        → IsFirstPage key index (middle + 1) high o → IsFirstPage key index low high o
    page_behind None before here first =
        pages_halved index key low middle high page above below is found ∙ or_none (first_from key (all_entries (between low middle index))) (or_first (first_from key (entries_of page)) (first_from key (all_entries (between (middle + 1) high index)))) before
        ∙ or_is_none (first_from key (entries_of page)) (first_from key (all_entries (between (middle + 1) high index))) here ∙ first
    page_behind (Some n) before here first = record {
      page = first.page;
      there = first.there;
      begins = omega (arith, first.begins, above);
      before = pages_halved index key low middle n page above (omega (arith, first.begins)) is found
          ∙ or_none (first_from key (all_entries (between low middle index))) (or_first (first_from key (entries_of page)) (first_from key (all_entries (between (middle + 1) n index)))) before
          ∙ or_is_none (first_from key (entries_of page)) (first_from key (all_entries (between (middle + 1) n index))) here ∙ first.before;
      here = first.here;
    }

-- an index, split at a page
pub index_split : (index : List (List ℕ)) (k : ℕ) (page : List ℕ) → slice_get index k ≡ Some page → index ≡ take k index ++ page ∷ drop (k + 1) index
index_split index k page there = sym (take-append-drop k index) ∙ ap (λ ps. take k index ++ ps) (got index k page there)

pub split_entries : (index : List (List ℕ)) (k : ℕ) (page : List ℕ) → slice_get index k ≡ Some page → all_entries index ≡ all_entries (take k index) ++ (entries_of page ++ all_entries (drop (k + 1) index))
split_entries index k page there = ap all_entries (index_split index k page there) ∙ all-append (take k index) (page ∷ drop (k + 1) index)

pub from_start : (index : List (List ℕ)) (n : ℕ) → between 0 n index ≡ take n index
from_start index n = let e : n - 0 ≡ n = omega arith in ap (λ k. take k index) e

pub first_found : (index : List (List ℕ)) (key : IndexEntry) (n : ℕ) (page : List ℕ) → slice_get index n ≡ Some page → FirstPage key index 0 n → first_from key (entries_of page) ≡ first_from key (all_entries index)
first_found index key n page at first =
    let same : page ≡ first.page = some_page page first.page (sym at ∙ first.there) in
    let none : first_from key (all_entries (take n index)) ≡ None = ap (λ ps. first_from key (all_entries ps)) (sym (from_start index n)) ∙ first.before in
    sym
    (ap (first_from key) (split_entries index n page at) ∙ three key (all_entries (take n index)) (entries_of page) (all_entries (drop (n + 1) index))
    ∙ or_none (first_from key (all_entries (take n index))) (or_first (first_from key (entries_of page)) (first_from key (all_entries (drop (n + 1) index)))) none
    ∙ or_is_some (first_from key (entries_of page)) (first_from key (all_entries (drop (n + 1) index))) (ap (λ p. is_some (first_from key (entries_of p))) same ∙ first.here))
  where
    some_page : (a b : List ℕ) → Some a ≡ Some b → a ≡ b
    some_page a b e = cc

pub entries_more : (page : List ℕ) (n : ℕ) → entries_from page 0 (n + 1) ≡ entries_from page 0 n ++ entry_at page n ∷ []
entries_more page n = entries_last page 0 n ∙ (let e : 0 + n ≡ n = omega arith in ap (λ m. entries_from page 0 n ++ entry_at page m ∷ []) e)
