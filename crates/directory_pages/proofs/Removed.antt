-- One entry less in an index.
use Rattle.std.proofs.Common.{◌≡◌, ◌∙◌, inl, inr, ℕ, zero, suc, ◌+◌, ◌<◌, true, false, Option, Some, None, List, [], ◌∷◌, ◌++◌, length, take, drop, slice_get, refl, sym, ap, subst, arith, append_assoc, length-append, length-drop, length-take}
use Rattle.std.proofs.lemmas.Bool.{both_ways, cases_lt}
use Rattle.std.proofs.lemmas.List.{take_all}
use Rattle.std.specs.List.{AllByRecursion}
use Rattle.std.specs.Option.{is_some, option_map_or}
use Rattle.cell_records.specs.domain_base.declared.place.Tag.{Tag}
use Rattle.page_store.specs.Bitfiles.{Bitfile, Bitfiles, IsDirectory, count_index, with_change, with_entry}
use Rattle.directory_pages.specs.declared.entry.IndexEntry.{IndexEntry}
use Rattle.directory_pages.specs.Entries.{Has, IsPlace, Rise, first_from, is_below}
use Rattle.directory_pages.specs.Index.{FirstPage, IsIndex, IsIndexPage, all_entries, entries_of, index_pages}
use Rattle.directory_pages.specs.Changes.{Cuts, PutsPage, RemovesEntry, with_index}
use Rattle.directory_pages.proofs.Orders.{all_both, first_is, none_from, rise_without}
use Rattle.directory_pages.proofs.IndexParts.{all-append, from_start, split_entries}
use Rattle.directory_pages.proofs.Sets.{index_of_file, only, pages_now, put_on, same_pages, the_file}

-- ---- all of a list with one put

pub all_take : {X : Type 0} (P : X → Type 0) (xs : List X) (k : ℕ) → AllByRecursion P xs → AllByRecursion P (take k xs)
all_take P xs zero all = tt
all_take P [] (suc k) all = tt
all_take P (x ∷ xs) (suc k) all = (all.0, all_take P xs k all.1)

pub all_drop : {X : Type 0} (P : X → Type 0) (xs : List X) (k : ℕ) → AllByRecursion P xs → AllByRecursion P (drop k xs)
all_drop P xs zero all = all
all_drop P [] (suc k) all = tt
all_drop P (x ∷ xs) (suc k) all = all_drop P xs k all.1

pub all_join : {X : Type 0} (P : X → Type 0) (xs ys : List X) → AllByRecursion P xs → AllByRecursion P ys → AllByRecursion P (xs ++ ys)
all_join P [] ys all more = more
all_join P (x ∷ xs) ys all more = (all.0, all_join P xs ys all.1 more)

-- ---- a place in entries

pub got_at : {X : Type 0} (xs : List X) (k : ℕ) → k < length xs → (x : X) × (slice_get xs k ≡ Some x)
got_at [] k below = absurd (omega (arith, below))
got_at (x ∷ xs) zero below = (x, refl)
got_at (x ∷ xs) (suc k) below = got_at xs k (omega (arith, below))

split_at : {X : Type 0} (xs : List X) (k : ℕ) (x : X) → slice_get xs k ≡ Some x → xs ≡ take k xs ++ x ∷ drop (suc k) xs
split_at [] zero x at = absurd cc
split_at [] (suc k) x at = absurd cc
split_at (y ∷ xs) zero x at = let e : y ≡ x = cc in ap (λ z. z ∷ xs) e
split_at (y ∷ xs) (suc k) x at = ap (λ ys. y ∷ ys) (split_at xs k x at)

low_none : (key : IndexEntry) (xs : List IndexEntry) → AllByRecursion (λ entry. is_below entry key ≡ true) xs → is_some (first_from key xs) ≡ false
low_none key [] low = refl
low_none key (x ∷ xs) low = first_skipped ∙ low_none key xs low.1
  where
    first_skipped : is_some (first_from key (x ∷ xs)) ≡ is_some (first_from key xs)
    first_skipped = rw low.0 refl

pub place_inside : (key : IndexEntry) (xs : List IndexEntry) (k : ℕ) → IsPlace key xs k → is_some (first_from key xs) ≡ true → k < length xs
place_inside key xs k at some = elim (cases_lt k (length xs)) [
  | inl less ↦ less
  | inr most ↦ absurd (both_ways (is_some (first_from key xs)) (low_none key xs (subst (AllByRecursion (λ entry. is_below entry key ≡ true)) (take_all k xs most) at.below)) some)
]

pub cuts : (key : IndexEntry) (xs left : List IndexEntry) (k : ℕ) → IsPlace key xs k → k < length xs → left ≡ take k xs ++ drop (suc k) xs → Cuts key xs left
cuts key xs left k at inside is =
    let m = got_at xs k inside in
    record {
      front = take k xs;
      middle = m.0;
      back = drop (suc k) xs;
      were = split_at xs k m.0 m.1;
      are = is;
      low = at.below;
      high = at.above m.0 m.1;
    }

-- the page that a search found has an entry that is not below the key
pub first_there : (index : List (List ℕ)) (key : IndexEntry) (n : ℕ) (page : List ℕ) → slice_get index n ≡ Some page → FirstPage key index 0 n → is_some (first_from key (entries_of page)) ≡ true
first_there index key n page there first =
    let same : Some page ≡ Some first.page = sym there ∙ first.there in
    let is : page ≡ first.page = cc in
    ap (λ p. is_some (first_from key (entries_of p))) is ∙ first.here

pub below_length : {X : Type 0} (xs : List X) (k : ℕ) (x : X) → slice_get xs k ≡ Some x → k < length xs
below_length [] zero x at = absurd cc
below_length [] (suc k) x at = absurd cc
below_length (y ∷ xs) zero x at = omega arith
below_length (y ∷ xs) (suc k) x at = omega (arith, below_length xs k x at)

-- ---- an index with a page put in place of one that had an entry more

module _ (dir : Tag) (key : IndexEntry) (number : ℕ) (part : List IndexEntry) (old new : Bitfiles) (directory : IsDirectory old dir) (is : IsIndex (index_pages old dir)) (page : List ℕ)
    (found : slice_get (index_pages old dir) number ≡ Some page) (first : FirstPage key (index_pages old dir) 0 number) (has : Has (all_entries (index_pages old dir)) key.hash key.page)
    (cut : Cuts key (entries_of page) part) (puts : PutsPage dir number part old new) where
  abbrev index : List (List ℕ)
  index = index_pages old dir

  abbrev put : List (List ℕ)
  put = with_entry number puts.page index

  abbrev before : List IndexEntry
  before = all_entries (take number index)

  abbrev behind : List IndexEntry
  behind = all_entries (drop (number + 1) index)

  was : old ≡ with_change dir (with_index index) old
  was = let at = the_file dir old directory in same_pages dir old at.file at.is index (sym (index_of_file dir old at.file at.is))

  changed : new ≡ with_change dir (with_index put) old
  changed = let at = the_file dir old directory in put_on dir old at.file at.is index number puts.page old new was puts.changed

  now : index_pages new dir ≡ put
  now = let at = the_file dir old directory in ap (λ (fs : Bitfiles). index_pages fs dir) changed ∙ pages_now dir old at.file at.is put

  were : all_entries index ≡ (before ++ cut.front) ++ cut.middle ∷ (cut.back ++ behind)
  were =
      split_entries index number page found ∙ ap (λ (es : List IndexEntry). before ++ (es ++ behind)) cut.were
      ∙ ap (λ (es : List IndexEntry). before ++ es) (append_assoc cut.front (cut.middle ∷ cut.back) behind)
      ∙ sym (append_assoc before cut.front (cut.middle ∷ (cut.back ++ behind)))

  are : all_entries put ≡ (before ++ cut.front) ++ (cut.back ++ behind)
  are =
      all-append (take number index) (puts.page ∷ drop (number + 1) index)
      ∙ ap (λ (es : List IndexEntry). before ++ (es ++ behind)) (puts.made.read ∙ cut.are)
      ∙ ap (λ (es : List IndexEntry). before ++ es) (append_assoc cut.front cut.back behind)
      ∙ sym (append_assoc before cut.front (cut.back ++ behind))

  low : AllByRecursion (λ entry. is_below entry key ≡ true) (before ++ cut.front)
  low = all_both (λ entry. is_below entry key ≡ true) before cut.front (none_from key before (ap (λ ps. first_from key (all_entries ps)) (sym (from_start index number)) ∙ first.before)) cut.low

  same : cut.middle ≡ key
  same = first_is key (before ++ cut.front) cut.middle (cut.back ++ behind) (subst Rise were is.rise) low cut.high (subst (λ es. Has es key.hash key.page) were has)

  good : IsIndex put
  good = record {
    some = omega (arith, length-append (take number index) (puts.page ∷ drop (number + 1) index));
    pages = all_join IsIndexPage (take number index) (puts.page ∷ drop (number + 1) index) (all_take IsIndexPage index number is.pages) (puts.made.good, all_drop IsIndexPage index (number + 1) is.pages);
    rise = subst Rise (sym are) (rise_without (before ++ cut.front) cut.middle (cut.back ++ behind) (subst Rise were is.rise));
  }

  put_length : length put ≡ length index
  put_length =
      omega (arith, below_length index number page found, length-append (take number index) (puts.page ∷ drop (number + 1) index), length-take number index, length-drop (number + 1) index)

  pub removes : RemovesEntry dir key old new
  removes = record {
    others = let at = the_file dir old directory in only dir old at.file at.is put new changed;
    good = subst IsIndex (sym now) good;
    front = before ++ cut.front;
    back = cut.back ++ behind;
    were = were ∙ ap (λ (m : IndexEntry). (before ++ cut.front) ++ m ∷ (cut.back ++ behind)) same;
    are = ap all_entries now ∙ are;
    count = ap length now ∙ put_length;
  }

pub count_is : (files : Bitfiles) (tag : Tag) → count_index files tag ≡ length (index_pages files tag)
count_is files tag = by_file (files tag)
  where
    by_file : (o : Option Bitfile) → option_map_or (λ (file : Bitfile). length file.index) o 0 ≡ length (option_map_or (λ (file : Bitfile). file.index) o [])
    by_file None = refl
    by_file (Some file) = refl
