-- One entry more in an index.
use Rattle.std.proofs.Common.{◌≡◌, ◌∙◌, ℕ, zero, suc, ◌+◌, ◌<◌, ◌≤◌, true, false, Some, None, List, [], ◌∷◌, ◌++◌, length, take, drop, slice_get, refl, sym, ap, subst, arith, append_assoc, length-append, length-drop, length-take}
use Rattle.std.proofs.lemmas.Bool.{both_ways}
use Rattle.std.proofs.lemmas.List.{append-nil, drop_all, drop_at, take-append-drop, take-append-le, take-take}
use Rattle.std.specs.List.{AllByRecursion}
use Rattle.std.specs.Option.{is_some}
use Rattle.cell_records.specs.domain_base.declared.place.Tag.{Tag}
use Rattle.page_store.specs.Bitfiles.{Bitfiles, IsDirectory, insert_index, with_change, with_entry, with_file}
use Rattle.directory_pages.specs.declared.entry.IndexEntry.{IndexEntry}
use Rattle.directory_pages.specs.Entries.{IsPlace, Rise, first_from, is_below}
use Rattle.directory_pages.specs.Index.{FirstPage, IsIndex, IsIndexPage, all_entries, entries_of, index_pages}
use Rattle.directory_pages.specs.Changes.{Adds, AddsEntry, InsertsPage, IsPageFor, PutsPage, Spreads, StartsHigh, with_index}
use Rattle.directory_pages.proofs.Orders.{all_both, none_from, rise_with}
use Rattle.directory_pages.proofs.IndexParts.{all-append, from_start, split_entries}
use Rattle.directory_pages.proofs.Removed.{all_drop, all_join, all_take, below_length, got_at}
use Rattle.directory_pages.proofs.Sets.{DirectoryFile, change_is, index_of_file, only, pages_now, put_on, same_pages, the_file}

-- ---- entries with one more

starts : (key : IndexEntry) (xs : List IndexEntry) (k : ℕ) → ((entry : IndexEntry) → slice_get xs k ≡ Some entry → is_below entry key ≡ false) → StartsHigh key (drop k xs)
starts key [] zero above = tt
starts key [] (suc k) above = tt
starts key (x ∷ xs) zero above = above x refl
starts key (x ∷ xs) (suc k) above = starts key xs k above

pub adds : (key : IndexEntry) (xs more : List IndexEntry) (k : ℕ) → IsPlace key xs k → more ≡ take k xs ++ key ∷ drop k xs → Adds key xs more
adds key xs more k at is = record {
  front = take k xs;
  back = drop k xs;
  were = sym (take-append-drop k xs);
  are = is;
  low = at.below;
  high = starts key xs k at.above;
}

-- ---- the page to which an entry goes

pub low_first : (key : IndexEntry) (xs : List IndexEntry) → AllByRecursion (λ entry. is_below entry key ≡ true) xs → first_from key xs ≡ None
low_first key [] low = refl
low_first key (x ∷ xs) low = skipped ∙ low_first key xs low.1
  where
    skipped : first_from key (x ∷ xs) ≡ first_from key xs
    skipped = rw low.0 refl

low_left : (key : IndexEntry) (xs ys : List IndexEntry) → AllByRecursion (λ entry. is_below entry key ≡ true) (xs ++ ys) → AllByRecursion (λ entry. is_below entry key ≡ true) xs
low_left key [] ys low = tt
low_left key (x ∷ xs) ys low = (low.0, low_left key xs ys low.1)

pub for_first : (key : IndexEntry) (index : List (List ℕ)) (number : ℕ) → FirstPage key index 0 number → IsPageFor key index number
for_first key index number first = record {
  page = first.page;
  there = first.there;
  before = ap (λ ps. first_from key (all_entries ps)) (sym (from_start index number)) ∙ first.before;
  last = λ none. absurd (both_ways (is_some (first_from key (entries_of first.page))) (ap is_some none) first.here);
}

pub for_last : (key : IndexEntry) (index : List (List ℕ)) (number : ℕ) → number + 1 ≡ length index → first_from key (all_entries index) ≡ None → IsPageFor key index number
for_last key index number long none =
    let at = got_at index number (omega (arith, long)) in
    record {
      page = at.0;
      there = at.1;
      before = low_first key (all_entries (take number index))
          (low_left key (all_entries (take number index)) (all_entries (drop number index))
          (subst (AllByRecursion (λ entry. is_below entry key ≡ true)) (ap all_entries (sym (take-append-drop number index)) ∙ all-append (take number index) (drop number index)) (none_from key (all_entries index) none)));
      last = λ _. drop_all (number + 1) index (omega (arith, long));
    }

-- ---- pages put and inserted

module _ (dir : Tag) (number : ℕ) (old : Bitfiles) (directory : IsDirectory old dir) where
  at : DirectoryFile dir old
  at = the_file dir old directory

  abbrev index : List (List ℕ)
  index = index_pages old dir

  unchanged : old ≡ with_change dir (with_index index) old
  unchanged = same_pages dir old at.file at.is index (sym (index_of_file dir old at.file at.is))

  pub one_page : (list : List IndexEntry) (new : Bitfiles) → PutsPage dir number list old new → Spreads dir number list old new
  one_page list new puts = record {
    pages = puts.page ∷ [];
    good = (puts.made.good, tt);
    read = append-nil (entries_of puts.page) ∙ puts.made.read;
    some = omega arith;
    most = omega arith;
    changed = put_on dir old at.file at.is index number puts.page old new unchanged puts.changed ∙ ap (λ ps. with_change dir (with_index ps) old) (sym (append_assoc (take number index) (puts.page ∷ []) (drop (number + 1) index)));
  }

  insert_is : (k : ℕ) (page : List ℕ) (mid : Bitfiles) → mid ≡ with_change dir (insert_index k page) old → mid ≡ with_change dir (with_index (take k index ++ page ∷ drop k index)) old
  insert_is k page mid changed =
      changed ∙ change_is dir old at.file at.is (insert_index k page)
      ∙ ap (λ ps. with_file dir (with_index (take k ps ++ page ∷ drop k ps) at.file) old) (sym (index_of_file dir old at.file at.is))
      ∙ sym (change_is dir old at.file at.is (with_index (take k index ++ page ∷ drop k index)))

  pub two_pages : (list : List IndexEntry) (half : ℕ) (mid new : Bitfiles) → number < length index → InsertsPage dir (number + 1) (drop half list) old mid → PutsPage dir number (take half list) mid new → Spreads dir number list old new
  two_pages list half mid new within inserts puts = record {
    pages = puts.page ∷ inserts.page ∷ [];
    good = (puts.made.good, (inserts.made.good, tt));
    read = ap (λ (es : List IndexEntry). entries_of puts.page ++ es) (append-nil (entries_of inserts.page)) ∙ (λ i. puts.made.read i ++ inserts.made.read i) ∙ take-append-drop half list;
    some = omega arith;
    most = omega arith;
    changed = put_on dir old at.file at.is middle number puts.page mid new (insert_is (number + 1) inserts.page mid inserts.changed) puts.changed ∙ ap (λ ps. with_change dir (with_index ps) old) all;
  }
    where
      middle : List (List ℕ)
      middle = take (number + 1) index ++ inserts.page ∷ drop (number + 1) index

      long : length (take (number + 1) index) ≡ number + 1
      long = omega (arith, length-take (number + 1) index, within)

      front : take number middle ≡ take number index
      front =
          let e : number ≤ length (take (number + 1) index) = omega (arith, long) in
          take-append-le number (take (number + 1) index) (inserts.page ∷ drop (number + 1) index) e ∙ take-take number (number + 1) index (omega arith)

      rest : drop (number + 1) middle ≡ inserts.page ∷ drop (number + 1) index
      rest = drop_at (take (number + 1) index) (inserts.page ∷ drop (number + 1) index) (number + 1) long

      all : with_entry number puts.page middle ≡ take number index ++ (puts.page ∷ inserts.page ∷ []) ++ drop (number + 1) index
      all =
          (λ i. front i ++ puts.page ∷ rest i)
          ∙ sym (append_assoc (take number index) (puts.page ∷ inserts.page ∷ []) (drop (number + 1) index))

-- ---- the entry among all of them

module _ (dir : Tag) (key : IndexEntry) (number : ℕ) (list : List IndexEntry) (old new : Bitfiles) (directory : IsDirectory old dir) (is : IsIndex (index_pages old dir)) (page : List ℕ)
    (found : slice_get (index_pages old dir) number ≡ Some page) (for : IsPageFor key (index_pages old dir) number) (more : Adds key (entries_of page) list) (spreads : Spreads dir number list old new) where
  abbrev pages : List (List ℕ)
  pages = index_pages old dir

  abbrev put : List (List ℕ)
  put = take number pages ++ spreads.pages ++ drop (number + 1) pages

  abbrev before : List IndexEntry
  before = all_entries (take number pages)

  abbrev behind : List IndexEntry
  behind = all_entries (drop (number + 1) pages)

  now : index_pages new dir ≡ put
  now = let f = the_file dir old directory in ap (λ (fs : Bitfiles). index_pages fs dir) spreads.changed ∙ pages_now dir old f.file f.is put

  were : all_entries pages ≡ (before ++ more.front) ++ (more.back ++ behind)
  were =
      split_entries pages number page found ∙ ap (λ (es : List IndexEntry). before ++ (es ++ behind)) more.were
      ∙ ap (λ (es : List IndexEntry). before ++ es) (append_assoc more.front more.back behind)
      ∙ sym (append_assoc before more.front (more.back ++ behind))

  are : all_entries put ≡ (before ++ more.front) ++ key ∷ (more.back ++ behind)
  are =
      all-append (take number pages ++ spreads.pages) (drop (number + 1) pages)
      ∙ ap (λ (es : List IndexEntry). es ++ behind) (all-append (take number pages) spreads.pages ∙ ap (λ (es : List IndexEntry). before ++ es) (spreads.read ∙ more.are))
      ∙ ap (λ (es : List IndexEntry). es ++ behind) (sym (append_assoc before more.front (key ∷ more.back)))
      ∙ append_assoc (before ++ more.front) (key ∷ more.back) behind

  low : AllByRecursion (λ entry. is_below entry key ≡ true) (before ++ more.front)
  low = all_both (λ entry. is_below entry key ≡ true) before more.front (none_from key before for.before) more.low

  last : first_from key (entries_of page) ≡ None → behind ≡ []
  last none =
      let same : page ≡ for.page = some_page page for.page (sym found ∙ for.there) in
      ap all_entries (for.last (ap (λ p. first_from key (entries_of p)) (sym same) ∙ none))
    where
      some_page : (a b : List ℕ) → Some a ≡ Some b → a ≡ b
      some_page a b e = cc

  high : StartsHigh key (more.back ++ behind)
  high = by_back more.back refl more.high
    where
      by_back : (back : List IndexEntry) → more.back ≡ back → StartsHigh key back → StartsHigh key (back ++ behind)
      by_back [] none starts =
          let all : entries_of page ≡ more.front = more.were ∙ ap (λ (es : List IndexEntry). more.front ++ es) none ∙ append-nil more.front in
          subst (StartsHigh key) (sym (last (ap (first_from key) all ∙ low_first key more.front more.low))) tt
      by_back (y ∷ ys) some starts = starts

  good : IsIndex put
  good = record {
    some = omega (arith, length-append (take number pages ++ spreads.pages) (drop (number + 1) pages), length-append (take number pages) spreads.pages, spreads.some);
    pages = all_join IsIndexPage (take number pages ++ spreads.pages) (drop (number + 1) pages) (all_join IsIndexPage (take number pages) spreads.pages (all_take IsIndexPage pages number is.pages) spreads.good) (all_drop IsIndexPage pages (number + 1) is.pages);
    rise = subst Rise (sym are) (rise_with (before ++ more.front) key (more.back ++ behind) (subst Rise were is.rise) low high);
  }

  put_most : length put ≤ length pages + 1
  put_most =
      omega (arith, spreads.most, below_length pages number page found, length-append (take number pages ++ spreads.pages) (drop (number + 1) pages), length-append (take number pages) spreads.pages, length-take number pages, length-drop (number + 1) pages)

  pub added : AddsEntry dir key old new
  added = record {
    others = let f = the_file dir old directory in only dir old f.file f.is put new spreads.changed;
    good = subst IsIndex (sym now) good;
    front = before ++ more.front;
    back = more.back ++ behind;
    were = were;
    are = ap all_entries now ∙ are;
    most = omega (arith, ap length now, put_most);
  }
