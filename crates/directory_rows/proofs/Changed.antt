-- A directory that has a row more, or a row less.
use Rattle.std.proofs.Common.{◌≡◌, ◌∙◌, ◌⊎◌, inl, inr, ℕ, ◌+◌, ◌<◌, ◌≤◌, true, false, List, [], ◌∷◌, ◌++◌, length, take, drop, sym, ap, subst, arith, append_assoc}
use Rattle.std.proofs.lemmas.List.{append-nil}
use Rattle.std.specs.List.{AllByRecursion}
use Rattle.directory_pages.specs.domain_base.declared.place.Tag.{Tag}
use Rattle.directory_pages.specs.page_store.Bitfiles.{Bitfiles, IsDirectory, count_index, with_entry}
use Rattle.directory_pages.specs.declared.row.Row.{Row}
use Rattle.directory_pages.specs.RowPage.{IsDirPage}
use Rattle.directory_pages.specs.Rows.{is_named}
use Rattle.directory_pages.specs.declared.entry.IndexEntry.{IndexEntry}
use Rattle.directory_pages.specs.Entries.{hash_of}
use Rattle.directory_pages.specs.Index.{IsIndex, all_entries, index_pages}
use Rattle.directory_pages.proofs.Removed.{count_is as index_long}
use Rattle.directory_rows.specs.Directory.{AreEntriesOf, IndexesRows, IsWellFormed, NamesOnce, all_rows, row_pages, rows_at, rows_in}
use Rattle.directory_rows.specs.RowChanges.{AddsRow, CutsRow, KeepsIndex, OnlyDirectory, PutsRow, RemovesRow}
use Rattle.directory_rows.specs.Steps.{CompletesIndex, LacksEntry, OnlyPages, PutsRowIn, SetsIndex, SparesEntry, TakesRow, TrimsIndex}
use Rattle.directory_rows.proofs.Counted.{OneMore, lacks_one, spares_one}
use Rattle.directory_rows.proofs.Entered.{Named, all_put, long_most, long_put, long_replaced, named_within, once_with, once_without, parts_put, rows_at_other, rows_at_put, the_named, three_parts}
use Rattle.directory_rows.proofs.Files.{directory_after, index_mid, only_both, pages_after}
use Rattle.directory_rows.proofs.Parts.{count_is}

-- the entry of a name's row on a page, by the name's hash
abbrev pub entry_by : ℕ → ℕ → IndexEntry
entry_by number hash = record { hash = hash; page = number }

-- what a change of the pages and then of the index keeps
module _ (dir : Tag) (old mid new : Bitfiles) (directory : IsDirectory old dir) (first : OnlyPages dir old mid) (second : SetsIndex dir mid new) where
  pages_new : row_pages new dir ≡ row_pages mid dir
  pages_new = pages_after dir old mid directory first new second.others

  pub only_now : OnlyDirectory dir old new
  only_now = only_both dir old mid directory first new second.others

  pub index_kept : KeepsIndex dir old new
  index_kept had = second.kept (omega (arith, had, index_long old dir, index_long mid dir, ap length (index_mid dir old mid directory first)))

  pub good_now : AllByRecursion IsDirPage (row_pages mid dir) → NamesOnce (all_rows (row_pages mid dir)) → IsWellFormed new dir
  good_now pages names = record {
    directory = directory_after dir old mid directory first new second.others;
    pages = subst (AllByRecursion IsDirPage) (sym pages_new) pages;
    names = subst (λ ps. NamesOnce (all_rows ps)) (sym pages_new) names;
    index = subst (λ ps. (index_pages new dir ≡ []) ⊎ IndexesRows ps (index_pages new dir)) (sym pages_new) second.index;
  }

-- ---- a row more

module _ (dir : Tag) (row : Row) (number : ℕ) (old mid : Bitfiles) (good : IsWellFormed old dir) (puts : PutsRowIn dir row number old mid) where
  abbrev pages : List (List ℕ)
  pages = row_pages old dir

  abbrev page : List ℕ
  page = puts.placed.page

  abbrev put : row_pages mid dir ≡ with_entry number page pages
  put = puts.placed.put

  abbrev within : number ≤ length pages
  within = puts.placed.first.within

  pub put_pages : AllByRecursion IsDirPage (row_pages mid dir)
  put_pages = subst (AllByRecursion IsDirPage) (sym put) (all_put IsDirPage number page pages good.pages puts.placed.good)

  one_more : OneMore number row pages (row_pages mid dir)
  one_more = record {
    front = rows_at number pages;
    back = [];
    had = sym (append-nil (rows_at number pages));
    has = ap (rows_at number) put ∙ rows_at_put number page pages within ∙ puts.placed.rows;
    others = λ k other. ap (rows_at k) put ∙ rows_at_other k number page pages within other;
  }

  pub put_index : (hash : ℕ) → hash ≡ hash_of row.name → (index_pages mid dir ≡ []) ⊎ LacksEntry (entry_by number hash) (row_pages mid dir) (index_pages mid dir)
  put_index hash is = by_index good.index
    where
      stays : index_pages mid dir ≡ index_pages old dir
      stays = index_mid dir old mid good.directory puts.others

      by_index : (index_pages old dir ≡ []) ⊎ IndexesRows pages (index_pages old dir) → (index_pages mid dir ≡ []) ⊎ LacksEntry (entry_by number hash) (row_pages mid dir) (index_pages mid dir)
      by_index (inl none) = inl (stays ∙ none)
      by_index (inr indexes) = inr (record {
        some = omega (arith, indexes.some, ap length put, long_put number page pages within);
        good = subst IsIndex (sym stays) indexes.good;
        exact = subst (λ h. AreEntriesOf (row_pages mid dir) (entry_by number h ∷ all_entries (index_pages mid dir))) (sym is)
            (subst (λ ps. AreEntriesOf (row_pages mid dir) (entry_by number (hash_of row.name) ∷ all_entries ps)) (sym stays) (lacks_one number row pages (row_pages mid dir) one_more (all_entries (index_pages old dir)) indexes.exact));
      })

  abbrev front : List Row
  front = all_rows (take number pages) ++ rows_at number pages

  abbrev back : List Row
  back = all_rows (drop (number + 1) pages)

  were : rows_in old dir ≡ front ++ back
  were = three_parts number pages ∙ sym (append_assoc (all_rows (take number pages)) (rows_at number pages) back)

  are : all_rows (row_pages mid dir) ≡ front ++ row ∷ back
  are =
      ap all_rows put ∙ parts_put number page pages ∙ ap (λ (rs : List Row). all_rows (take number pages) ++ (rs ++ back)) puts.placed.rows
      ∙ ap (λ (rs : List Row). all_rows (take number pages) ++ rs) (append_assoc (rows_at number pages) (row ∷ []) back)
      ∙ sym (append_assoc (all_rows (take number pages)) (rows_at number pages) (row ∷ back))

  index_stays : count_index mid dir ≡ count_index old dir
  index_stays = omega (arith, index_long old dir, index_long mid dir, ap length (index_mid dir old mid good.directory puts.others))

  pub adds_row : (new : Bitfiles) → is_named row.name (rows_in old dir) ≡ false → CompletesIndex dir mid new → AddsRow dir row old new
  adds_row new fresh completes =
      let once = once_with front row back (subst NamesOnce were good.names) (ap (is_named row.name) (sym were) ∙ fresh) in
      let same = pages_after dir old mid good.directory puts.others new completes.sets.others in
      record {
        others = only_now dir old mid new good.directory puts.others completes.sets;
        good = good_now dir old mid new good.directory puts.others completes.sets put_pages (subst NamesOnce (sym are) once);
        number = number;
        placed = subst (PutsRow row number pages) (sym same) puts.placed;
        front = front;
        back = back;
        were = were;
        are = ap all_rows same ∙ are;
        kept = index_kept dir old mid new good.directory puts.others completes.sets;
        indexed = completes.indexed;
        bare = λ none outside. completes.bare (omega (arith, none, index_stays)) outside;
        pages = omega (arith, count_is new dir, count_is old dir, ap length same, ap length put, long_most number page pages within);
        grown = (
          λ none. completes.grown.0 (omega (arith, none, index_stays)),
          λ some. omega (arith, completes.grown.1 (omega (arith, some, index_stays)), index_stays),
        );
      }

-- ---- a row less

module _ (dir : Tag) (name : List ℕ) (number : ℕ) (old mid : Bitfiles) (good : IsWellFormed old dir) (there : is_named name (rows_at number (row_pages old dir)) ≡ true) (takes : TakesRow dir name number old mid) where
  abbrev had : List (List ℕ)
  had = row_pages old dir

  abbrev the : Named name (rows_at number had)
  the = the_named name (rows_at number had) there

  inside : number < length had
  inside = named_within name had number there

  upto : number ≤ length had
  upto = omega (arith, inside)

  take_pages : AllByRecursion IsDirPage (row_pages mid dir)
  take_pages = subst (AllByRecursion IsDirPage) (sym takes.cut.put) (all_put IsDirPage number takes.cut.page had good.pages takes.cut.good)

  one_less : OneMore number the.row (row_pages mid dir) had
  one_less = record {
    front = the.front;
    back = the.back;
    had = ap (rows_at number) takes.cut.put ∙ rows_at_put number takes.cut.page had upto ∙ takes.cut.rows ∙ the.left;
    has = the.parts;
    others = λ k other. sym (ap (rows_at k) takes.cut.put ∙ rows_at_other k number takes.cut.page had upto other);
  }

  pub take_index : (hash : ℕ) → hash ≡ hash_of name → (index_pages mid dir ≡ []) ⊎ SparesEntry (entry_by number hash) (row_pages mid dir) (index_pages mid dir)
  take_index hash is = by_index good.index
    where
      stays : index_pages mid dir ≡ index_pages old dir
      stays = index_mid dir old mid good.directory takes.others

      by_index : (index_pages old dir ≡ []) ⊎ IndexesRows had (index_pages old dir) → (index_pages mid dir ≡ []) ⊎ SparesEntry (entry_by number hash) (row_pages mid dir) (index_pages mid dir)
      by_index (inl none) = inl (stays ∙ none)
      by_index (inr indexes) =
          let spares : SparesEntry (entry_by number (hash_of the.row.name)) (row_pages mid dir) (index_pages old dir) = record {
            some = omega (arith, indexes.some, ap length takes.cut.put, long_replaced number takes.cut.page had inside);
            good = indexes.good;
            exact = spares_one number the.row (row_pages mid dir) had one_less (all_entries (index_pages old dir)) indexes.exact;
          } in
          inr (subst (λ ps. SparesEntry (entry_by number hash) (row_pages mid dir) ps) (sym stays) (subst (λ h. SparesEntry (entry_by number h) (row_pages mid dir) (index_pages old dir)) (ap hash_of the.named ∙ sym is) spares))

  abbrev before : List Row
  before = all_rows (take number had) ++ the.front

  abbrev behind : List Row
  behind = the.back ++ all_rows (drop (number + 1) had)

  rows_were : rows_in old dir ≡ before ++ the.row ∷ behind
  rows_were =
      three_parts number had ∙ ap (λ (rs : List Row). all_rows (take number had) ++ (rs ++ all_rows (drop (number + 1) had))) the.parts
      ∙ ap (λ (rs : List Row). all_rows (take number had) ++ rs) (append_assoc the.front (the.row ∷ the.back) (all_rows (drop (number + 1) had)))
      ∙ sym (append_assoc (all_rows (take number had)) the.front (the.row ∷ behind))

  rows_are : all_rows (row_pages mid dir) ≡ before ++ behind
  rows_are =
      ap all_rows takes.cut.put ∙ parts_put number takes.cut.page had
      ∙ ap (λ (rs : List Row). all_rows (take number had) ++ (rs ++ all_rows (drop (number + 1) had))) (takes.cut.rows ∙ the.left)
      ∙ ap (λ (rs : List Row). all_rows (take number had) ++ rs) (append_assoc the.front the.back (all_rows (drop (number + 1) had)))
      ∙ sym (append_assoc (all_rows (take number had)) the.front behind)

  pub removes_row : (new : Bitfiles) → TrimsIndex dir mid new → RemovesRow dir name old new
  removes_row new trims =
      let sets = trims.sets in
      let once = once_without before the.row behind (subst NamesOnce rows_were good.names) in
      let same = pages_after dir old mid good.directory takes.others new sets.others in
      record {
        others = only_now dir old mid new good.directory takes.others sets;
        good = good_now dir old mid new good.directory takes.others sets take_pages (subst NamesOnce (sym rows_are) once);
        number = number;
        cut = subst (CutsRow name number had) (sym same) takes.cut;
        front = before;
        row = the.row;
        back = behind;
        named = the.named;
        were = rows_were;
        are = ap all_rows same ∙ rows_are;
        pages = omega (arith, count_is new dir, count_is old dir, ap length same, ap length takes.cut.put, long_replaced number takes.cut.page had inside);
        index = omega (arith, trims.count, index_long old dir, index_long mid dir, ap length (index_mid dir old mid good.directory takes.others));
      }
