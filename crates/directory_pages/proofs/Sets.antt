-- Files after the index of a directory was changed.
use Rattle.std.proofs.Common.{Result, Ok, Err, OnOk, OnErr, ◌≡◌, ◌∙◌, ◌⊎◌, inl, inr, ℕ, ◌+◌, ◌-◌, ◌*◌, ◌<◌, ◌≤◌, Bool, true, false, cond, min, nat_eq, Option, Some, None, List, [], ◌∷◌, ◌++◌, length, take, drop, refl, sym, ap, subst, arith, length-append}
use Rattle.std.proofs.lemmas.Bool.{and_from, and_parts, cases_lt, eq-eqb, eqb-true}
use Rattle.std.proofs.lemmas.List.{append-nil, drop_all, take_all}
use Rattle.std.proofs.Math.Seq.{take-add}
use Rattle.std.specs.List.{AllByRecursion}
use Rattle.std.specs.Option.{IsSomeAnd, option_map_or}
use Rattle.cell_records.specs.domain_base.declared.place.Kind.TheVariants.{Directory}
use Rattle.cell_records.specs.domain_base.declared.place.Tag.{Tag}
use Rattle.page_store.specs.Bitfiles.{Bitfile, Bitfiles, IsDirectory, put_index, same_tag, with_change, with_entry, with_file}
use Rattle.directory_pages.specs.declared.entry.IndexEntry.{IndexEntry}
use Rattle.directory_pages.specs.Index.{IsIndexPage, all_entries, entries_of, index_pages}
use Rattle.directory_pages.specs.Changes.{OnlyIndex, PutsPage, with_index}
use Rattle.directory_pages.proofs.IndexParts.{all-append}

same_itself : (tag : Tag) → same_tag tag tag ≡ true
same_itself tag = and_from (nat_eq tag.slot tag.slot) (nat_eq tag.seq tag.seq) (eq-eqb tag.slot tag.slot refl) (eq-eqb tag.seq tag.seq refl)

tags_same : (a b : Tag) → same_tag a b ≡ true → a ≡ b
tags_same a b same =
    let parts = and_parts (nat_eq a.slot b.slot) (nat_eq a.seq b.seq) same in
    λ i. record { slot = eqb-true a.slot b.slot parts.0 i; seq = eqb-true a.seq b.seq parts.1 i }

-- a file at a tag
module _ (dir : Tag) (old : Bitfiles) (file : Bitfile) (is : old dir ≡ Some file) where
  pub change_is : (change : Bitfile → Bitfile) → with_change dir change old ≡ with_file dir (change file) old
  change_is change = ap (λ (o : Option Bitfile). option_map_or (λ f. with_file dir (change f) old) o old) is

  pub there_now : (f : Bitfile) → with_file dir f old dir ≡ Some f
  there_now f = ap (λ b. cond b (Some f) (old dir)) (same_itself dir)

  twice : (f g : Bitfile) (t : Tag) → with_file dir g (with_file dir f old) t ≡ with_file dir g old t
  twice f g t = by_test (same_tag t dir)
    where
      by_test : (b : Bool) → cond b (Some g) (cond b (Some f) (old t)) ≡ cond b (Some g) (old t)
      by_test true = refl
      by_test false = refl

  pub put_twice : (f g : Bitfile) → with_file dir g (with_file dir f old) ≡ with_file dir g old
  put_twice f g = λ i t. twice f g t i

  back : (t : Tag) → with_file dir file old t ≡ old t
  back t = by_test (same_tag t dir) refl
    where
      by_test : (b : Bool) → same_tag t dir ≡ b → cond (same_tag t dir) (Some file) (old t) ≡ old t
      by_test true same = ap (λ b. cond b (Some file) (old t)) same ∙ sym is ∙ ap old (sym (tags_same t dir same))
      by_test false other = ap (λ b. cond b (Some file) (old t)) other

  pub put_back : with_file dir file old ≡ old
  put_back = λ i t. back t i

  -- the pages now
  pub pages_now : (index : List (List ℕ)) → index_pages (with_change dir (with_index index) old) dir ≡ index
  pages_now index = ap (λ (fs : Bitfiles). index_pages fs dir) (change_is (with_index index)) ∙ ap (λ (o : Option Bitfile). option_map_or (λ (f : Bitfile). f.index) o []) (there_now (with_index index file))

  pub only : (index : List (List ℕ)) (new : Bitfiles) → new ≡ with_change dir (with_index index) old → OnlyIndex dir old new
  only index new changed = changed ∙ ap (λ ps. with_change dir (with_index ps) old) (sym (ap (λ (fs : Bitfiles). index_pages fs dir) changed ∙ pages_now index))

  -- nothing changed
  pub same_pages : (index : List (List ℕ)) → file.index ≡ index → old ≡ with_change dir (with_index index) old
  same_pages index are = sym (change_is (with_index index) ∙ ap (λ ps. with_file dir (with_index ps file) old) (sym are) ∙ put_back)

  -- a page put, in files with other index pages
  pub put_on : (index : List (List ℕ)) (number : ℕ) (page : List ℕ) (mid new : Bitfiles) → mid ≡ with_change dir (with_index index) old → new ≡ with_change dir (put_index number page) mid
      → new ≡ with_change dir (with_index (with_entry number page index)) old
  put_on index number page mid new was put =
      let f = with_index index file in
      let mid_is : mid ≡ with_file dir f old = was ∙ change_is (with_index index) in
      let at : mid dir ≡ Some f = ap (λ (fs : Bitfiles). fs dir) mid_is ∙ there_now f in
      put ∙ ap (λ (o : Option Bitfile). option_map_or (λ g. with_file dir (put_index number page g) mid) o mid) at
      ∙ ap (with_file dir (put_index number page f)) mid_is ∙ put_twice f (put_index number page f) ∙ sym (change_is (with_index (with_entry number page index)))

  pub directory_now : (index : List (List ℕ)) (mid : Bitfiles) → mid ≡ with_change dir (with_index index) old → file.kind ≡ Directory → IsDirectory mid dir
  directory_now index mid was kind =
      subst (λ (o : Option Bitfile). IsSomeAnd o (λ f. f.kind ≡ Directory)) (sym (ap (λ (fs : Bitfiles). fs dir) (was ∙ change_is (with_index index)) ∙ there_now (with_index index file))) kind

-- ---- an index built of entries

pub record Built (dir : Tag) (list : List IndexEntry) (number : ℕ) (old new : Bitfiles) : Type 0 where
  pub index : List (List ℕ)
  pub changed : new ≡ with_change dir (with_index index) old
  pub long : length index ≡ number
  pub good : AllByRecursion IsIndexPage index
  pub read : all_entries index ≡ take (1022 * number) list

pub record DirectoryFile (dir : Tag) (files : Bitfiles) : Type 0 where
  pub file : Bitfile
  pub is : files dir ≡ Some file
  pub kind : file.kind ≡ Directory

pub the_file : (dir : Tag) (files : Bitfiles) → IsDirectory files dir → DirectoryFile dir files
the_file dir files directory = by_file (files dir) refl directory
  where
    by_file : (o : Option Bitfile) → files dir ≡ o → IsSomeAnd o (λ f. f.kind ≡ Directory) → DirectoryFile dir files
    by_file None at is = absurd is
    by_file (Some f) at is = record { file = f; is = at; kind = is }

pub index_of_file : (dir : Tag) (files : Bitfiles) (file : Bitfile) → files dir ≡ Some file → index_pages files dir ≡ file.index
index_of_file dir files file is = ap (λ (o : Option Bitfile). option_map_or (λ (f : Bitfile). f.index) o []) is

all_page_more : (xs : List (List ℕ)) (x : List ℕ) → AllByRecursion IsIndexPage xs → IsIndexPage x → AllByRecursion IsIndexPage (xs ++ x ∷ [])
all_page_more [] x all one = (one, tt)
all_page_more (y ∷ xs) x all one = (all.0, all_page_more xs x all.1 one)

-- a part of a list after its front
part_more : (list : List IndexEntry) (from end : ℕ) → from ≤ length list → end ≡ min (length list) (from + 1022) → take from list ++ take (end - from) (drop from list) ≡ take (from + 1022) list
part_more list from end within is = sym (take-add from (end - from) list) ∙ by_side (cases_lt (length list) (from + 1022))
  where
    by_side : (length list < from + 1022) ⊎ (from + 1022 ≤ length list) → take (from + (end - from)) list ≡ take (from + 1022) list
    by_side (inl less) = take_all (from + (end - from)) list (omega (arith, is, less, within)) ∙ sym (take_all (from + 1022) list (omega (arith, less)))
    by_side (inr most) = let e : from + (end - from) ≡ from + 1022 = omega (arith, is, most) in ap (λ n. take n list) e

pub built_more : (dir : Tag) (list part : List IndexEntry) (number from end : ℕ) (old mid new : Bitfiles) → IsDirectory old dir → Built dir list number old mid → PutsPage dir number part mid new
    → from ≡ 1022 * number → from ≤ length list → end ≡ min (length list) (from + 1022) → part ≡ take (end - from) (drop from list) → Built dir list (number + 1) old new
built_more dir list part number from end old mid new directory was puts starts within is_end is_part =
    let at = the_file dir old directory in
    let added : with_entry number puts.page was.index ≡ was.index ++ puts.page ∷ [] =
    (λ i. take_all number was.index (omega (arith, was.long)) i ++ puts.page ∷ drop_all (number + 1) was.index (omega (arith, was.long)) i) in
    let next : from + 1022 ≡ 1022 * (number + 1) = omega (arith, starts) in
    record {
      index = was.index ++ puts.page ∷ [];
      changed = put_on dir old at.file at.is was.index number puts.page mid new was.changed puts.changed ∙ ap (λ ps. with_change dir (with_index ps) old) added;
      long = omega (arith, length-append was.index (puts.page ∷ []), was.long);
      good = all_page_more was.index puts.page was.good puts.made.good;
      read = all-append was.index (puts.page ∷ []) ∙ (λ i. was.read i ++ append-nil (entries_of puts.page) i) ∙ (λ i. take (sym starts i) list ++ puts.made.read i)
          ∙ ap (λ (es : List IndexEntry). take from list ++ es) is_part ∙ part_more list from end within is_end ∙ ap (λ n. take n list) next;
    }

-- ---- the directory stays one

pub still_directory : (dir : Tag) (old new : Bitfiles) → IsDirectory old dir → OnlyIndex dir old new → IsDirectory new dir
still_directory dir old new directory only = let at = the_file dir old directory in directory_now dir old at.file at.is (index_pages new dir) new only at.kind

pub either_directory : {T E : Type 0} (dir : Tag) (old new : Bitfiles) (r : Result T E) → IsDirectory old dir → OnOk r (OnlyIndex dir old new) → OnErr r (OnlyIndex dir old new) → IsDirectory new dir
either_directory dir old new (Ok x) directory ok err = still_directory dir old new directory ok
either_directory dir old new (Err e) directory ok err = still_directory dir old new directory err

pub put_directory : {T E : Type 0} (dir : Tag) (old new : Bitfiles) (r : Result T E) → IsDirectory old dir → OnOk r (OnlyIndex dir old new) → OnErr r (new ≡ old) → IsDirectory new dir
put_directory dir old new (Ok x) directory ok err = still_directory dir old new directory ok
put_directory dir old new (Err e) directory ok err = subst (λ fs. IsDirectory fs dir) (sym err) directory
