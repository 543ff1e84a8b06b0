-- Files after a directory's pages were changed.
use Rattle.std.proofs.Common.{◌≡◌, ◌∙◌, ℕ, List, [], Option, Some, sym, ap, subst}
use Rattle.std.specs.Option.{IsSomeAnd, option_map_or}
use Rattle.directory_pages.specs.domain_base.declared.place.Kind.TheVariants.{Directory}
use Rattle.directory_pages.specs.domain_base.declared.place.Tag.{Tag}
use Rattle.directory_pages.specs.page_store.Bitfiles.{Bitfile, Bitfiles, IsDirectory, put_page, with_change, with_entry, with_file}
use Rattle.directory_pages.specs.Changes.{OnlyIndex, with_index}
use Rattle.directory_pages.specs.Index.{index_pages}
use Rattle.directory_pages.proofs.Sets.{change_is, index_of_file, put_twice, the_file, there_now}
use Rattle.directory_rows.specs.Directory.{row_pages}
use Rattle.directory_rows.specs.RowChanges.{OnlyDirectory, with_contents}
use Rattle.directory_rows.specs.Steps.{OnlyPages, with_pages}

pub pages_of_file : (dir : Tag) (files : Bitfiles) (file : Bitfile) → files dir ≡ Some file → row_pages files dir ≡ file.pages
pages_of_file dir files file is = ap (λ (o : Option Bitfile). option_map_or (λ (f : Bitfile). f.pages) o []) is

-- a change of the index leaves the pages
pub pages_stay : (dir : Tag) (old new : Bitfiles) → IsDirectory old dir → OnlyIndex dir old new → row_pages new dir ≡ row_pages old dir
pages_stay dir old new directory only =
    let at = the_file dir old directory in
    let last = with_index (index_pages new dir) at.file in
    let now : new dir ≡ Some last = ap (λ (fs : Bitfiles). fs dir) (only ∙ change_is dir old at.file at.is (with_index (index_pages new dir))) ∙ there_now dir old at.file at.is last in
    pages_of_file dir new last now ∙ sym (pages_of_file dir old at.file at.is)

-- a page was put
module _ (dir : Tag) (old new : Bitfiles) (directory : IsDirectory old dir) (number : ℕ) (page : List ℕ) (put : new ≡ with_change dir (put_page number page) old) where
  abbrev file : Bitfile
  file = (the_file dir old directory).file

  is : old dir ≡ Some file
  is = (the_file dir old directory).is

  put_is : new ≡ with_file dir (put_page number page file) old
  put_is = put ∙ change_is dir old file is (put_page number page)

  now : new dir ≡ Some (put_page number page file)
  now = ap (λ (fs : Bitfiles). fs dir) put_is ∙ there_now dir old file is (put_page number page file)

  pub pages_put : row_pages new dir ≡ with_entry number page (row_pages old dir)
  pages_put = pages_of_file dir new (put_page number page file) now ∙ ap (with_entry number page) (sym (pages_of_file dir old file is))

  pub only_pages : OnlyPages dir old new
  only_pages =
      let pages = pages_of_file dir new (put_page number page file) now in
      put_is ∙ ap (λ ps. with_file dir (with_pages ps file) old) (sym pages) ∙ sym (change_is dir old file is (with_pages (row_pages new dir)))

-- pages were put, and then the index was changed
module _ (dir : Tag) (old mid : Bitfiles) (directory : IsDirectory old dir) (first : OnlyPages dir old mid) where
  abbrev was : Bitfile
  was = (the_file dir old directory).file

  was_is : old dir ≡ Some was
  was_is = (the_file dir old directory).is

  abbrev between : Bitfile
  between = with_pages (row_pages mid dir) was

  mid_is : mid ≡ with_file dir between old
  mid_is = first ∙ change_is dir old was was_is (with_pages (row_pages mid dir))

  mid_now : mid dir ≡ Some between
  mid_now = ap (λ (fs : Bitfiles). fs dir) mid_is ∙ there_now dir old was was_is between

  pub index_mid : index_pages mid dir ≡ index_pages old dir
  index_mid = index_of_file dir mid between mid_now ∙ sym (index_of_file dir old was was_is)

  module _ (new : Bitfiles) (second : OnlyIndex dir mid new) where
    abbrev last : Bitfile
    last = with_index (index_pages new dir) between

    new_is : new ≡ with_file dir last old
    new_is =
        second ∙ change_is dir mid between mid_now (with_index (index_pages new dir)) ∙ ap (with_file dir last) mid_is
        ∙ put_twice dir old was was_is between last

    new_now : new dir ≡ Some last
    new_now = ap (λ (fs : Bitfiles). fs dir) new_is ∙ there_now dir old was was_is last

    pub pages_after : row_pages new dir ≡ row_pages mid dir
    pages_after = pages_of_file dir new last new_now

    pub directory_after : IsDirectory new dir
    directory_after = subst (λ (o : Option Bitfile). IsSomeAnd o (λ f. f.kind ≡ Directory)) (sym new_now) (the_file dir old directory).kind

    pub only_both : OnlyDirectory dir old new
    only_both =
        new_is ∙ ap (λ ps. with_file dir (with_contents ps (index_pages new dir) was) old) (sym pages_after)
        ∙ sym (change_is dir old was was_is (with_contents (row_pages new dir) (index_pages new dir)))
