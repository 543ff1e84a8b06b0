-- Pages with room for a row.
use Rattle.std.proofs.Common.{◌≡◌, ◌∙◌, ℕ, ◌+◌, ◌<◌, ◌≤◌, true, not, ◌&&◌, nat_le, None, List, [], ◌∷◌, ◌++◌, length, slice_get, sym, ap, arith}
use Rattle.std.proofs.lemmas.Bool.{and_parts, le-leb, leb-true}
use Rattle.std.specs.List.{list_all}
use Rattle.directory_pages.specs.domain_base.Page.{zero_bytes}
use Rattle.directory_pages.specs.domain_base.declared.place.Tag.{Tag}
use Rattle.directory_pages.specs.page_store.Bitfiles.{Bitfiles, IsDirectory, put_page, with_change}
use Rattle.directory_pages.specs.declared.row.Row.{Row}
use Rattle.directory_pages.specs.RowPage.{HasRows, rows_of, size_of}
use Rattle.directory_pages.specs.Rows.{is_name_byte, is_dots, is_name_len, is_row_name, spelling, without}
use Rattle.directory_pages.proofs.PageParts.{size_is}
use Rattle.directory_rows.specs.Directory.{row_pages}
use Rattle.directory_rows.specs.RowChanges.{IsFirstWithRoom}
use Rattle.directory_rows.specs.Steps.{IsCopyOf, PutsRowIn, TakesRow}
use Rattle.directory_rows.proofs.Files.{only_pages, pages_put}
use Rattle.directory_rows.proofs.Parts.{rows_at_none}

short_name : (name : List ℕ) → is_row_name name ≡ true → length name ≤ 255
short_name name good =
    let first = and_parts (is_name_len (length name) && list_all is_name_byte name) (not (is_dots name)) good in
    let len = and_parts (is_name_len (length name)) (list_all is_name_byte name) first.0 in
    leb-true (length name) 255 (and_parts (nat_le 1 (length name)) (nat_le (length name) 255) len.0).1

-- a new page in place of one that is not there
pub copy_none : (number : ℕ) (pages : List (List ℕ)) (page : List ℕ) → slice_get pages number ≡ None → HasRows [] (zero_bytes 8176) page → IsCopyOf number pages page
copy_none number pages page missing has = record {
  good = has.good;
  rows = has.read ∙ sym (rows_at_none pages number missing);
  room = λ name named room. le-leb (16 + size_of page + 8 + length name) 8192 (omega (arith, nothing, short_name name named));
}
  where
    nothing : size_of page ≡ 0
    nothing = size_is page (rows_of page) has.good ∙ ap (λ rows. length (spelling rows)) has.read

module _ (dir : Tag) (number : ℕ) (old : Bitfiles) (directory : IsDirectory old dir) where
  pub puts_row : (row : Row) (copy page behind : List ℕ) (new : Bitfiles) → IsFirstWithRoom row.name (row_pages old dir) number → IsCopyOf number (row_pages old dir) copy → HasRows (rows_of copy ++ row ∷ []) behind page → new ≡ with_change dir (put_page number page) old → PutsRowIn dir row number old new
  puts_row row copy page behind new first copies has put = record {
    others = only_pages dir old new directory number page put;
    placed = record {
      page = page;
      first = first;
      good = has.good;
      rows = has.read ∙ ap (λ (rs : List Row). rs ++ row ∷ []) copies.rows;
      put = pages_put dir old new directory number page put;
    };
  }

  pub takes_row : (name : List ℕ) (copy page behind : List ℕ) (new : Bitfiles) → number < length (row_pages old dir) → IsCopyOf number (row_pages old dir) copy → HasRows (without name (rows_of copy)) behind page → new ≡ with_change dir (put_page number page) old → TakesRow dir name number old new
  takes_row name copy page behind new within copies has put = record {
    others = only_pages dir old new directory number page put;
    cut = record {
      page = page;
      within = within;
      good = has.good;
      rows = has.read ∙ ap (without name) copies.rows;
      put = pages_put dir old new directory number page put;
    };
  }
