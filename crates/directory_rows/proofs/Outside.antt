-- What a change of one directory leaves, and what makes one well formed.
use Rattle.std.proofs.Common.{◌≡◌, ◌∙◌, ◌⊎◌, inl, false, cond, Option, Some, None, [], refl, sym, ap, subst}
use Rattle.std.specs.List.{AllByRecursion}
use Rattle.std.specs.Option.{IsSomeAnd, option_map_or}
use Rattle.directory_pages.specs.domain_base.declared.place.Kind.TheVariants.{Directory}
use Rattle.directory_pages.specs.domain_base.declared.place.Tag.{Tag}
use Rattle.directory_pages.specs.page_store.Bitfiles.{Bitfile, Bitfiles, IsDirectory, same_tag, with_change, with_file}
use Rattle.directory_pages.specs.RowPage.{IsDirPage}
use Rattle.directory_pages.specs.Index.{index_pages}
use Rattle.directory_pages.proofs.Sets.{change_is, index_of_file, there_now}
use Rattle.directory_rows.specs.Directory.{IndexesRows, NamesOnce, all_rows, row_pages}
use Rattle.directory_rows.specs.Laws.{EmptyIsWellFormed, OthersStay, RowsDecide}
use Rattle.directory_rows.specs.RowChanges.{with_contents}
use Rattle.directory_rows.proofs.Files.{pages_of_file}

other_file : (dir tag : Tag) (change : Bitfile → Bitfile) (old : Bitfiles) → same_tag tag dir ≡ false → with_change dir change old tag ≡ old tag
other_file dir tag change old other = by_file (old dir)
  where
    by_file : (o : Option Bitfile) → (option_map_or (λ file. with_file dir (change file) old) o old) tag ≡ old tag
    by_file None = refl
    by_file (Some file) = ap (λ b. cond b (Some (change file)) (old tag)) other

pub others_stay_lem : OthersStay
others_stay_lem dir old new only =
    let change = with_contents (row_pages new dir) (index_pages new dir) in
    record {
      others = λ tag other. ap (λ (fs : Bitfiles). fs tag) only ∙ other_file dir tag change old other;
      itself = λ file is.
          (change file, ap (λ (fs : Bitfiles). fs dir) (only ∙ change_is dir old file is change) ∙ there_now dir old file is (change file), record { kind = refl; uid = refl; gid = refl; links = refl });
    }

directory_is : (files : Bitfiles) (dir : Tag) (file : Bitfile) → files dir ≡ Some file → file.kind ≡ Directory → IsDirectory files dir
directory_is files dir file is kind = subst (λ (o : Option Bitfile). IsSomeAnd o (λ f. f.kind ≡ Directory)) (sym is) kind

pub rows_decide_lem : RowsDecide
rows_decide_lem old new was is file now had has same good =
    let pages : row_pages new is ≡ row_pages old was = pages_of_file is new now has ∙ same.pages ∙ sym (pages_of_file was old file had) in
    let index : index_pages new is ≡ index_pages old was = index_of_file is new now has ∙ same.index ∙ sym (index_of_file was old file had) in
    record {
      directory = directory_is new is now has (same.kind ∙ subst (λ (o : Option Bitfile). IsSomeAnd o (λ f. f.kind ≡ Directory)) had good.directory);
      pages = subst (AllByRecursion IsDirPage) (sym pages) good.pages;
      names = subst (λ ps. NamesOnce (all_rows ps)) (sym pages) good.names;
      index = subst (λ ps. (index_pages new is ≡ []) ⊎ IndexesRows ps (index_pages new is)) (sym pages)
          (subst (λ ps. (ps ≡ []) ⊎ IndexesRows (row_pages old was) ps) (sym index) good.index);
    }

pub empty_is_well_formed_lem : EmptyIsWellFormed
empty_is_well_formed_lem files dir file is kind no_pages no_index =
    let pages : row_pages files dir ≡ [] = pages_of_file dir files file is ∙ no_pages in
    record {
      directory = directory_is files dir file is kind;
      pages = subst (AllByRecursion IsDirPage) (sym pages) tt;
      names = subst (λ ps. NamesOnce (all_rows ps)) (sym pages) tt;
      index = inl (index_of_file dir files file is ∙ no_index);
    }
