-- That a directory is well formed is at hand if it is known.
use Rattle.std.proofs.Common.{◌≡◌, ◌∙◌, ◌⊎◌, ◌++◌, ℕ, false, List, [], ◌∷◌, length, inl, refl, sym}
use Rattle.std.proofs.Math.Logic.{∥∥₁_map}
use Rattle.std.proofs.lemmas.List.{append_cancel_left}
use Rattle.std.specs.Coded.{Coded-set, coded_ℕ, coded_list}
use Rattle.std.specs.List.{AllByRecursion}
use Rattle.fileset_lending.specs.domain_base.declared.place.Kind.TheVariants.{Directory}
use Rattle.fileset_lending.specs.domain_base.declared.place.Tag.{Tag}
use Rattle.fileset_lending.specs.page_store.Bitfiles.{Bitfile, Bitfiles}
use Rattle.fileset_lending.specs.directory_pages.RowPage.{IsDirPage, IsRowPage, header, page_of, rows_of}
use Rattle.fileset_lending.specs.directory_pages.Rows.{IsRow, spelling}
use Rattle.fileset_lending.specs.directory_pages.declared.row.Row.{Row}
use Rattle.fileset_lending.specs.directory_pages.Entries.{Rise, is_below}
use Rattle.fileset_lending.specs.directory_pages.Index.{IsIndex, IsIndexPage, all_entries, index_pages}
use Rattle.fileset_lending.specs.directory_pages.declared.entry.IndexEntry.{IndexEntry}
use Rattle.fileset_lending.specs.directory_rows.Directory.{AreEntriesOf, IndexesRows, IsWellFormed, NamesOnce, row_pages, rows_in}
use Rattle.fileset_lending.proofs.OfStoredSet.Stable.{IsStable, all, both, determined, equal, kind_code, less, one_bool, one_number, one_page, second_of, some_and, three, unit}

row : (r : Row) → IsStable (IsRow r)
row r t =
    let it = three (less _ _) (less _ _) (one_bool _ _) (∥∥₁_map t (λ (x : IsRow r). (x.slot, x.seq, x.named))) in
    record { slot = it.0; seq = it.1; named = it.2 }

module _ (page : List ℕ) (rows : List Row) where
  abbrev Rest : List ℕ → Type 0
  Rest rest = (length page ≡ 8192) × (page ≡ page_of rows rest) × AllByRecursion IsRow rows

  one_rest : (a b : List ℕ) → Rest a → Rest b → a ≡ b
  one_rest a b x y = append_cancel_left (header rows ++ spelling rows) a b (sym x.1 ∙ y.1)

  row_page : IsStable (IsRowPage page rows)
  row_page t =
      let it : (rest : List ℕ) × Rest rest = determined Rest (λ a b. Coded-set (coded_list coded_ℕ) a b) one_rest
      (λ rest. three (one_number _ _) (one_page _ _) (all IsRow row rows)) (∥∥₁_map t (λ (x : IsRowPage page rows). (x.rest, (x.whole, x.parts, x.good))))
      in
      record { whole = it.1.0; rest = it.0; parts = it.1.1; good = it.1.2 }

names_once : (rows : List Row) → IsStable (NamesOnce rows)
names_once [] = unit
names_once (r ∷ rows) = both (one_bool _ _) (names_once rows)

rise : (entries : List IndexEntry) → IsStable (Rise entries)
rise [] = unit
rise (e ∷ entries) = both (all (λ later. is_below later e ≡ false) (λ later. one_bool _ _) entries) (rise entries)

index_page : (page : List ℕ) → IsStable (IsIndexPage page)
index_page page t =
    let it = three (one_number _ _) (one_number _ _) (less _ _) (∥∥₁_map t (λ (x : IsIndexPage page). (x.whole, x.magic, x.count))) in
    record { whole = it.0; magic = it.1; count = it.2 }

index_good : (index : List (List ℕ)) → IsStable (IsIndex index)
index_good index t =
    let it = three (less _ _) (all IsIndexPage index_page index) (rise (all_entries index)) (∥∥₁_map t (λ (x : IsIndex index). (x.some, x.pages, x.rise))) in
    record { some = it.0; pages = it.1; rise = it.2 }

entries_are : (pages : List (List ℕ)) (entries : List IndexEntry) → IsStable (AreEntriesOf pages entries)
entries_are pages entries t hash page = one_number _ _ (∥∥₁_map t (λ x. x hash page))

indexes_rows : (pages index : List (List ℕ)) → IsStable (IndexesRows pages index)
indexes_rows pages index t =
    let it = three (less _ _) (index_good index) (entries_are pages (all_entries index)) (∥∥₁_map t (λ (x : IndexesRows pages index). (x.some, x.good, x.exact))) in
    record { some = it.0; good = it.1; exact = it.2 }

some_pages : {X : Type 0} (x : X) (xs : List X) → x ∷ xs ≡ [] → ⊥
some_pages x xs e = cc

indexed : (pages index : List (List ℕ)) → IsStable ((index ≡ []) ⊎ IndexesRows pages index)
indexed pages [] t = inl refl
indexed pages (p ∷ ps) t = second_of (some_pages p ps) (indexes_rows pages (p ∷ ps)) t

pub well_formed : (files : Bitfiles) (dir : Tag) → IsStable (IsWellFormed files dir)
well_formed files dir t = record {
  directory = some_and (λ (f : Bitfile). f.kind ≡ Directory) (λ f. equal kind_code _ _) (files dir) (∥∥₁_map t (λ x. x.directory));
  pages = all IsDirPage (λ page. row_page page (rows_of page)) (row_pages files dir) (∥∥₁_map t (λ x. x.pages));
  names = names_once (rows_in files dir) (∥∥₁_map t (λ x. x.names));
  index = indexed (row_pages files dir) (index_pages files dir) (∥∥₁_map t (λ x. x.index));
}
