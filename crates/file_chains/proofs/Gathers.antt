-- A walk along the cells of a file that gathers their addresses and what each says of pages.
use Rattle.std.proofs.Common.{◌≡◌, ◌∙◌, ℕ, ◌+◌, ◌≤◌, List, [], ◌∷◌, ◌++◌, length, Option, Some, None, refl, sym, ap, subst, arith, append_assoc, length-append}
use Rattle.std.proofs.lemmas.Grind.{flat_map-append}
use Rattle.std.proofs.lemmas.List.{append-nil, map-append}
use Rattle.std.proofs.lemmas.List.Elements.{filter-append}
use Rattle.std.specs.List.{AllByRecursion}
use Rattle.free_cells.specs.domain_base.declared.place.CellAt.{CellAt}
use Rattle.free_cells.specs.page_store.Pages.{Pages}
use Rattle.free_cells.specs.cell_records.declared.record.Record.{Record}
use Rattle.free_cells.specs.metadata_cells.Chain.{AreDistinct, PlacedCell, places, records_of}
use Rattle.file_chains.specs.Files.{IsFile, IsNumbered, has_rows, map_records}
use Rattle.extent_records.specs.Rows.{AreOneMap}
use Rattle.file_chains.proofs.MapRecords.{one_map_of}
use Rattle.file_chains.proofs.Walks.{Mapped, RestAt, There, all_push, distinct_file, map_cells, rest_of, there_at, walk_short}

-- the records that say where pages stand, of cells that have one each
abbrev pub values : (cs : List PlacedCell) → AllByRecursion Mapped cs → List Record
values [] all = []
values (c ∷ cs) all = all.0.value ∷ values cs all.1

pub map_append : (xs ys : List Record) → map_records (xs ++ ys) ≡ map_records xs ++ map_records ys
map_append xs ys = filter-append has_rows xs ys

pub values_are : (cs : List PlacedCell) (all : AllByRecursion Mapped cs) → map_records (records_of cs) ≡ values cs all
values_are [] all = refl
values_are (c ∷ cs) all = map_append c.cell.records (records_of cs) ∙ ap (λ (rs : List Record). rs ++ map_records (records_of cs)) all.0.map.only ∙ ap (λ (rs : List Record). all.0.value ∷ rs) (values_are cs all.1)

pub record Gathers (pages : Pages) (i : ℕ) (next : Option CellAt) (cells : List PlacedCell) (at : List CellAt) (records : List Record) : Type 0 where
  pub passed : List PlacedCell
  pub rest : List PlacedCell
  pub all : cells ≡ passed ++ rest
  pub count : length passed ≡ i
  pub numbered : AllByRecursion (λ (c : PlacedCell). IsNumbered c.at) passed
  pub here : RestAt pages next rest
  pub maps : AllByRecursion Mapped rest
  pub at_passed : at ≡ places passed
  pub records_passed : records ≡ map_records (records_of passed)

pub gather_begins : (pages : Pages) (start : CellAt) (cells : List PlacedCell) → IsFile pages start cells → Gathers pages 0 (Some start) cells [] []
gather_begins pages start [] is = absurd is
gather_begins pages start (first ∷ rest) is = record {
  passed = [];
  rest = first ∷ rest;
  all = refl;
  count = refl;
  numbered = tt;
  here = (is.0, is.1.links.stands, is.1.links.follow);
  maps = (record { value = is.1.value; map = is.1.map }, map_cells rest is.1.others);
  at_passed = refl;
  records_passed = refl;
}

pub mapped_all : (pages : Pages) (start : CellAt) (cells : List PlacedCell) → IsFile pages start cells → AllByRecursion Mapped cells
mapped_all pages start [] is = tt
mapped_all pages start (first ∷ rest) is = (record { value = is.1.value; map = is.1.map }, map_cells rest is.1.others)

-- one cell more
gathered : (passed : List PlacedCell) (c : PlacedCell) → map_records (records_of (passed ++ c ∷ [])) ≡ map_records (records_of passed) ++ map_records c.cell.records
gathered passed c =
    ap map_records (flat_map-append (λ (c : PlacedCell). c.cell.records) passed (c ∷ [])) ∙ map_append (records_of passed) (c.cell.records ++ [])
    ∙ ap (λ (rs : List Record). map_records (records_of passed) ++ map_records rs) (append-nil c.cell.records)

module _ (pages : Pages) (i : ℕ) (at : CellAt) (cells : List PlacedCell) (seen : List CellAt) (records : List Record) (way : Gathers pages i (Some at) cells seen records) where
  pub there : There pages at way.rest
  there = there_at pages at way.rest way.here way.maps

  pub gather_on : IsNumbered at → Gathers pages (i + 1) there.c.cell.head.next cells (seen ++ at ∷ []) (records ++ there.mapped.value ∷ [])
  gather_on numbered = record {
    passed = way.passed ++ there.c ∷ [];
    rest = there.cs;
    all = way.all ∙ ap (λ (cs : List PlacedCell). way.passed ++ cs) there.all ∙ sym (append_assoc way.passed (there.c ∷ []) there.cs);
    count = omega (arith, length-append way.passed (there.c ∷ []), way.count);
    numbered = all_push way.passed there.c way.numbered (subst IsNumbered (sym there.is_at) numbered);
    here = rest_of pages there.c.cell.head there.cs there.follow;
    maps = there.maps;
    at_passed = ap (λ (xs : List CellAt). xs ++ at ∷ []) way.at_passed ∙ ap (λ (a : CellAt). places way.passed ++ a ∷ []) (sym there.is_at) ∙ sym (map-append (λ (c : PlacedCell). c.at) way.passed (there.c ∷ []));
    records_passed = ap (λ (rs : List Record). rs ++ there.mapped.value ∷ []) way.records_passed ∙ ap (λ (rs : List Record). map_records (records_of way.passed) ++ rs) (sym there.mapped.map.only) ∙ sym (gathered way.passed there.c);
  }

module _ (pages : Pages) (i : ℕ) (cells : List PlacedCell) (seen : List CellAt) (records : List Record) (way : Gathers pages i None cells seen records) where
  pub all_passed : cells ≡ way.passed
  all_passed = way.all ∙ ap (λ (cs : List PlacedCell). way.passed ++ cs) way.here ∙ append-nil way.passed

  pub all_places : seen ≡ places cells
  all_places = way.at_passed ∙ ap places (sym all_passed)

  pub all_records : records ≡ map_records (records_of cells)
  all_records = way.records_passed ∙ ap (λ cs. map_records (records_of cs)) (sym all_passed)

pub gather_short : (pages : Pages) (i : ℕ) (next : Option CellAt) (start : CellAt) (cells : List PlacedCell) (seen : List CellAt) (records : List Record) → IsFile pages start cells → Gathers pages i next cells seen records → i ≤ 9895604649984
gather_short pages i next start cells seen records is way =
    omega (arith, way.count, walk_short way.passed way.rest (subst AreDistinct way.all (distinct_file pages start cells is)) way.numbered)

pub one_map_file : (pages : Pages) (start : CellAt) (cells : List PlacedCell) → IsFile pages start cells → AreOneMap (map_records (records_of cells))
one_map_file pages start [] is = absurd is
one_map_file pages start (first ∷ rest) is = one_map_of (records_of (first ∷ rest)) is.1.one_map
