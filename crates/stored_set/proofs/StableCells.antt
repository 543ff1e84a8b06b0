-- Of cells and files it is enough to know that they stand so.
use Rattle.std.proofs.Common.{◌≡◌, ◌∙◌, ◌⊎◌, ◌^◌, ◌<◌, ◌≤◌, ◌+◌, ℕ, zero, suc, Option, Some, None, List, [], ◌∷◌, refl, sym, subst, arith}
use Rattle.std.proofs.Math.Logic.{∥∥₁_map}
use Rattle.std.specs.Coded.{coded_list, coded_option}
use Rattle.std.specs.List.{AllByRecursion}
use Rattle.index_pages.specs.domain_base.declared.place.CellAt.{CellAt}
use Rattle.index_pages.specs.page_store.Pages.{Pages}
use Rattle.index_pages.specs.cell_records.declared.record.ExtentField.{ExtentField}
use Rattle.index_pages.specs.cell_records.declared.record.HoleField.{HoleField}
use Rattle.index_pages.specs.cell_records.declared.record.Record.{Record}
use Rattle.index_pages.specs.cell_records.declared.record.Record.TheVariants as written
use Rattle.index_pages.specs.cell_records.Records.{Allowed, AreDense, AreExtents, AreHoles, IsCell as IsSource, IsExtent, IsRun, NoExtent, NoHole}
use Rattle.index_pages.specs.metadata_cells.declared.head.CellHead.{CellHead}
use Rattle.index_pages.specs.metadata_cells.Cell.{AreRecords, AreRising, Cell, HasHead, IsAddress, IsCell, IsFileset, place_of}
use Rattle.index_pages.specs.metadata_cells.CellPage.{cell_at}
use Rattle.index_pages.specs.metadata_cells.Chain.{AreDistinct, AreLinked, Follow, PlacedCell, StandsAt, records_of}
use Rattle.index_pages.specs.extent_maps.declared.run.Run.{Run}
use Rattle.index_pages.specs.extent_maps.declared.run.RunPlace.{RunPlace}
use Rattle.index_pages.specs.extent_maps.declared.run.RunPlace.TheVariants as place
use Rattle.index_pages.specs.extent_maps.Runs.{FitsVolume}
use Rattle.index_pages.specs.extent_records.Rows.{AreOneMap, IsPlaced, NoPageTwice, OnVolume, runs_in, runs_of, times}
use Rattle.index_pages.specs.extent_records.Writing.{IsMapRecord}
use Rattle.index_pages.specs.file_chains.Files.{AreFile, HasMap, IsFile, IsMapCell, map_records}
use Rattle.stored_set.proofs.Stable.{IsStable, all, both, cell_kind_code, each, equal, first_of, four, is_none, is_there, less, not, nothing, one_bool, one_number, one_page, place_code, record_code, second_of, three, unit}

-- ---- records

run : (from page count : ℕ) → IsStable (IsRun from page count)
run from page count t = record { begins = less _ _ (∥∥₁_map t (λ r. r.begins)); some = less _ _ (∥∥₁_map t (λ r. r.some)); ends = less _ _ (∥∥₁_map t (λ r. r.ends)) }

extent : (from : ℕ) (e : ExtentField) → IsStable (IsExtent from e)
extent from e t = record { run = run from e.page e.count (∥∥₁_map t (λ x. x.run)); volume = less _ _ (∥∥₁_map t (λ x. x.volume)); first = less _ _ (∥∥₁_map t (λ x. x.first)) }

no_extent : (e : ExtentField) → IsStable (NoExtent e)
no_extent e t = record {
  page = one_number _ _ (∥∥₁_map t (λ x. x.page));
  count = one_number _ _ (∥∥₁_map t (λ x. x.count));
  volume = one_number _ _ (∥∥₁_map t (λ x. x.volume));
  first = one_number _ _ (∥∥₁_map t (λ x. x.first));
}

no_hole : (h : HoleField) → IsStable (NoHole h)
no_hole h t = record { page = one_number _ _ (∥∥₁_map t (λ x. x.page)); count = one_number _ _ (∥∥₁_map t (λ x. x.count)) }

extent_or_none : (from : ℕ) (e : ExtentField) (es : List ExtentField) → IsStable (AreExtents (e.page + e.count) es) → (n : ℕ) → e.count ≡ n → IsStable ((IsExtent from e × AreExtents (e.page + e.count) es) ⊎ AllByRecursion NoExtent (e ∷ es))
extent_or_none from e es rest zero is = second_of (λ x. omega (arith, x.0.run.some, is)) (all NoExtent no_extent (e ∷ es))
extent_or_none from e es rest (suc n) is = first_of (λ x. omega (arith, x.0.count, is)) (both (extent from e) rest)

extents : (from : ℕ) (es : List ExtentField) → IsStable (AreExtents from es)
extents from [] = unit
extents from (e ∷ es) = extent_or_none from e es (extents (e.page + e.count) es) e.count refl

hole_or_none : (from : ℕ) (h : HoleField) (hs : List HoleField) → IsStable (AreHoles (h.page + h.count) hs) → (n : ℕ) → h.count ≡ n → IsStable ((IsRun from h.page h.count × AreHoles (h.page + h.count) hs) ⊎ AllByRecursion NoHole (h ∷ hs))
hole_or_none from h hs rest zero is = second_of (λ x. omega (arith, x.0.some, is)) (all NoHole no_hole (h ∷ hs))
hole_or_none from h hs rest (suc n) is = first_of (λ x. omega (arith, x.0.count, is)) (both (run from h.page h.count) rest)

holes : (from : ℕ) (hs : List HoleField) → IsStable (AreHoles from hs)
holes from [] = unit
holes from (h ∷ hs) = hole_or_none from h hs (holes (h.page + h.count) hs) h.count refl

dense : (es : List ExtentField) → IsStable (AreDense es)
dense es = both (extents 0 es) (all (λ (e : ExtentField). (e.count < 2 ^ 16) × (e.vol < 2 ^ 8)) (λ e. both (less _ _) (less _ _)) es)

source : (vol cell page : ℕ) → IsStable (IsSource vol cell page)
source zero cell page = first_of (λ x. omega (arith, x.0.0)) (three (one_number _ _) (one_number _ _) (one_number _ _))
source (suc vol) cell page = second_of (λ x. omega (arith, x.0)) (three (both (less _ _) (less _ _)) (less _ _) (less _ _))

pub allowed : (r : Record) → IsStable (Allowed r)
unfolding Allowed
allowed (written.Attributes kind uid gid flags size keep links birth unsynced) = λ t. (
  both (less _ _) (less _ _) (∥∥₁_map t (λ x. x.0)),
  less _ _ (∥∥₁_map t (λ x. x.1)),
  less _ _ (∥∥₁_map t (λ x. x.2)),
  less _ _ (∥∥₁_map t (λ x. x.3)),
  less _ _ (∥∥₁_map t (λ x. x.4)),
  less _ _ (∥∥₁_map t (λ x. x.5)),
  both (less _ _) (less _ _) (∥∥₁_map t (λ x. x.6)),
  less _ _ (∥∥₁_map t (λ x. x.7)),
  less _ _ (∥∥₁_map t (λ x. x.8)),
)
allowed (written.CloneFile vol cell page frozen) = both (source vol cell page) (less _ _)
allowed (written.Extents rows) = both (one_number _ _) (extents 0 rows)
allowed (written.ShortExtents rows) = both (one_number _ _) (extents 0 rows)
allowed (written.Holes rows) = both (one_number _ _) (holes 0 rows)
allowed (written.Pending what) = unit
allowed (written.UserQuota id files blocks) = three (less _ _) (less _ _) (less _ _)
allowed (written.GroupQuota id files blocks) = three (less _ _) (less _ _) (less _ _)
allowed (written.DirIndex vol page entries) = three (both (less _ _) (less _ _)) (less _ _) (less _ _)
allowed (written.Parent slot seq) = both (less _ _) (less _ _)
allowed (written.Stripe width mark vols) = four (less _ _) (less _ _) (one_number _ _) (all (λ v. v < 2 ^ 8) (λ v. less _ _) vols)
allowed (written.Volume vol pages bitmap_pages) = three (less _ _) (less _ _) (less _ _)
allowed (written.DenseExtents rows) = both (one_number _ _) (dense rows)
allowed (written.ShortDense rows) = both (one_number _ _) (dense rows)

rising : (low : ℕ) (rs : List Record) → IsStable (AreRising low rs)
rising low [] = unit
rising low (r ∷ rs) = both (less _ _) (rising (place_of r) rs)

records : (rs : List Record) → IsStable (AreRecords rs)
records rs t = record { allowed = all Allowed allowed rs (∥∥₁_map t (λ x. x.allowed)); rising = rising 0 rs (∥∥₁_map t (λ x. x.rising)) }

-- ---- cells

pub address : (vol cell page : ℕ) (at : Option CellAt) → IsStable (IsAddress vol cell page at)
address vol cell page None = three (one_number _ _) (one_number _ _) (one_number _ _)
address vol cell page (Some at) = both (three (less _ _) (less _ _) (less _ _)) (equal place_code _ _)

fileset : (n : ℕ) (of : Option ℕ) → IsStable (IsFileset n of)
fileset n None = one_number _ _
fileset n (Some f) = both (one_number _ _) (less _ _)

head : (bytes : List ℕ) (h : CellHead) (size : ℕ) → IsStable (HasHead bytes h size)
head bytes h size t = record {
  zero = one_number _ _ (∥∥₁_map t (λ x. x.zero));
  next = address _ _ _ h.next (∥∥₁_map t (λ x. x.next));
  slot = one_number _ _ (∥∥₁_map t (λ x. x.slot));
  seq = one_number _ _ (∥∥₁_map t (λ x. x.seq));
  fileset = fileset _ h.fileset (∥∥₁_map t (λ x. x.fileset));
  kind = one_number _ _ (∥∥₁_map t (λ x. x.kind));
  size = one_number _ _ (∥∥₁_map t (λ x. x.size));
  fits = less _ _ (∥∥₁_map t (λ x. x.fits));
  end = one_number _ _ (∥∥₁_map t (λ x. x.end));
}

pub cell_is : (bytes : List ℕ) (cell : Cell) → IsStable (IsCell bytes cell)
cell_is bytes cell t = record {
  head = head bytes cell.head _ (∥∥₁_map t (λ x. x.head));
  records = one_page _ _ (∥∥₁_map t (λ x. x.records));
  others = one_page _ _ (∥∥₁_map t (λ x. x.others));
  well_formed = records cell.records (∥∥₁_map t (λ x. x.well_formed));
}

some_same : {X : Type 0} (x y : X) → Some x ≡ Some y → x ≡ y
some_same x y e = cc

none_is_some : {X : Type 0} (x : X) → None ≡ Some x → ⊥
none_is_some x e = cc

pub stands : (pages : Pages) (at : CellAt) (cell : Cell) → IsStable (StandsAt pages at cell)
stands pages at cell t = by_bytes (cell_at pages at) refl
  where
    by_bytes : (o : Option (List ℕ)) → cell_at pages at ≡ o → StandsAt pages at cell
    by_bytes None is = absurd (nothing (∥∥₁_map t (λ s. none_is_some s.bytes (sym is ∙ s.there))))
    by_bytes (Some bytes) is = record { bytes = bytes; there = is; is = cell_is bytes cell (∥∥₁_map t (λ s. subst (λ b. IsCell b cell) (some_same s.bytes bytes (sym s.there ∙ is)) s.is)) }

follow : (pages : Pages) (h : CellHead) (cs : List PlacedCell) → IsStable (Follow pages h cs)
follow pages h [] = is_none h.next
follow pages h (c ∷ cs) = four (equal (coded_option place_code) _ _) (one_bool _ _) (stands pages c.at c.cell) (follow pages c.cell.head cs)

distinct : (cs : List PlacedCell) → IsStable (AreDistinct cs)
distinct [] = unit
distinct (c ∷ cs) = both not (distinct cs)

pub linked : (pages : Pages) (first : PlacedCell) (rest : List PlacedCell) → IsStable (AreLinked pages first rest)
linked pages first rest t = record {
  stands = stands pages first.at first.cell (∥∥₁_map t (λ x. x.stands));
  follow = follow pages first.cell.head rest (∥∥₁_map t (λ x. x.follow));
  distinct = distinct (first ∷ rest) (∥∥₁_map t (λ x. x.distinct));
}

-- ---- maps

fits : (count : ℕ) (first : RunPlace) → IsStable (FitsVolume count first)
fits count (place.At home) = less _ _
fits count place.Holes = unit

on_volume : (first : RunPlace) → IsStable (OnVolume first)
on_volume (place.At home) = both (less _ _) (less _ _)
on_volume place.Holes = unit

placed : (r : Run) → IsStable (IsPlaced r)
placed r t = record {
  is_run = record {
    some = less _ _ (∥∥₁_map t (λ x. x.is_run.some));
    ends = less _ _ (∥∥₁_map t (λ x. x.is_run.ends));
    homes = fits r.count r.first (∥∥₁_map t (λ x. x.is_run.homes));
  };
  volume = on_volume r.first (∥∥₁_map t (λ x. x.volume));
}

no_page_twice : (runs : List Run) → IsStable (NoPageTwice runs)
no_page_twice runs = each (λ page. times runs page ≤ 1) (λ page. less _ _)

one_map : (rs : List Record) → IsStable (AreOneMap rs)
one_map rs t = record { placed = all IsPlaced placed (runs_of rs) (∥∥₁_map t (λ x. x.placed)); once = no_page_twice (runs_of rs) (∥∥₁_map t (λ x. x.once)) }

map_record : (r : Record) → IsStable (IsMapRecord r)
map_record r t = record {
  has_rows = less _ _ (∥∥₁_map t (λ x. x.has_rows));
  allowed = allowed r (∥∥₁_map t (λ x. x.allowed));
  placed = all IsPlaced placed (runs_in r) (∥∥₁_map t (λ x. x.placed));
  once = no_page_twice (runs_in r) (∥∥₁_map t (λ x. x.once));
}

none_is_one : (r : Record) → [] ≡ r ∷ [] → ⊥
none_is_one r e = cc

two_are_one : (a b : Record) (rs : List Record) (r : Record) → a ∷ b ∷ rs ≡ r ∷ [] → ⊥
two_are_one a b rs r e = cc

one_same : (a b : Record) → a ∷ [] ≡ b ∷ [] → b ≡ a
one_same a b e = cc

has_map : (cell : Cell) (r : Record) → IsStable (HasMap cell r)
has_map cell r t = record { only = equal (coded_list record_code) _ _ (∥∥₁_map t (λ x. x.only)); is_map = map_record r (∥∥₁_map t (λ x. x.is_map)) }

map_cell : (cell : Cell) → IsStable (IsMapCell cell)
map_cell cell t = by_list cell.records refl
  where
    by_list : (rs : List Record) → cell.records ≡ rs → IsMapCell cell
    by_list [] is = absurd (nothing (∥∥₁_map t (λ m. none_is_one m.value (sym is ∙ m.only))))
    by_list (a ∷ []) is = record { value = a; only = is; is_map = map_record a (∥∥₁_map t (λ m. subst IsMapRecord (one_same a m.value (sym is ∙ m.only)) m.is_map)) }
    by_list (a ∷ b ∷ rs) is = absurd (nothing (∥∥₁_map t (λ m. two_are_one a b rs m.value (sym is ∙ m.only))))

-- ---- files

are_file : (pages : Pages) (first : PlacedCell) (rest : List PlacedCell) → IsStable (AreFile pages first rest)
are_file pages first rest t = by_list (map_records first.cell.records) refl
  where
    by_list : (rs : List Record) → map_records first.cell.records ≡ rs → AreFile pages first rest
    by_list [] is = absurd (nothing (∥∥₁_map t (λ f. none_is_one f.value (sym is ∙ f.map.only))))
    by_list (a ∷ []) is = record {
      links = linked pages first rest (∥∥₁_map t (λ f. f.links));
      primary = equal cell_kind_code _ _ (∥∥₁_map t (λ f. f.primary));
      attributes = is_there _ (∥∥₁_map t (λ f. f.attributes));
      value = a;
      map = has_map first.cell a (∥∥₁_map t (λ f. subst (HasMap first.cell) (one_same a f.value (sym is ∙ f.map.only)) f.map));
      others = all (λ (c : PlacedCell). IsMapCell c.cell) (λ c. map_cell c.cell) rest (∥∥₁_map t (λ f. f.others));
      one_map = one_map (records_of (first ∷ rest)) (∥∥₁_map t (λ f. f.one_map));
    }
    by_list (a ∷ b ∷ rs) is = absurd (nothing (∥∥₁_map t (λ f. two_are_one a b rs f.value (sym is ∙ f.map.only))))

pub is_file : (pages : Pages) (at : CellAt) (cs : List PlacedCell) → IsStable (IsFile pages at cs)
is_file pages at [] = nothing
is_file pages at (first ∷ rest) = both (equal place_code _ _) (are_file pages first rest)
