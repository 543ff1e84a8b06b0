-- The first page of cells of a new domain.
use Rattle.std.proofs.Common.{◌≡◌, ◌∙◌, ◌&&◌, ◌==◌, ℕ, ◌^◌, ◌<◌, ◌≤◌, cond, true, false, nat_lt, List, [], ◌∷◌, Option, Some, None, IfSome, IsSomeAnd, length, length-append, refl, sym, ap, subst, arith}
use Rattle.std.proofs.lemmas.Bool.{and_right, lt-ltb, ne_eqb}
use Rattle.std.specs.Option.{option_and_then, option_map}
use Rattle.domain_layout.specs.domain_base.Version.{bitmap_pages}
use Rattle.domain_layout.specs.domain_base.declared.place.CellAt.{CellAt}
use Rattle.domain_layout.specs.domain_base.declared.place.Home.{Home}
use Rattle.domain_layout.specs.domain_base.declared.version.Version.{Version}
use Rattle.domain_layout.specs.domain_base.declared.version.Version.TheVariants.{Three, Four}
use Rattle.domain_layout.specs.page_store.Pages.{Pages, with_page}
use Rattle.domain_layout.specs.cell_records.Records.{Allowed, spelling}
use Rattle.domain_layout.specs.cell_records.declared.record.Record.{Record}
use Rattle.domain_layout.specs.cell_records.declared.record.Record.TheVariants as written
use Rattle.domain_layout.proofs.OfCellRecords.WholeRecord.{length-spelling}
use Rattle.domain_layout.specs.metadata_cells.Cell.{AreRecords, Cell, IsCell, IsFreeCell, spellings}
use Rattle.domain_layout.specs.metadata_cells.CellPage.{HasPlace, IsCellPage, IsEmptyPage, KeepsHeaders, KeepsWellFormed, cell_at, cell_of, header, home_of, index_of, is_cell_page, next_of}
use Rattle.domain_layout.specs.metadata_cells.Chain.{LeavesOthers, StandsAt, is_at}
use Rattle.domain_layout.specs.metadata_cells.declared.head.CellKind.TheVariants.{Volume}
use Rattle.domain_layout.proofs.OfMetadataCells.Changed.{same_itself}
use Rattle.domain_layout.specs.NewDomain.{IsNewCells}
use Rattle.domain_layout.proofs.OnePage.{HasOne, one_of, some_same}
use Rattle.domain_making.specs.Making.{new_frame}

-- ---- the record

module _ (version : Version) (pages : ℕ) (small : pages < 2 ^ 32) (records : List Record) (says : records ≡ written.Volume 1 pages (bitmap_pages version pages) ∷ []) where
  says_volume : List Record
  says_volume = written.Volume 1 pages (bitmap_pages version pages) ∷ []

  allowed : Allowed (written.Volume 1 pages (bitmap_pages version pages))
  unfolding Allowed
  allowed = (omega arith, small, small_bitmap version)
    where
      small_bitmap : (v : Version) → bitmap_pages v pages < 2 ^ 32
      small_bitmap Three = omega arith
      small_bitmap Four = omega (arith, small)

  pub are_records : AreRecords records
  are_records = subst AreRecords (sym says) (record { allowed = (allowed, tt); rising = (omega arith, tt) })

  pub few_bytes : length (spellings records) ≤ 272
  few_bytes =
      let one = length-spelling (written.Volume 1 pages (bitmap_pages version pages)) allowed in
      let all = length-append (spelling (written.Volume 1 pages (bitmap_pages version pages))) [] in
      let same = ap (λ rs. length (spellings rs)) says in
      omega (arith, one, all, same)

-- ---- one page

cell_there : (pages : Pages) (at : CellAt) (page : List ℕ) → pages (home_of at) ≡ Some page → is_cell_page page ≡ true → at.cell < 28 → cell_at pages at ≡ Some (cell_of page at.cell)
cell_there pages at page there begins within =
    let less : nat_lt at.cell 28 ≡ true = lt-ltb at.cell 28 within in
    ap (option_and_then (λ p. cond (is_cell_page p && nat_lt at.cell 28) (Some (cell_of p at.cell)) None)) there
    ∙ (λ i. cond (begins i && less i) (Some (cell_of page at.cell)) None)

pub has_place : (pages : Pages) (at : CellAt) → IsSomeAnd (pages (home_of at)) (IsEmptyPage 0) → at.cell < 28 → HasPlace pages at
has_place pages at free within =
    let one = one_of (pages (home_of at)) (IsEmptyPage 0) free in
    (subst (λ o. IsSomeAnd o (λ page. is_cell_page page ≡ true)) (sym one.there) one.is.good.magic, within)

-- a page that was put is there
pub put_there : (old new : Pages) (home : Home) (page : List ℕ) → IsEmptyPage 0 page → new ≡ with_page home page old → IsSomeAnd (new home) (IsEmptyPage 0)
put_there old new home page empty is =
    subst (λ o. IsSomeAnd o (IsEmptyPage 0)) (sym (ap (λ (p : Pages). p home) is ∙ ap (λ b. cond b (Some page) (old home)) (same_itself home))) empty

-- a page stands where one with the same header stood
pub record IsThere (found : Option (List ℕ)) (page : List ℕ) : Type 0 where
  pub value : List ℕ
  pub there : found ≡ Some value
  pub index : index_of value ≡ index_of page
  pub next : next_of value ≡ next_of page

still_there : (found : Option (List ℕ)) (page : List ℕ) → option_map header found ≡ Some (header page) → IsThere found page
still_there None page same = absurd (cc)
still_there (Some value) page same =
    let headers : header value ≡ header page = some_same (header value) (header page) same in
    record { value = value; there = refl; index = ap (λ h. h.0) headers; next = ap (λ h. h.1) headers }

module _ (version : Version) (pages vol number : ℕ) (old new : Pages) where
  abbrev place : ℕ → CellAt
  place cell = record { vol = vol; page = number; cell = cell }

  abbrev home : Home
  home = record { vol = vol; page = number }

  abbrev volume_cell : List Record → Cell
  volume_cell records = record {
    head = record { next = None; slot = 0; seq = 0; fileset = None; kind = Volume };
    records = records;
  }

  module _ (records : List Record) (says : records ≡ written.Volume 1 pages (bitmap_pages version pages) ∷ []) (free : IsSomeAnd (old home) (IsEmptyPage 0)) (stands : StandsAt new (place 0) (volume_cell records))
      (others : LeavesOthers (is_at (place 0)) old new) (formed : KeepsWellFormed old new) (headers : KeepsHeaders old new) where
    was : HasOne (old home) (IsEmptyPage 0)
    was = one_of (old home) (IsEmptyPage 0) free

    is : IsThere (new home) was.value
    is = still_there (new home) was.value (headers home ∙ ap (option_map header) was.there)

    good : IsCellPage is.value
    good = subst (λ o. IfSome o IsCellPage) is.there (formed home (subst (λ o. IfSome o IsCellPage) (sym was.there) was.is.good))

    first : IsCell (cell_of is.value 0) (volume_cell records)
    first =
        let same : stands.bytes ≡ cell_of is.value 0 = some_same stands.bytes (cell_of is.value 0) (sym stands.there ∙ cell_there new (place 0) is.value is.there good.magic (omega arith)) in
        subst (λ bytes. IsCell bytes (volume_cell records)) same stands.is

    other_free : (cell : ℕ) → 0 < cell → cell < 28 → IsFreeCell (cell_of is.value cell)
    other_free cell some within =
        let apart : (0 == cell) ≡ false = ne_eqb 0 cell (λ same. omega (arith, same, some)) in
        let beside : is_at (place 0) (place cell) ≡ false = and_right (vol == vol) _ (and_right (number == number) (0 == cell) apart) in
        let same = others (place cell) beside in
        some_same (cell_of is.value cell) (cell_of was.value cell)
        (sym (cell_there new (place cell) is.value is.there good.magic within) ∙ same ∙ cell_there old (place cell) was.value was.there was.is.good.magic within)
        ∙ was.is.free cell within

    new_page : IsNewCells (new_frame version pages) is.value
    new_page = record {
      good = good;
      indexed = is.index ∙ was.is.indexed;
      last = is.next ∙ was.is.last;
      cell = volume_cell records;
      first = first;
      says = record { kind = refl; alone = refl; says = says };
      free = other_free;
    }

    pub is_new_cells : IsSomeAnd (new home) (IsNewCells (new_frame version pages))
    is_new_cells = subst (λ o. IsSomeAnd o (IsNewCells (new_frame version pages))) (sym is.there) new_page
