-- What stands in a cell, a piece of 292 bytes of a page of the bitfile metadata table.
use Rattle.std.specs.Prelude.{◌≡◌, ◌==◌, ◌⊎◌, ◌+◌, ◌-◌, ◌*◌, ◌^◌, ◌<◌, ◌≤◌, ℕ, List, [], ◌∷◌, take, drop, length, Option, Some, None, if◌then◌else◌}
use Rattle.std.specs.List.{flat_map, AllByRecursion}
use Rattle.page_store.specs.domain_base.Page.{zero_bytes}
use Rattle.page_store.specs.domain_base.declared.place.CellAt.{CellAt}
use Rattle.cell_records.specs.declared.record.Record.{Record}
use Rattle.cell_records.specs.declared.record.Record.TheVariants.{UserQuota, GroupQuota}
use Rattle.cell_records.specs.Records.{Allowed, kind_of, spelling}
use Rattle.cell_records.specs.Fields.{number_at}
use Rattle.metadata_cells.specs.declared.head.CellHead.{CellHead}
use Rattle.metadata_cells.specs.declared.head.CellKind.{CellKind}
use Rattle.metadata_cells.specs.declared.head.CellKind.TheVariants.{Primary, Chain, Quota, Volume}

-- the number that stands for a kind; a free cell has 0
abbrev pub kind_number : CellKind → ℕ
kind_number Primary = 1
kind_number Chain = 2
kind_number Quota = 3
kind_number Volume = 4

-- the numbers of an address: a volume from 1 to 8, a page and a cell of it; three zeros are none
abbrev pub IsAddress : ℕ → ℕ → ℕ → Option CellAt → Type 0
IsAddress vol cell page None = (vol ≡ 0) × (cell ≡ 0) × (page ≡ 0)
IsAddress vol cell page (Some at) = ((1 ≤ vol) × (vol ≤ 8) × (cell ≤ 27))
    × (at ≡ record { vol = vol; page = page; cell = cell })

-- a fileset's number and 1 more; 0 is none
abbrev pub IsFileset : ℕ → Option ℕ → Type 0
IsFileset n None = n ≡ 0
IsFileset n (Some fileset) = (n ≡ fileset + 1) × (n ≤ 32)

-- a cell in use begins with this head, and its records have `bytes` bytes
pub record HasHead (cell : List ℕ) (head : CellHead) (bytes : ℕ) : Type 0 where
  pub zero : number_at 2 0 cell ≡ 0
  pub next : IsAddress (number_at 1 2 cell) (number_at 1 3 cell) (number_at 4 4 cell) head.next
  pub slot : head.slot ≡ number_at 4 8 cell
  pub seq : head.seq ≡ number_at 2 12 cell
  pub fileset : IsFileset (number_at 1 14 cell) head.fileset
  pub kind : number_at 1 15 cell ≡ kind_number head.kind
  pub size : number_at 2 16 cell ≡ bytes
  pub fits : bytes ≤ 272
  pub end : number_at 2 18 cell ≡ 0

-- records rise by kind, and limits of quotas, which may stand more than once, by kind and id
abbrev pub id_of : Record → ℕ
id_of (UserQuota id files blocks) = id
id_of (GroupQuota id files blocks) = id
id_of _ = 0

-- the order of records in a cell: by kind, and limits of quotas by id
abbrev pub place_of : Record → ℕ
place_of r = 2 ^ 32 * kind_of r + id_of r

abbrev pub AreRising : ℕ → List Record → Type 0
AreRising place [] = Unit {0}
AreRising place (r ∷ rs) = (place < place_of r) × AreRising (place_of r) rs

-- records that a cell may have
pub record AreRecords (records : List Record) : Type 0 where
  pub allowed : AllByRecursion Allowed records
  pub rising : AreRising 0 records

abbrev pub spellings : List Record → List ℕ
spellings records = flat_map spelling records

-- a cell in use: its head and its records
pub record Cell : Type 0 where
  pub head : CellHead
  pub records : List Record

-- the bytes are that cell: the head, the records one after the other, and zeros
pub record IsCell (bytes : List ℕ) (cell : Cell) : Type 0 where
  pub head : HasHead bytes cell.head (length (spellings cell.records))
  pub records : take (length (spellings cell.records)) (drop 20 bytes) ≡ spellings cell.records
  pub others : drop (20 + length (spellings cell.records)) bytes ≡ zero_bytes
      (272 - length (spellings cell.records))
  pub well_formed : AreRecords cell.records

-- the first record of a kind, if there is one
abbrev pub record_of : ℕ → List Record → Option Record
record_of kind [] = None
record_of kind (r ∷ rs) = if kind_of r == kind then Some r else record_of kind rs

-- a free cell is zeros
abbrev pub IsFreeCell : List ℕ → Type 0
IsFreeCell bytes = bytes ≡ zero_bytes 292

-- a well-formed cell is free or in use
abbrev pub IsFreeOrUsed : List ℕ → Type 0
IsFreeOrUsed bytes = IsFreeCell bytes ⊎ ((cell : Cell) × IsCell bytes cell)
