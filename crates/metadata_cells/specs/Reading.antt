-- What reading a cell's records answers.
use Rattle.std.specs.Prelude.{◌≡◌, ◌≢◌, ◌⊎◌, ◌++◌, ℕ, Bool, true, false, List, Option, Some, None}
use Rattle.cell_records.specs.declared.record.Record.{Record}
use Rattle.metadata_cells.specs.declared.head.CellHead.{CellHead}
use Rattle.metadata_cells.specs.declared.head.CellKind.{CellKind}
use Rattle.metadata_cells.specs.declared.chain.ChainFault.{ChainFault}
use Rattle.metadata_cells.specs.declared.chain.ChainFault.TheVariants.{Broken, OutOfMemory}
use Rattle.metadata_cells.specs.Cell.{AreRecords, Cell, IsCell, spellings}
use Rattle.metadata_cells.specs.Chain.{StandsAt, HasHeadAt, may_follow, PlacedCell, IsChain, IsBroken, records_of}
use Rattle.page_store.specs.Pages.{Pages}
use Rattle.page_store.specs.domain_base.declared.place.CellAt.{CellAt}

-- true, and the records that the bytes are were appended; or false, and they are none that a cell
-- may have
abbrev pub ReadsRecords : List ℕ → List Record → List Record → Bool → Type 0
ReadsRecords bytes old new true = (records : List Record) × (new ≡ old ++ records)
    × (bytes ≡ spellings records) × AreRecords records
ReadsRecords bytes old new false = (records : List Record) → AreRecords records
    → bytes ≢ spellings records

-- a head, and the records of the cell with it were appended; or none, and no cell in use has these
-- bytes
abbrev pub ReadsCell : List ℕ → List Record → List Record → Option CellHead → Type 0
ReadsCell bytes old new (Some head) =
    (records : List Record) × (new ≡ old ++ records)
    × IsCell bytes (record { head = head; records = records })
ReadsCell bytes old new None = (cell : Cell) → ¬ IsCell bytes cell

-- the cell in use that stands there, and its records were appended; or none, and none stands there
abbrev pub ReadsAt : Pages → CellAt → List Record → List Record → Option CellHead → Type 0
ReadsAt pages at old new (Some head) =
    (records : List Record) × (new ≡ old ++ records)
    × StandsAt pages at (record { head = head; records = records })
ReadsAt pages at old new None = (cell : Cell) → ¬ StandsAt pages at cell

-- whether a cell may lead to the one at an address, which was passed already if `passed` is true
abbrev pub LeadsOn : Pages → Bool → CellKind → CellAt → Bool → Type 0
LeadsOn pages passed kind at true = (passed ≡ false)
    × ((head : CellHead) × HasHeadAt pages at head × (may_follow kind head.kind ≡ true))
LeadsOn pages passed kind at false = (passed ≡ true)
    ⊎ ((head : CellHead) → HasHeadAt pages at head → may_follow kind head.kind ≡ false)

-- the records of the chain from a place on
abbrev pub ReadsChain : Pages → CellAt → List Record → Type 0
ReadsChain pages start records = (cells : List PlacedCell) × IsChain pages start cells
    × (records ≡ records_of cells)

-- it is broken where it is said to be; memory may be short anywhere
abbrev pub IsBrokenThere : Pages → CellAt → ChainFault → Type 0
IsBrokenThere pages start (Broken at) = IsBroken pages start at
IsBrokenThere pages start OutOfMemory = Unit {0}
