-- The page of the fileset table: 16 bytes, and 32 slots of 128 bytes.
use Rattle.std.specs.Prelude.{◌≡◌, ◌+◌, ◌*◌, ◌<◌, ℕ, List, length, take, drop, IsSomeAnd, slice_get}
use Rattle.metadata_cells.specs.cell_records.Fields.{number_at}
use Rattle.fileset_table.specs.declared.slot.SlotItem.{SlotItem}
use Rattle.fileset_table.specs.Slot.{IsSlot}
use Rattle.fileset_table.specs.Table.{IsTable, Table}

-- the bytes of a slot
abbrev pub slot_bytes : List ℕ → ℕ → List ℕ
slot_bytes page number = take 128 (drop (16 + 128 * number) page)

-- the page begins as one of a table: `FSTB`, and a zero
pub record HasHeader (page : List ℕ) : Type 0 where
  pub magic : number_at 4 0 page ≡ 0x42545346
  pub zero : number_at 4 4 page ≡ 0

-- the page says the slots
pub record AreSlots (page : List ℕ) (slots : List SlotItem) : Type 0 where
  pub whole : length slots ≡ 32
  pub said : (number : ℕ) → number < 32
      → IsSomeAnd (slice_get slots number) (IsSlot (slot_bytes page number))

-- the page says the table: it begins as one, and has how many clones were made, and the slots
pub record IsTablePage (page : List ℕ) (table : Table) : Type 0 where
  pub header : HasHeader page
  pub made : number_at 8 8 page ≡ table.made
  pub slots : AreSlots page table.slots
  pub good : IsTable table
