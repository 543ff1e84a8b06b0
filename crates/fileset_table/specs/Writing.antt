-- What the parts of a slot are once they are written, and what a page is once one slot of it is.
use Rattle.std.specs.Prelude.{◌≡◌, ◌+◌, ◌-◌, ◌≤◌, ℕ, List, [], ◌∷◌, ◌++◌, length, take, drop}
use Rattle.metadata_cells.specs.domain_base.Page.{zero_bytes}
use Rattle.metadata_cells.specs.cell_records.Fields.{number_at}
use Rattle.metadata_cells.specs.Cell.{IsAddress}
use Rattle.fileset_table.specs.declared.slot.SlotItem.{SlotItem}
use Rattle.fileset_table.specs.declared.writing.SlotNumbers.{SlotNumbers}
use Rattle.fileset_table.specs.Slot.{IsHome, IsSlot}
use Rattle.fileset_table.specs.Page.{slot_bytes}

-- the widths of the numbers after the name
abbrev pub number_widths : List ℕ
number_widths = 4 ∷ 4 ∷ 8 ∷ 4 ∷ 4 ∷ 8 ∷ 8 ∷ 2 ∷ 1 ∷ 1 ∷ 4 ∷ []

-- the numbers, with zeros where nothing is said and before the address
abbrev pub number_list : ℕ → ℕ → ℕ → ℕ → ℕ → ℕ → ℕ → ℕ → ℕ → List ℕ
number_list original number vol page files blocks quota_vol quota_cell quota_page =
    original ∷ 0 ∷ number ∷ vol ∷ page ∷ files ∷ blocks ∷ 0 ∷ quota_vol ∷ quota_cell ∷ quota_page
    ∷ []

-- the numbers after the name
pub record HasNumbers (bytes : List ℕ) (numbers : SlotNumbers) : Type 0 where
  pub original : number_at 4 0 bytes ≡ numbers.original
  pub number : number_at 8 8 bytes ≡ numbers.number
  pub first_tag : IsHome (number_at 4 16 bytes) (number_at 4 20 bytes) numbers.first_tag
  pub files_limit : number_at 8 24 bytes ≡ numbers.files_limit
  pub blocks_limit : number_at 8 32 bytes ≡ numbers.blocks_limit
  pub zero : number_at 2 40 bytes ≡ 0
  pub quota : IsAddress (number_at 1 42 bytes) (number_at 1 43 bytes) (number_at 4 44 bytes)
      numbers.quota

-- the state, the name and these numbers
pub record HasParts (state : ℕ) (name : List ℕ) (numbers : SlotNumbers) (bytes : List ℕ) : Type 0
  where
    pub begins : number_at 1 0 bytes ≡ state
    pub size : number_at 1 1 bytes ≡ length name
    pub spelled : take 31 (drop 2 bytes) ≡ name ++ zero_bytes (31 - length name)
    pub behind : HasNumbers (drop 40 bytes) numbers

-- one slot of a page was written: all other slots stay, and what stands before and after them
pub record SetsSlot (number : ℕ) (item : SlotItem) (old new : List ℕ) : Type 0 where
  pub there : IsSlot (slot_bytes new number) item
  pub others : (k : ℕ) → ¬ k ≡ number → slot_bytes new k ≡ slot_bytes old k
  pub header : (w at : ℕ) → at + w ≤ 16 → number_at w at new ≡ number_at w at old
  pub rest : drop 4112 new ≡ drop 4112 old
