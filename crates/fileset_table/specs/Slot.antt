-- What a slot of the fileset table has, and the 128 bytes that say it.
use Rattle.std.specs.Prelude.{◌≡◌, ◌-◌, ◌≤◌, ℕ, true, List, ◌++◌, take, drop, length, Option, Some, None}
use Rattle.metadata_cells.specs.domain_base.Page.{zero_bytes}
use Rattle.metadata_cells.specs.domain_base.declared.place.CellAt.{CellAt}
use Rattle.metadata_cells.specs.domain_base.declared.place.Home.{Home}
use Rattle.metadata_cells.specs.cell_records.Fields.{number_at}
use Rattle.metadata_cells.specs.Cell.{IsAddress, IsFileset}
use Rattle.word_forms.specs.Forms.{is_fileset_name}
use Rattle.fileset_table.specs.declared.slot.FilesetEntry.{FilesetEntry}
use Rattle.fileset_table.specs.declared.slot.SlotItem.{SlotItem}
use Rattle.fileset_table.specs.declared.slot.SlotItem.TheVariants.{Free, Original, Clone, Removed}

-- the numbers of a home: a volume from 1 to 8 and a page of it; volume 0 is none, whatever the page
abbrev pub IsHome : ℕ → ℕ → Option Home → Type 0
IsHome vol page None = vol ≡ 0
IsHome vol page (Some home) = ((1 ≤ vol) × (vol ≤ 8)) × (home ≡ record { vol = vol; page = page })

-- the name: of the form of fileset names, with its length before it and zeros after it
pub record IsNamed (bytes : List ℕ) (name : List ℕ) : Type 0 where
  pub form : is_fileset_name name ≡ true
  pub size : number_at 1 1 bytes ≡ length name
  pub spelled : take 31 (drop 2 bytes) ≡ name ++ zero_bytes (31 - length name)

-- the first page of the tag directory, if there is one
abbrev pub HasFirstTag : List ℕ → Option Home → Type 0
HasFirstTag bytes = IsHome (number_at 4 56 bytes) (number_at 4 60 bytes)

-- the first quota cell, if there is one
pub record HasQuota (bytes : List ℕ) (quota : Option CellAt) : Type 0 where
  pub zero : number_at 2 80 bytes ≡ 0
  pub address : IsAddress (number_at 1 82 bytes) (number_at 1 83 bytes) (number_at 4 84 bytes) quota

-- a fileset
pub record IsEntry (bytes : List ℕ) (entry : FilesetEntry) : Type 0 where
  pub named : IsNamed bytes entry.name
  pub first_tag : HasFirstTag bytes (Some entry.first_tag)
  pub files_limit : number_at 8 64 bytes ≡ entry.files_limit
  pub blocks_limit : number_at 8 72 bytes ≡ entry.blocks_limit
  pub quota : HasQuota bytes entry.quota

-- a slot: its state first; an original names no original, and a clone names one
abbrev pub IsSlot : List ℕ → SlotItem → Type 0
IsSlot bytes Free = number_at 1 0 bytes ≡ 0
IsSlot bytes (Original entry) =
    (number_at 1 0 bytes ≡ 1) × IsFileset (number_at 4 40 bytes) None × IsEntry bytes entry
IsSlot bytes (Clone original number entry) =
    (number_at 1 0 bytes ≡ 2) × IsFileset (number_at 4 40 bytes) (Some original)
    × (number_at 8 48 bytes ≡ number) × IsEntry bytes entry
IsSlot bytes (Removed first_tag quota) =
    (number_at 1 0 bytes ≡ 3) × HasFirstTag bytes first_tag × HasQuota bytes quota
