-- What was kept of a domain's memory, over which a change is laid.
use Rattle.std.specs.Prelude.{◌≡◌, ℕ, Some}
use Rattle.standing_laws.specs.free_space.Spaces.{kept_spaces, volume_of}
use Rattle.standing_laws.specs.free_cells.Cells.{is_closed, kept_of}
use Rattle.standing_laws.specs.fileset_table.declared.slot.FilesetEntry.{FilesetEntry}
use Rattle.standing_laws.specs.fileset_table.declared.slot.SlotItem.TheVariants as slot
use Rattle.staged_pages.specs.Store.{before_of}
use Rattle.standing_laws.specs.domain_standing.Domain.{item_in}
use Rattle.domain_memory.specs.Slots.{kept_places, slot_in}
use Rattle.domain_memory.specs.Memory.{books_in, kept_in, with_was}
use Rattle.domain_memory.specs.declared.memory.DomainMemory.{DomainMemory}

-- all is as it was that a change which is taken back comes back to: of books those of originals. How
-- often no page was found is not taken back
pub record KeepsKept (old new : DomainMemory) : Type 0 where
  pub frame : new.frame ≡ old.frame
  pub table : with_was new.was new.table ≡ with_was old.was old.table
  pub places : (number : ℕ) → kept_places (slot_in new.slots.items number)
      ≡ kept_places (slot_in old.slots.items number)
  pub books : (number : ℕ) (entry : FilesetEntry)
      → item_in (kept_in old) number ≡ Some (slot.Original entry)
      → books_in new number ≡ books_in old number
  pub pages : before_of new.pages ≡ before_of old.pages
  pub spaces : (vol : ℕ) → volume_of (kept_spaces new.space) vol
      ≡ volume_of (kept_spaces old.space) vol
  pub cells : (vol : ℕ) → kept_of new.cells vol ≡ kept_of old.cells vol
  pub marks : (vol : ℕ) → is_closed new.cells vol ≡ is_closed old.cells vol
  pub list : new.list.list ≡ old.list.list
