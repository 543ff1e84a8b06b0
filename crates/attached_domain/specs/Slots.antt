-- What is in the slots of the fileset table, as it is read of pages.
use Rattle.std.specs.Prelude.{◌≡◌, ℕ, List, length, Option, Some, IfSome, slice_get}
use Rattle.no_faults.specs.page_store.Pages.{Pages}
use Rattle.no_faults.specs.fileset_table.Table.{Table}
use Rattle.no_faults.specs.fileset_table.declared.slot.SlotItem.{SlotItem}
use Rattle.no_faults.specs.quota_book.Book.{empty_book}
use Rattle.no_faults.specs.domain_layout.Layout.{AreTagPlaces, first_tag_of}
use Rattle.no_faults.specs.domain_memory.Slots.{HasNumber, book_in, places_in}
use Rattle.no_faults.specs.domain_memory.declared.slots.SlotFiles.{SlotFiles}
use Rattle.attached_domain.specs.Read.{IsSettledSlot}

-- it has the tag directory that what is in the slot says, and an empty book
pub record IsReadSlot (pages : Pages) (item : SlotItem) (slot : Option SlotFiles) : Type 0 where
  pub places : AreTagPlaces pages (first_tag_of item) (places_in slot)
  pub settled : IfSome slot IsSettledSlot
  pub book : book_in slot ≡ empty_book

-- this is what was read of a slot of a table, with its number
pub record IsReadOf (pages : Pages) (table : Table) (number : ℕ) (slot : Option SlotFiles) : Type 0
  where
    pub item : SlotItem
    pub there : slice_get table.slots number ≡ Some item
    pub is : IsReadSlot pages item slot
    pub numbered : IfSome slot (HasNumber number)

-- a list has what was read of each slot of a table
pub record AreReadSlots (pages : Pages) (table : Table) (slots : List (Option SlotFiles)) : Type 0
  where
    pub count : length slots ≡ 32
    pub each : (number : ℕ) (slot : Option SlotFiles) → slice_get slots number ≡ Some slot
        → IsReadOf pages table number slot
