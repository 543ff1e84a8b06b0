-- What is read of a domain besides its pages.
use Rattle.std.specs.Prelude.{◌≡◌, ℕ, List, Option, Some, IfSome, IsSome, length, slice_get}
use Rattle.no_faults.specs.page_store.Pages.{Pages}
use Rattle.no_faults.specs.fileset_table.Table.{Table}
use Rattle.no_faults.specs.fileset_table.declared.slot.FilesetEntry.{FilesetEntry}
use Rattle.no_faults.specs.fileset_table.declared.slot.SlotItem.TheVariants as slot
use Rattle.no_faults.specs.domain_layout.Layout.{Layout}
use Rattle.no_faults.specs.domain_layout.Reached.{Frame}
use Rattle.no_faults.specs.domain_memory.Slots.{HasNumber, kept_book, places_in, slot_in}
use Rattle.no_faults.specs.domain_memory.declared.slots.SlotFiles.{SlotFiles}
use Rattle.attached_domain.specs.Books.{IsBookOfSlot}
use Rattle.attached_domain.specs.Read.{IsReadAs, IsSettledSlot, MayBeAttached}
use Rattle.attached_domain.specs.declared.parts.DomainParts.{DomainParts}

-- an original's book is what its slot was last kept with
abbrev pub HasItsBook : Pages → Table → ℕ → Option SlotFiles → Type 0
HasItsBook pages table number there = (entry : FilesetEntry)
    → slice_get table.slots number ≡ Some (slot.Original entry) → IsSome there
    → IsBookOfSlot pages number entry (kept_book there)

-- what is in a slot stays, but that an original gets its book
pub record GetsItsBook (pages : Pages) (table : Table) (number : ℕ) (old new : Option SlotFiles)
    : Type 0 where
  pub there : IsSome old → IsSome new
  pub places : places_in new ≡ places_in old
  pub settled : IfSome old IsSettledSlot → IfSome new IsSettledSlot
  pub numbered : IfSome old (HasNumber number) → IfSome new (HasNumber number)
  pub book : HasItsBook pages table number new

-- and so what is in each slot
pub record GetTheirBooks (pages : Pages) (table : Table) (old new : List (Option SlotFiles))
    : Type 0 where
  pub count : length new ≡ length old
  pub each : (number : ℕ) → GetsItsBook pages table number (slot_in old number) (slot_in new number)

-- it is what pages say that may be attached, with the book of each original
pub record AreParts (pages : Pages) (frame : Frame) (parts : DomainParts) : Type 0 where
  pub layout : Layout
  pub may : MayBeAttached pages layout
  pub read : IsReadAs pages frame parts.table parts.links parts.slots.items layout
  pub books : (number : ℕ) (entry : FilesetEntry)
      → slice_get layout.table.slots number ≡ Some (slot.Original entry)
      → IsBookOfSlot pages number entry (kept_book (slot_in parts.slots.items number))
