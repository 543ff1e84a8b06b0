-- A slot of a domain's fileset table, set anew by a change.
use Rattle.std.specs.Prelude.{◌≡◌, ℕ, Some, IsSome, IsSomeAnd, slice_get}
use Rattle.domain_memory.specs.domain_base.declared.place.Home.{Home}
use Rattle.domain_memory.specs.fileset_table.Page.{IsTablePage}
use Rattle.domain_memory.specs.fileset_table.Table.{with_slot}
use Rattle.domain_memory.specs.fileset_table.declared.slot.FilesetEntry.{FilesetEntry}
use Rattle.domain_memory.specs.fileset_table.declared.slot.SlotItem.{SlotItem}
use Rattle.domain_memory.specs.fileset_table.declared.slot.SlotItem.TheVariants as slot
use Rattle.domain_memory.specs.staged_pages.Store.{before_of, pages_of}
use Rattle.domain_memory.specs.declared.memory.DomainMemory.{DomainMemory}

-- the page of the table stands where the anchor says
abbrev pub HasTablePage : DomainMemory → Type 0
HasTablePage memory = IsSomeAnd memory.frame.anchor.table
    (λ home. IsSome (pages_of memory.pages home))

-- a slot has the original
abbrev pub HasOriginal : DomainMemory → ℕ → FilesetEntry → Type 0
HasOriginal memory number entry = slice_get memory.table.slots number ≡ Some (slot.Original entry)

-- a slot of the table has the item, and what it had is known; the table's page says the table, and
-- no other page changes, nor anything else
pub record PutsSlot (number : ℕ) (item : SlotItem) (old new : DomainMemory) : Type 0 where
  pub had : SlotItem
  pub in_slot : slice_get old.table.slots number ≡ Some had
  pub table : new.table ≡ with_slot number item old.table
  pub was : new.was ≡ Some (record { number = number; item = had })
  pub says : (home : Home) → old.frame.anchor.table ≡ Some home
      → IsSomeAnd (pages_of new.pages home) (λ page. IsTablePage page new.table)
  pub others : (home : Home) → ¬ old.frame.anchor.table ≡ Some home
      → pages_of new.pages home ≡ pages_of old.pages home
  pub before : before_of new.pages ≡ before_of old.pages
  pub same : new ≡ record old { pages = new.pages; table = new.table; was = new.was }
