-- The book of a fileset of a domain's memory, changed by a call.
use Rattle.std.specs.Prelude.{◌≡◌, ℕ, Option, slice_set}
use Rattle.domain_memory.specs.quota_book.Book.{Book}
use Rattle.domain_memory.specs.Slots.{ChangesSlot, slot_in}
use Rattle.domain_memory.specs.declared.slots.SlotFiles.{SlotFiles}
use Rattle.domain_memory.specs.Staged.{staged_books}
use Rattle.domain_memory.specs.declared.memory.DomainMemory.{DomainMemory}

-- what is in a slot has a book that `change` has changed, and all else of it is as it was
pub record ChangesBook (change : Book → Book → Type 0) (old new : SlotFiles) : Type 0 where
  pub files : new.files ≡ old.files
  pub tag_pages : new.tag_pages ≡ old.tag_pages
  pub kept : new.book.kept ≡ old.book.kept
  pub book : change old.book.book new.book.book

-- what is in the slot with this number has changed in this way, and nothing else changes
pub record ChangesInBook (number : ℕ) (change : Book → Book → Type 0) (old new : DomainMemory)
    : Type 0 where
  pub slot : Option SlotFiles
  pub changed : ChangesSlot (ChangesBook change) (slot_in old.slots.items number) slot
  pub slots : new.slots.items ≡ slice_set old.slots.items number slot
  pub same : new ≡ record old { slots = new.slots }

-- of a domain's books that of one fileset has changed so, and no fileset comes or goes
pub record ChangesOneBook (number : ℕ) (change : Book → Book → Type 0) (old new : DomainMemory)
    : Type 0 where
  pub table : new.table ≡ old.table
  pub book : change (staged_books old number) (staged_books new number)
  pub others : (n : ℕ) → ¬ n ≡ number → staged_books new n ≡ staged_books old n
