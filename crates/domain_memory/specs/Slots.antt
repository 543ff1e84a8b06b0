-- What is in the slots of a domain's fileset table, as it is and as it was when it was last kept.
use Rattle.std.specs.Prelude.{◌≡◌, ◌≤◌, ℕ, List, [], Option, Some, None, IsSomeAnd, length, slice_get, take}
use Rattle.std.specs.Option.{option_and_then}
use Rattle.standing_laws.specs.tag_dirs.declared.dir.TagPlace.{TagPlace}
use Rattle.standing_laws.specs.quota_book.Book.{Book, empty_book}
use Rattle.domain_memory.specs.declared.slots.SlotFiles.{SlotFiles}

-- what is in a slot of these, if something is
abbrev pub slot_in : List (Option SlotFiles) → ℕ → Option SlotFiles
slot_in slots number = option_and_then (λ slot. slot) (slice_get slots number)

-- where the pages of its tag directory stand, and its book
abbrev pub places_in : Option SlotFiles → List TagPlace
places_in None = []
places_in (Some slot) = slot.files.tags

-- the book of a slot, empty if nothing is in it
abbrev pub book_in : Option SlotFiles → Book
book_in None = empty_book
book_in (Some slot) = slot.book.book

-- where those pages stood, and the book, when that was last kept
abbrev pub kept_places : Option SlotFiles → List TagPlace
kept_places None = []
kept_places (Some slot) = take slot.tag_pages slot.files.tags

-- the book of a slot as it was when that was last kept
abbrev pub kept_book : Option SlotFiles → Book
kept_book None = empty_book
kept_book (Some slot) = slot.book.kept

-- what is in a slot is of the fileset with this number
abbrev pub HasNumber : ℕ → SlotFiles → Type 0
HasNumber number slot = slot.files.fileset ≡ number

-- the tag directory has the pages that it had then, and no index of a page twice
pub record CanGoBack (slot : SlotFiles) : Type 0 where
  pub few : slot.tag_pages ≤ length slot.files.tags
  pub once : (j k : ℕ) (p q : TagPlace) → slice_get slot.files.tags j ≡ Some p
      → slice_get slot.files.tags k ≡ Some q → p.index ≡ q.index → j ≡ k

-- what is there is kept as it is
pub record IsKept (old new : SlotFiles) : Type 0 where
  pub files : new.files ≡ old.files
  pub book : new.book.book ≡ old.book.book
  pub kept : new.book.kept ≡ old.book.book
  pub tag_pages : new.tag_pages ≡ length old.files.tags

-- what is there is as it was kept
pub record IsTakenBack (old new : SlotFiles) : Type 0 where
  pub number : new.files.fileset ≡ old.files.fileset
  pub tags : new.files.tags ≡ take old.tag_pages old.files.tags
  pub book : new.book.book ≡ old.book.kept
  pub kept : new.book.kept ≡ old.book.kept
  pub tag_pages : new.tag_pages ≡ old.tag_pages

-- what is in a slot changes in this way, if something is in it
abbrev pub ChangesSlot : (SlotFiles → SlotFiles → Type 0) → Option SlotFiles → Option SlotFiles
    → Type 0
ChangesSlot change None new = new ≡ None
ChangesSlot change (Some old) new = IsSomeAnd new (change old)

-- and what is in each of these slots
pub record ChangesSlots (change : SlotFiles → SlotFiles → Type 0)
    (old new : List (Option SlotFiles)) : Type 0 where
  pub count : length new ≡ length old
  pub each : (number : ℕ) → ChangesSlot change (slot_in old number) (slot_in new number)
