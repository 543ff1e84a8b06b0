-- What a domain keeps in memory, with a change that is laid over it.
use Rattle.std.specs.Prelude.{◌≡◌, ◌≤◌, ℕ, [], None, IfSome, length}
use Rattle.standing_laws.specs.free_space.Spaces.{kept_spaces}
use Rattle.standing_laws.specs.free_cells.Cells.{taken_back}
use Rattle.standing_laws.specs.fileset_model.Filesets.{FilesetMap}
use Rattle.standing_laws.specs.fileset_table.Table.{IsTable}
use Rattle.staged_pages.specs.Store.{before_of, pages_of}
use Rattle.standing_laws.specs.page_ways.Frame.{frame_in}
use Rattle.standing_laws.specs.quota_book.Book.{Book}
use Rattle.standing_laws.specs.domain_layout.Read.{contents_of}
use Rattle.standing_laws.specs.domain_standing.Domain.{DomainNow}
use Rattle.standing_laws.specs.domain_standing.Sources.{StandAlone}
use Rattle.standing_laws.specs.domain_standing.Standing.{AreBooksOf, HaveParents, IsMarkedBut, StandsDomain}
use Rattle.standing_laws.specs.Sound.{IsSound}
use Rattle.domain_memory.specs.Listing.{HaveOnce, list_with}
use Rattle.domain_memory.specs.Slots.{CanGoBack, HasNumber, book_in, kept_book, kept_places, places_in, slot_in}
use Rattle.domain_memory.specs.Memory.{with_was}
use Rattle.domain_memory.specs.declared.memory.DomainMemory.{DomainMemory}

-- the domain as it is once the change is kept, but for the bits of its bitmaps
abbrev pub staged_in : DomainMemory → DomainNow
staged_in memory = record {
  frame = frame_in memory.frame;
  table = memory.table;
  tags = λ number. places_in (slot_in memory.slots.items number);
  pages = pages_of memory.pages;
  contents = contents_of (pages_of memory.pages);
  space = memory.space;
  cells = memory.cells;
  list = list_with memory.listed.items memory.list.list;
}

-- the book of each slot with the change
abbrev pub staged_books : DomainMemory → ℕ → Book
staged_books memory number = book_in (slot_in memory.slots.items number)

-- with the change, memory is that of a domain with these filesets; no file in it is read through
-- another, and it is also as the rules of pages ask; bits of bitmaps still say what was used
-- when it was last kept, and there is room on the list for what comes on it
pub record IsStaged (memory : DomainMemory) (all : FilesetMap) : Type 0 where
  pub stands : StandsDomain (staged_in memory) all
  pub alone : StandAlone (staged_in memory)
  pub sound : IsSound (staged_in memory)
  pub marked : IsMarkedBut (record (staged_in memory) { space = kept_spaces memory.space })
  pub once : HaveOnce memory.list.list.entries
  pub room : length memory.listed.items ≤ memory.list.room

-- the change is laid over memory in this way for some filesets
abbrev pub IsStagedForSome : DomainMemory → Type 0
IsStagedForSome memory = (all : FilesetMap) × IsStaged memory all

-- the change may also be kept: directories say in which directory they stand, and books say what
-- their filesets use
pub record MayBeKept (memory : DomainMemory) (all : FilesetMap) : Type 0 where
  pub staged : IsStaged memory all
  pub parents : HaveParents (staged_in memory)
  pub books : AreBooksOf (staged_books memory) (staged_in memory) all

-- there are 32 slots, and what is in one is of the fileset with its number
pub record HasSlots (memory : DomainMemory) : Type 0 where
  pub count : length memory.slots.items ≡ 32
  pub numbered : (number : ℕ) → IfSome (slot_in memory.slots.items number) (HasNumber number)

-- a change can be taken back: a slot that was set anew may have what it had, and each tag directory
-- has the pages that it had
pub record MayGoBack (memory : DomainMemory) : Type 0 where
  pub has : HasSlots memory
  pub table : IsTable (with_was memory.was memory.table)
  pub slots : (number : ℕ) → IfSome (slot_in memory.slots.items number) CanGoBack

-- no change is laid over it
pub record IsSettled (memory : DomainMemory) : Type 0 where
  pub pages : pages_of memory.pages ≡ before_of memory.pages
  pub space : kept_spaces memory.space ≡ memory.space
  pub cells : taken_back memory.cells ≡ memory.cells
  pub places : (number : ℕ) → places_in (slot_in memory.slots.items number)
      ≡ kept_places (slot_in memory.slots.items number)
  pub books : (number : ℕ) → book_in (slot_in memory.slots.items number)
      ≡ kept_book (slot_in memory.slots.items number)
  pub was : memory.was ≡ None
  pub listed : memory.listed.items ≡ []
