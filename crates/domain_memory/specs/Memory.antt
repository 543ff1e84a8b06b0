-- What a domain keeps in memory, as it was when that was last kept.
use Rattle.std.specs.Prelude.{ℕ, Option, Some, None}
use Rattle.standing_laws.specs.free_space.Spaces.{kept_spaces}
use Rattle.standing_laws.specs.free_cells.Cells.{taken_back}
use Rattle.standing_laws.specs.fileset_model.Filesets.{FilesetMap}
use Rattle.standing_laws.specs.fileset_table.Table.{Table, with_slot}
use Rattle.staged_pages.specs.Store.{before_of}
use Rattle.standing_laws.specs.page_ways.Frame.{frame_in}
use Rattle.standing_laws.specs.quota_book.Book.{Book}
use Rattle.standing_laws.specs.domain_layout.Read.{contents_of}
use Rattle.standing_laws.specs.domain_standing.Domain.{DomainNow}
use Rattle.standing_laws.specs.domain_standing.Sources.{StandAlone}
use Rattle.standing_laws.specs.domain_standing.Standing.{AreBooksOf, HaveParents, IsMarkedBut, StandsDomain}
use Rattle.standing_laws.specs.Sound.{IsSound}
use Rattle.domain_memory.specs.Slots.{kept_book, kept_places, slot_in}
use Rattle.domain_memory.specs.declared.memory.DomainMemory.{DomainMemory}
use Rattle.domain_memory.specs.declared.memory.ReplacedSlot.{ReplacedSlot}

-- the fileset table with what the slot had that was set anew, if one was
abbrev pub with_was : Option ReplacedSlot → Table → Table
with_was None table = table
with_was (Some was) table = with_slot was.number was.item table

-- the domain as it was when memory was last kept: no change that is laid over it is seen
abbrev pub kept_in : DomainMemory → DomainNow
kept_in memory = record {
  frame = frame_in memory.frame;
  table = with_was memory.was memory.table;
  tags = λ number. kept_places (slot_in memory.slots.items number);
  pages = before_of memory.pages;
  contents = contents_of (before_of memory.pages);
  space = kept_spaces memory.space;
  cells = taken_back memory.cells;
  list = memory.list.list;
}

-- the book of each slot as it was when memory was last kept
abbrev pub books_in : DomainMemory → ℕ → Book
books_in memory number = kept_book (slot_in memory.slots.items number)

-- memory is that of a domain with these filesets; no file in it is read through another, and it is
-- also as the rules of pages ask
pub record StandsFor (memory : DomainMemory) (all : FilesetMap) : Type 0 where
  pub stands : StandsDomain (kept_in memory) all
  pub alone : StandAlone (kept_in memory)
  pub sound : IsSound (kept_in memory)
  pub parents : HaveParents (kept_in memory)
  pub marked : IsMarkedBut (kept_in memory)
  pub books : AreBooksOf (books_in memory) (kept_in memory) all
