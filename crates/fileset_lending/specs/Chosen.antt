-- The files of one fileset of a domain's memory, lent to calls on a set of files.
use Rattle.std.specs.Prelude.{◌≡◌, ◌≤◌, ℕ, Some, length}
use Rattle.domain_memory.specs.page_store.Bitfiles.{Bitfiles}
use Rattle.fileset_lending.specs.Rest.{LeavesRest, parts_of}
use Rattle.fileset_lending.specs.Shown.{shown}
use Rattle.fileset_lending.specs.declared.parts.CallSettings.{CallSettings}
use Rattle.set_standing.specs.Follow.{Said}
use Rattle.set_standing.specs.Parts.{Parts}
use Rattle.domain_memory.specs.staged_pages.Store.{before_of, pages_of}
use Rattle.domain_memory.specs.Slots.{slot_in}
use Rattle.domain_memory.specs.declared.memory.DomainMemory.{DomainMemory}
use Rattle.fileset_lending.specs.declared.chosen.Chosen.{Chosen}

-- the set is that of the files in a slot of memory, over its pages, free space and free cells, and
-- lists what is taken away after what memory has listed; all else is as memory has it
pub record Lends (memory : DomainMemory) (number : ℕ) (settings : CallSettings) (chosen : Chosen)
    : Type 0 where
  pub slot : slot_in memory.slots.items number ≡ Some (record {
    files = chosen.set.parts.files;
    book = chosen.rest.book;
    tag_pages = chosen.rest.tag_pages;
  })
  pub pages : chosen.set.parts.pages ≡ memory.pages
  pub space : chosen.set.parts.space ≡ memory.space
  pub cells : chosen.set.parts.cells ≡ memory.cells
  pub listed : chosen.set.parts.removed.items ≡ memory.listed.items
  pub same_settings : chosen.set.settings ≡ settings
  pub frame : chosen.rest.frame ≡ memory.frame
  pub table : chosen.rest.table ≡ memory.table
  pub list : chosen.rest.list ≡ memory.list
  pub was : chosen.rest.was ≡ memory.was
  pub same_number : chosen.rest.number ≡ number
  pub others : (n : ℕ) → ¬ n ≡ number
      → slot_in chosen.rest.slots.items n ≡ slot_in memory.slots.items n
  pub count : length chosen.rest.slots.items ≡ length memory.slots.items

-- the parts in which the set stands
abbrev pub parts_in : Chosen → Parts
parts_in chosen = parts_of chosen.set.parts.files.tags (pages_of chosen.set.parts.pages)
    chosen.set.parts.space chosen.set.parts.cells

-- what the set shows
abbrev pub files_in : Chosen → Bitfiles
files_in chosen = shown chosen.set.parts.files.fileset chosen.set.parts.files.tags
    chosen.set.parts.space chosen.set.parts.cells (pages_of chosen.set.parts.pages) chosen.set.held

-- calls have changed the set, and nothing else; and this was said of a directory, if anything was
pub record CallsChange (said : Said) (chosen after : Chosen) : Type 0 where
  pub set : LeavesRest said chosen.set.parts.files.fileset after.set.parts.files.fileset
      chosen.set.settings after.set.settings (before_of chosen.set.parts.pages)
      (before_of after.set.parts.pages) chosen.set.parts.removed.items
      after.set.parts.removed.items (parts_in chosen) (parts_in after)
  pub rest : after.rest ≡ chosen.rest

-- the settings are those of the domain: its version, and no more clones than were made
pub record AreSettingsOf (memory : DomainMemory) (settings : CallSettings) : Type 0 where
  pub version : settings.version ≡ memory.frame.version
  pub born : settings.born ≤ memory.table.made
