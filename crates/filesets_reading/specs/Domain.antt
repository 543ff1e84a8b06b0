-- The files of all filesets of a domain.
use Rattle.std.specs.Prelude.{◌≡◌, ℕ, List, Some, slice_get}
use Rattle.domain_layout.specs.domain_base.declared.place.Home.{Home}
use Rattle.domain_layout.specs.page_store.Pages.{Pages}
use Rattle.domain_layout.specs.tag_dirs.declared.dir.TagPlace.{TagPlace}
use Rattle.domain_layout.specs.fileset_files.Files.{HasFiles}
use Rattle.domain_layout.specs.fileset_table.declared.slot.SlotItem.{SlotItem}
use Rattle.domain_layout.specs.Layout.{first_tag_of}
use Rattle.filesets_reading.specs.declared.tables.DomainTables.{DomainTables}

-- what is in a slot has its files, by the tag directory that was read
abbrev pub HasFilesOf : Pages → DomainTables → ℕ → Type 0
HasFilesOf pages tables number = (item : SlotItem) (first : Home) (places : List TagPlace)
    → slice_get tables.filesets.slots number ≡ Some item → first_tag_of item ≡ Some first
    → slice_get tables.tags.items number ≡ Some places → HasFiles number places pages

-- and so has what is in each
abbrev pub HaveAllFiles : Pages → DomainTables → Type 0
HaveAllFiles pages tables = (number : ℕ) → HasFilesOf pages tables number
