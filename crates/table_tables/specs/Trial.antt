-- What is so of a directory that a test works on.
use Rattle.std.specs.Prelude.{◌≡◌, ◌==◌, ◌||◌, ◌<◌, ℕ, Bool, None, List}
use Rattle.std.specs.List.{list_any}
use Rattle.fileset_table.specs.domain_base.declared.place.Home.{Home}
use Rattle.fileset_table.specs.domain_base.declared.place.Tag.{Tag}
use Rattle.fileset_table.specs.page_store.Homes.{pages_of}
use Rattle.fileset_table.specs.page_store.declared.memory_pages.MemoryPages.{MemoryPages}
use Rattle.fileset_table.specs.page_store.Pages.{Pages, same_home}
use Rattle.tag_dirs.specs.declared.dir.TagPlace.{TagPlace}
use Rattle.tag_dirs.specs.Directory.{IsDirectory, cell_of}

-- a directory of these pages; no tag of a slot above `last` leads anywhere
pub record IsUsedTo (pages : Pages) (places : List TagPlace) (last : ℕ) : Type 0 where
  pub directory : IsDirectory pages places
  pub unused : (t : Tag) → last < t.slot → cell_of pages places t ≡ None

-- such a directory of pages in memory
abbrev pub IsTrial : MemoryPages → List TagPlace → ℕ → Type 0
IsTrial memory places last = IsUsedTo (pages_of memory.entries.items) places last

-- a place has the index, or the home
abbrev pub has_either : List TagPlace → ℕ → Home → Bool
has_either places index home = list_any (λ p. same_home home p.home || p.index == index) places
