-- What becomes of a file that is written, page by page.
use Rattle.std.specs.Prelude.{◌≡◌, ◌-◌, ◌/◌, ℕ, false, Contains, List, length, map}
use Rattle.std.specs.FinMap.{contains_key, get}
use Rattle.std.specs.List.{range_with_len}
use Rattle.std.specs.Option.{option_map_or}
use Rattle.domain_memory.specs.domain_base.declared.limits.TheConstants.{PAGE_BYTES}
use Rattle.domain_memory.specs.domain_base.declared.place.Tag.{Tag}
use Rattle.domain_memory.specs.page_store.declared.fault.StoreFault.TheVariants.{NoPage}
use Rattle.domain_memory.specs.fileset_model.Filesets.{FilesetMap}
use Rattle.domain_memory.specs.fileset_values.Orders.{Path}
use Rattle.domain_memory.specs.fileset_model.Pages.{page_after, pages_of}
use Rattle.domain_memory.specs.fileset_model.declared.fileset.FilesetSlot.{FilesetSlot}
use Rattle.domain_memory.specs.fileset_model.declared.node.Node.{Node}
use Rattle.domain_memory.specs.fileset_table.declared.slot.FilesetEntry.{FilesetEntry}
use Rattle.set_standing.specs.Commands.{with_each, zeros_behind}
use Rattle.set_standing.specs.Nodes.{with_page}
use Rattle.domain_memory.specs.Kept.{KeepsKept}
use Rattle.domain_memory.specs.Staged.{MayGoBack, staged_books}
use Rattle.domain_memory.specs.declared.memory.DomainMemory.{DomainMemory}
use Rattle.file_changes.specs.Reading.{pages_at, pages_in}
use Rattle.file_changes.specs.Stages.{GivesNone, HasFile, LacksPage, StandsChanged}

-- a file with those pages of these numbers that a write makes of what it has
abbrev pub with_written : List ℕ → ℕ → List ℕ → Node → Node
with_written numbers offset bytes node =
    with_each (map (λ q. (q, page_after (pages_in node) offset bytes q)) numbers) node

-- a file with zeros from that byte on in the page in which that byte lies, if it has that
abbrev pub cleared_behind : ℕ → Node → Node
cleared_behind size node =
    let page = size / PAGE_BYTES in
    option_map_or (λ bytes. with_page page (zeros_behind size page bytes) node)
    (get (pages_in node) page) node

-- apart from files, all of memory is as it was, and the change can be taken back
pub record StaysElse (old new : DomainMemory) : Type 0 where
  pub kept : KeepsKept old new
  pub back : ∥ MayGoBack new ∥₁
  pub table : new.table ≡ old.table
  pub books : staged_books new ≡ staged_books old

-- ** Where no page is given

-- a file keeps a page and does not have it, and none is given
pub record WantsAt (memory : DomainMemory) (number : ℕ) (tag : Tag) (page : ℕ) : Type 0 where
  pub lacks : LacksPage memory number tag page
  pub none : GivesNone memory number tag page NoPage

-- the pages from that of an offset on, up to one
abbrev pub pages_before : ℕ → ℕ → List ℕ
pages_before offset page =
    range_with_len (offset / PAGE_BYTES) (page - offset / PAGE_BYTES)

-- one of the pages of a write is absent, and none is given once those before it are written
pub record WantsPage (old : DomainMemory) (number : ℕ) (tag : Tag) (offset : ℕ) (bytes : List ℕ)
    : Type 0 where
  pub page : ℕ
  pub within : Contains (pages_of offset (length bytes)) page
  pub absent : (path : Path) (all : FilesetMap) (entry : FilesetEntry) (fileset : FilesetSlot)
      → HasFile old number tag path all entry fileset
      → contains_key (pages_at fileset.tree path) page ≡ false
  pub mid : DomainMemory
  pub so_far : (path : Path) (all : FilesetMap) (entry : FilesetEntry) (fileset : FilesetSlot)
      → HasFile old number tag path all entry fileset
      → StandsChanged path (with_written (pages_before offset page) offset bytes) all entry
      fileset mid
  pub wants : WantsAt mid number tag page
