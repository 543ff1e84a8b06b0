-- Where the pages of metadata of a domain stand: the table of filesets, the pages of cells of each
-- volume, and those of each tag directory.
use Rattle.std.specs.Prelude.{◌≡◌, ◌+◌, ◌<◌, ◌≤◌, ℕ, List, [], length, Option, Some, None, IsSomeAnd, slice_get, slice_index, slice_index_or}
use Rattle.file_release.specs.domain_base.Limits.{max_volumes}
use Rattle.file_release.specs.domain_base.Version.{number_of}
use Rattle.file_release.specs.domain_base.declared.place.Home.{Home}
use Rattle.file_release.specs.domain_base.declared.version.Version.{Version}
use Rattle.file_release.specs.page_store.Pages.{Pages}
use Rattle.log_recovery.specs.disk_label.FirstPages.{first_pages}
use Rattle.log_recovery.specs.disk_label.declared.anchor.Anchor.{Anchor}
use Rattle.log_recovery.specs.log_ring.Homes.{IsMember, member_of}
use Rattle.file_release.specs.metadata_cells.CellPage.{IsCellPage, index_of, next_of}
use Rattle.file_release.specs.tag_dirs.Directory.{IsDirectoryAt}
use Rattle.file_release.specs.tag_dirs.declared.dir.TagPlace.{TagPlace}
use Rattle.fileset_table.specs.Page.{IsTablePage}
use Rattle.fileset_table.specs.Table.{Table}
use Rattle.fileset_table.specs.declared.slot.SlotItem.{SlotItem}
use Rattle.fileset_table.specs.declared.slot.SlotItem.TheVariants as slot

-- the anchor, the version that it says, the fileset table, the pages of each volume's table of cells
-- in their order, and the pages of the tag directory of each slot
pub record Layout : Type 0 where
  pub anchor : Anchor
  pub version : Version
  pub table : Table
  pub cells : ℕ → List ℕ
  pub tags : ℕ → List TagPlace

-- a page of a volume's table of cells at a place of it: well formed, with the place as its index,
-- and the one after it as its next page
pub record IsPageAt (table : List ℕ) (place : ℕ) (page : List ℕ) : Type 0 where
  pub good : IsCellPage page
  pub indexed : index_of page ≡ place
  pub linked : next_of page ≡ slice_index_or table (place + 1) 0

-- the table of cells of a volume begins at this page; page 0 is none of it
pub record IsCellTable (pages : Pages) (vol first : ℕ) (table : List ℕ) : Type 0 where
  pub begins : slice_get table 0 ≡ Some first
  pub some : (place : ℕ) → place < length table → ¬ slice_index table place ≡ 0
  pub each : (place : ℕ) → place < length table
      → IsSomeAnd (pages (record { vol = vol; page = slice_index table place }))
      (IsPageAt table place)

-- the first page of the tag directory of what is in a slot, if it has one
abbrev pub first_tag_of : SlotItem → Option Home
first_tag_of slot.Free = None
first_tag_of (slot.Original entry) = Some entry.first_tag
first_tag_of (slot.Clone of number entry) = Some entry.first_tag
first_tag_of (slot.Removed first_tag quota) = first_tag

-- the pages of the tag directory that begins there, and none where it has no first page
abbrev pub AreTagPlaces : Pages → Option Home → List TagPlace → Type 0
AreTagPlaces pages None places = places ≡ []
AreTagPlaces pages (Some first) places = IsDirectoryAt pages first places

-- pages of metadata with this anchor stand like this
pub record IsLayout (pages : Pages) (layout : Layout) : Type 0 where
  pub version : layout.anchor.version ≡ number_of layout.version
  pub table : IsSomeAnd layout.anchor.table
      (λ home. IsSomeAnd (pages home) (λ page. IsTablePage page layout.table))
  pub cells : (vol : ℕ) → IsMember layout.anchor vol
      → IsCellTable pages vol
      (first_pages layout.version (member_of layout.anchor vol).pages).cells (layout.cells vol)
  pub tags : (number : ℕ) (item : SlotItem) → slice_get layout.table.slots number ≡ Some item
      → AreTagPlaces pages (first_tag_of item) (layout.tags number)
