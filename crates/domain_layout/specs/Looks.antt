-- Where the rules of a domain look: the homes whose pages decide what is in its list of faults.
use Rattle.std.specs.Prelude.{◌≡◌, ◌⊎◌, ◌+◌, ◌<◌, ◌≤◌, ℕ, List, Some}
use Rattle.file_release.specs.domain_base.Version.{bitmap_pages}
use Rattle.file_release.specs.domain_base.declared.place.CellAt.{CellAt}
use Rattle.file_release.specs.domain_base.declared.place.Home.{Home}
use Rattle.file_release.specs.domain_base.declared.place.Kind.TheVariants.{Directory}
use Rattle.file_release.specs.domain_base.declared.place.Tag.{Tag}
use Rattle.file_release.specs.page_store.Pages.{Pages}
use Rattle.file_release.specs.metadata_cells.Chain.{PlacedCell}
use Rattle.fileset_table.specs.Table.{Table}
use Rattle.log_recovery.specs.log_ring.Homes.{IsMember, member_of}
use Rattle.domain_layout.specs.DirectoryRules.{Has, HasIndexAt}
use Rattle.domain_layout.specs.Faults.{HasNoTablesFault, IsTableFault, SaysTable}
use Rattle.domain_layout.specs.Reached.{Frame, IsWithin, MayBe, Reaches, Way, cells_way, index_way, tags_way}
use Rattle.domain_layout.specs.Seen.{SeenFile}
use Rattle.domain_layout.specs.TagRules.{HasTags}

-- a page of a kind is come to, and may be one of tables and files
pub record IsComeTo (pages : Pages) (frame : Frame) (way : Way) (home : Home) : Type 0 where
  pub passed : List Home
  pub reached : Reaches pages frame way passed home
  pub may : MayBe frame home

-- ** For the rules of tables

-- a page of cells of a member
pub record IsOfCells (pages : Pages) (frame : Frame) (home : Home) : Type 0 where
  pub vol : ℕ
  pub member : IsMember frame.anchor vol
  pub come : IsComeTo pages frame (cells_way frame vol) home

-- a page of the tag directory of what is in a slot
pub record IsOfTags (pages : Pages) (frame : Frame) (home : Home) : Type 0 where
  pub table : Table
  pub says : SaysTable pages frame table
  pub number : ℕ
  pub first : Home
  pub has : HasTags table number first
  pub come : IsComeTo pages frame (tags_way first) home

-- a page of cells, or of the tag directory of what is in a slot
abbrev pub IsOfTables : Pages → Frame → Home → Type 0
IsOfTables pages frame home = IsOfCells pages frame home ⊎ IsOfTags pages frame home

-- ** For the rules of files

-- a page of the bitmap of a member
pub record IsOfBitmap (frame : Frame) (home : Home) : Type 0 where
  pub member : IsMember frame.anchor home.vol
  pub first : 2 ≤ home.page
  pub last : home.page < 2 + bitmap_pages frame.version (member_of frame.anchor home.vol).pages

-- a page of an index that a cell names
pub record IsOfIndex (pages : Pages) (frame : Frame) (home : Home) : Type 0 where
  pub at : CellAt
  pub first : Home
  pub has : HasIndexAt pages frame at first
  pub come : IsComeTo pages frame (index_way first) home

-- a page of a directory, if it says one of a member
pub record IsOfDirectory (pages : Pages) (frame : Frame) (home : Home) : Type 0 where
  pub table : Table
  pub says : SaysTable pages frame table
  pub number : ℕ
  pub dir : Tag
  pub cells : List PlacedCell
  pub seen : SeenFile
  pub has : Has pages table number dir cells seen
  pub kind : seen.is.kind ≡ Directory
  pub page : ℕ
  pub at : seen.homes page ≡ Some home
  pub within : IsWithin frame home

abbrev pub IsOfFiles : Pages → Frame → Home → Type 0
IsOfFiles pages frame home =
    IsOfBitmap frame home ⊎ IsOfIndex pages frame home ⊎ IsOfDirectory pages frame home

-- ** All of them

-- the page of the fileset table; if it says one, those of tables; and if no rule of tables is
-- broken, those of bitmaps, indexes and directories
abbrev pub IsLookedAt : Pages → Frame → Home → Type 0
IsLookedAt pages frame home = (frame.anchor.table ≡ Some home)
    ⊎ (((other : Home) → ¬ IsTableFault pages frame other) × IsOfTables pages frame home)
    ⊎ (HasNoTablesFault pages frame × IsOfFiles pages frame home)

-- both have the same at each home where the rules look: they ask about no other home
abbrev pub AgreeWhereRulesLook : Pages → Pages → Frame → Type 0
AgreeWhereRulesLook one other frame =
    (home : Home) → IsLookedAt one frame home → one home ≡ other home
