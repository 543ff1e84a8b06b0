-- The list of faults of a domain's pages once its log is redone: a row for each volume, page and
-- code at which a rule is broken.
use Rattle.std.specs.Prelude.{◌≡◌, ◌⊎◌, ◌<◌, ◌↔◌, ℕ, List, [], ◌∷◌, Some, IsSomeAnd, Contains}
use Rattle.std.specs.List.{AllByRecursion}
use Rattle.file_release.specs.domain_base.declared.place.Home.{Home}
use Rattle.file_release.specs.page_store.Pages.{Pages}
use Rattle.fileset_table.specs.Page.{IsTablePage}
use Rattle.fileset_table.specs.Table.{Table}
use Rattle.domain_layout.specs.CellRules.{IsCellsFault}
use Rattle.domain_layout.specs.DirectoryRules.{IsDirectoryFault, IsIndexFault}
use Rattle.domain_layout.specs.Layout.{IsLayout, Layout}
use Rattle.domain_layout.specs.Owners.{frame_of}
use Rattle.domain_layout.specs.PageRules.{IsBitmapFault, IsExtentFault}
use Rattle.domain_layout.specs.Reached.{Frame, IsReserved}
use Rattle.domain_layout.specs.TagRules.{IsTagsFault}

-- the number of the rule, and the page at which it is broken
pub record FaultRow : Type 0 where
  pub code : ℕ
  pub home : Home

-- the page of the fileset table says none, or stands where none may: code 4
pub record IsTableFault (pages : Pages) (frame : Frame) (home : Home) : Type 0 where
  pub at : frame.anchor.table ≡ Some home
  pub wrong : IsReserved frame home
      ⊎ ((table : Table) → ¬ IsSomeAnd (pages home) (λ page. IsTablePage page table))

-- the page says the table
pub record SaysTable (pages : Pages) (frame : Frame) (table : Table) : Type 0 where
  pub home : Home
  pub at : frame.anchor.table ≡ Some home
  pub there : IsSomeAnd (pages home) (λ page. IsTablePage page table)

-- rules of cells, and of tags and of what they name
abbrev pub IsTablesFault : Pages → Frame → FaultRow → Type 0
IsTablesFault pages frame row = (table : Table) × SaysTable pages frame table
    × (((row.code ≡ 5) × IsCellsFault pages frame table row.home)
    ⊎ ((row.code ≡ 6) × IsTagsFault pages frame table row.home))

-- rules of files' pages, bitmaps, directories and indexes
abbrev pub IsFilesFault : Pages → Frame → FaultRow → Type 0
IsFilesFault pages frame row = (layout : Layout) × (frame_of layout ≡ frame) × IsLayout pages layout
    × (((row.code ≡ 7) × IsExtentFault pages layout row.home)
    ⊎ ((row.code ≡ 8) × IsBitmapFault pages layout row.home)
    ⊎ ((row.code ≡ 9) × IsDirectoryFault pages frame layout.table row.home)
    ⊎ ((row.code ≡ 10) × IsIndexFault pages frame layout.table row.home))

-- no rule of the fileset table, of cells, or of tags and what they name is broken: there is no fault
-- of codes 4 to 6
pub record HasNoTablesFault (pages : Pages) (frame : Frame) : Type 0 where
  pub table : (home : Home) → ¬ IsTableFault pages frame home
  pub tables : (row : FaultRow) → ¬ IsTablesFault pages frame row

-- nor does a cell say a wrong page of a file: there is no fault of codes 4 to 7
pub record HasNoExtentFault (pages : Pages) (frame : Frame) : Type 0 where
  pub tables : HasNoTablesFault pages frame
  pub extents : (layout : Layout) (home : Home) → frame_of layout ≡ frame → IsLayout pages layout
      → ¬ IsExtentFault pages layout home

-- a row of the list: a fault of the table ends it, and those of tables come without those of files
abbrev pub IsFault : Pages → Frame → FaultRow → Type 0
IsFault pages frame row =
    ((row.code ≡ 4) × IsTableFault pages frame row.home)
    ⊎ (((home : Home) → ¬ IsTableFault pages frame home) × IsTablesFault pages frame row)
    ⊎ (HasNoTablesFault pages frame × IsFilesFault pages frame row)

-- rows in their order: by code, then by volume, then by page
abbrev pub IsBefore : FaultRow → FaultRow → Type 0
IsBefore a b = (a.code < b.code) ⊎ ((a.code ≡ b.code) × ((a.home.vol < b.home.vol)
    ⊎ ((a.home.vol ≡ b.home.vol) × (a.home.page < b.home.page))))

-- rows in order, none twice
abbrev pub AreInOrder : List FaultRow → Type 0
AreInOrder [] = Unit {0}
AreInOrder (row ∷ rows) = AllByRecursion (IsBefore row) rows × AreInOrder rows

-- the faults of pages, each once and in order
pub record AreFaults (pages : Pages) (frame : Frame) (rows : List FaultRow) : Type 0 where
  pub each : (row : FaultRow) → Contains rows row ↔ IsFault pages frame row
  pub order : AreInOrder rows

-- there is none
abbrev pub HasNoFault : Pages → Frame → Type 0
HasNoFault pages frame = (row : FaultRow) → ¬ IsFault pages frame row
