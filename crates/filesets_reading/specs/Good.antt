-- Pages of a domain in which no rule of tables is broken.
use Rattle.std.specs.Prelude.{◌≡◌, ◌⊎◌, ◌<◌, ℕ, IsSome}
use Rattle.domain_layout.specs.domain_base.Version.{number_of}
use Rattle.domain_layout.specs.domain_base.declared.place.CellAt.{CellAt}
use Rattle.domain_layout.specs.domain_base.declared.place.Home.{Home}
use Rattle.domain_layout.specs.domain_base.declared.version.Version.{Version}
use Rattle.domain_layout.specs.page_store.Pages.{Pages}
use Rattle.domain_layout.specs.disk_label.declared.anchor.Anchor.{Anchor}
use Rattle.domain_layout.specs.metadata_cells.Cell.{Cell}
use Rattle.domain_layout.specs.metadata_cells.Chain.{StandsAt}
use Rattle.domain_layout.specs.fileset_table.Table.{Table}
use Rattle.domain_layout.specs.Faults.{HasNoTablesFault, SaysTable}
use Rattle.domain_layout.specs.Reached.{Frame}
use Rattle.domain_layout.specs.TagRules.{HasTags}

-- by which pages are read: the anchor that counts, and the version that it says
abbrev pub frame_at : Anchor → Version → Frame
frame_at anchor version = record { anchor = anchor; version = version }

-- an anchor names a fileset table, and says that version
abbrev pub IsNamed : Anchor → Version → Type 0
IsNamed anchor version = (anchor.version ≡ number_of version) × IsSome anchor.table

-- pages that say a table of filesets, and break no rule of tables
pub record AreGood (pages : Pages) (frame : Frame) : Type 0 where
  pub table : Table
  pub says : SaysTable pages frame table
  pub version : frame.anchor.version ≡ number_of frame.version
  pub no_fault : HasNoTablesFault pages frame

-- what is in a slot of their table has a tag directory that begins there
pub record HasTagsAt (pages : Pages) (frame : Frame) (first : Home) : Type 0 where
  pub table : Table
  pub says : SaysTable pages frame table
  pub number : ℕ
  pub has : HasTags table number first

-- a cell in use stands there, or none does
abbrev pub IsDecided : Pages → CellAt → Type 0
IsDecided pages at = ((cell : Cell) × StandsAt pages at cell)
    ⊎ ((cell : Cell) → ¬ StandsAt pages at cell)

-- at each cell of a page a cell in use stands, or none does
abbrev pub AreDecided : Pages → Home → Type 0
AreDecided pages home =
    (cell : ℕ) → cell < 28
    → IsDecided pages (record { vol = home.vol; page = home.page; cell = cell })
