-- All rules of directories that the fileset in a slot breaks.
use Rattle.std.specs.Prelude.{◌⊎◌, ℕ, List}
use Rattle.fileset_shapes.specs.domain_base.declared.place.Home.{Home}
use Rattle.fileset_shapes.specs.domain_base.declared.place.Tag.{Tag}
use Rattle.fileset_shapes.specs.page_store.Pages.{Pages}
use Rattle.fileset_shapes.specs.metadata_cells.Chain.{PlacedCell}
use Rattle.fileset_shapes.specs.fileset_table.Table.{Table}
use Rattle.fileset_shapes.specs.domain_layout.DirectoryRules.{Has, IsFirstHome, IsWrongFile}
use Rattle.fileset_shapes.specs.domain_layout.Reached.{Frame}
use Rattle.fileset_shapes.specs.domain_layout.Seen.{SeenFile}
use Rattle.directory_faults.specs.Lost.{HasLostTwice}
use Rattle.directory_faults.specs.Names.{HasNameTwice}
use Rattle.directory_faults.specs.Pages.{HasWrongRowPage}
use Rattle.directory_faults.specs.Wrong.{HasWrongRow}

-- a page of a directory is no page of rows, or has a row that breaks a rule
abbrev pub HasRowFault : Pages → Frame → Table → ℕ → Home → Type 0
HasRowFault pages frame table number home =
    HasWrongRowPage pages frame table number home
    ⊎ HasNameTwice pages frame table number home
    ⊎ HasWrongRow pages frame table number home
    ⊎ HasLostTwice pages frame table number home

-- a file or directory breaks a rule, at the page of its first cell
pub record HasFileFault (pages : Pages) (frame : Frame) (table : Table) (number : ℕ) (home : Home)
    : Type 0 where
  pub tag : Tag
  pub cells : List PlacedCell
  pub seen : SeenFile
  pub has : Has pages table number tag cells seen
  pub at : IsFirstHome cells home
  pub wrong : IsWrongFile pages frame table number tag cells seen seen.is.kind

-- one of all these
abbrev pub HasDirectoryFault : Pages → Frame → Table → ℕ → Home → Type 0
HasDirectoryFault pages frame table number home =
    HasRowFault pages frame table number home ⊎ HasFileFault pages frame table number home
