-- Directories with another size than their pages, or with a gap in these.
use Rattle.std.specs.Prelude.{◌≡◌, ℕ, List, IsTrue}
use Rattle.fileset_shapes.specs.domain_base.declared.place.Home.{Home}
use Rattle.fileset_shapes.specs.domain_base.declared.place.Kind.TheVariants.{Directory}
use Rattle.fileset_shapes.specs.domain_base.declared.place.Tag.{Tag}
use Rattle.fileset_shapes.specs.page_store.Pages.{Pages}
use Rattle.fileset_shapes.specs.metadata_cells.CellPage.{home_of}
use Rattle.fileset_shapes.specs.metadata_cells.Chain.{PlacedCell}
use Rattle.fileset_shapes.specs.fileset_table.Table.{Table}
use Rattle.fileset_shapes.specs.domain_layout.DirectoryRules.{Has, HasWrongSize, IsFirstHome}
use Rattle.fileset_shapes.specs.domain_layout.Seen.{SeenFile}
use Rattle.directory_faults.specs.declared.there.FileThere.{FileThere}

-- what was read is a directory of a wrong size, and its first cell stands on a page
abbrev pub IsOfWrongSize : FileThere → Type 0
IsOfWrongSize file = (file.seen.is.kind ≡ Directory) × IsTrue file.has_wrong_size

-- the first cell of a directory of a wrong size stands on this page
abbrev pub IsOfWrongSizeAt : FileThere → Home → Type 0
IsOfWrongSizeAt file home = IsOfWrongSize file × (home ≡ home_of file.at)

-- so is a directory of the fileset in a slot
pub record HasWrongSizeThere (pages : Pages) (table : Table) (number : ℕ) (home : Home) : Type 0
  where
    pub tag : Tag
    pub cells : List PlacedCell
    pub seen : SeenFile
    pub has : Has pages table number tag cells seen
    pub at : IsFirstHome cells home
    pub kind : seen.is.kind ≡ Directory
    pub wrong : HasWrongSize cells seen
