-- Directories that keep all of their pages.
use Rattle.std.specs.Prelude.{◌≡◌, ℕ, List, Some}
use Rattle.fileset_shapes.specs.domain_base.Limits.{file_pages}
use Rattle.fileset_shapes.specs.domain_base.declared.place.Kind.TheVariants.{Directory}
use Rattle.fileset_shapes.specs.domain_base.declared.place.Tag.{Tag}
use Rattle.fileset_shapes.specs.page_store.Pages.{Pages}
use Rattle.fileset_shapes.specs.metadata_cells.Chain.{PlacedCell}
use Rattle.fileset_shapes.specs.fileset_files.Files.{keep_of}
use Rattle.fileset_shapes.specs.fileset_table.Table.{Table}
use Rattle.fileset_shapes.specs.domain_layout.DirectoryRules.{Has}
use Rattle.fileset_shapes.specs.domain_layout.Seen.{SeenFile}

-- no directory of what is in a slot is to be cut: each keeps as many pages as a file can have
abbrev pub KeepDirectories : Pages → Table → ℕ → Type 0
KeepDirectories pages table number = (tag : Tag) (cells : List PlacedCell) (seen : SeenFile)
    → Has pages table number tag cells seen → seen.is.kind ≡ Directory
    → keep_of cells ≡ Some file_pages
