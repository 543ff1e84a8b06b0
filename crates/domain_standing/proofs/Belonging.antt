-- Where no rule is broken, files belong together with the free space and the free cells that the pages say.
use Rattle.std.proofs.Common.{ℕ}
use Rattle.fileset_shapes.specs.domain_base.declared.place.Home.{Home}
use Rattle.fileset_shapes.specs.page_store.Pages.{Pages}
use Rattle.fileset_shapes.specs.free_cells.Cells.{Cells}
use Rattle.fileset_shapes.specs.free_space.Spaces.{Spaces}
use Rattle.fileset_shapes.specs.log_recovery.Range.{IsLogInside}
use Rattle.fileset_shapes.specs.fileset_files.Files.{AreFiles, Chains}
use Rattle.fileset_shapes.specs.fileset_files.Together.{AreTogether}
use Rattle.fileset_shapes.specs.domain_layout.Faults.{HasNoFault}
use Rattle.fileset_shapes.specs.domain_layout.Layout.{IsLayout, Layout}
use Rattle.fileset_shapes.specs.domain_layout.Owners.{frame_of}
use Rattle.fileset_shapes.specs.domain_layout.TagRules.{HasTags}
use Rattle.fileset_shapes.proofs.OfDomainLayout.NoTables.{none_of_tables}
use Rattle.domain_standing.specs.Space.{AreCellsOf, IsSpaceOf}
use Rattle.domain_standing.proofs.FileCells.{on_tables}
use Rattle.domain_standing.proofs.FilePages.{each_once, file_pages, tag_pages}
use Rattle.domain_standing.proofs.Tables.{allocated}

pub together : (pages : Pages) (layout : Layout) (space : Spaces) (cells : Cells) (number : ℕ) (first : Home) (chains : Chains) → IsLayout pages layout → HasNoFault pages (frame_of layout)
    → IsLogInside layout.version layout.anchor → IsSpaceOf pages layout space → AreCellsOf pages layout cells → HasTags layout.table number first
    → AreFiles number (layout.tags number) pages chains → AreTogether number (layout.tags number) space cells pages chains
together pages layout space cells number first chains laid none log is are has files =
    let tables = none_of_tables pages (frame_of layout) none in
    record {
      files = files;
      allocated = allocated pages layout space cells laid tables is are;
      on_tables = on_tables pages layout laid tables number first has chains files cells are;
      tag_pages = tag_pages pages layout space cells laid none log is are number first has chains files;
      file_pages = file_pages pages layout space cells laid none log is are number first has chains files;
      once = each_once pages layout space cells laid none log is are number first has chains files;
    }
