-- Two sets of pages of one layout, neither of which breaks a rule of tables, that agree where the
-- rules look: each as the other sees it.
use Rattle.std.proofs.Common.{◌≡◌, ℕ, List, Some, sym}
use Rattle.file_release.specs.domain_base.declared.place.Home.{Home}
use Rattle.file_release.specs.domain_base.declared.place.Kind.TheVariants.{Directory}
use Rattle.file_release.specs.domain_base.declared.place.Tag.{Tag}
use Rattle.file_release.specs.page_store.Pages.{Pages}
use Rattle.file_release.specs.metadata_cells.Chain.{PlacedCell}
use Rattle.fileset_table.specs.Table.{Table}
use Rattle.domain_layout.specs.DirectoryRules.{Has, HasIndexAt}
use Rattle.domain_layout.specs.Layout.{Layout}
use Rattle.domain_layout.specs.Owners.{frame_of}
use Rattle.domain_layout.specs.Reached.{Frame, IsWithin, index_way}
use Rattle.domain_layout.specs.Seen.{SeenFile}
use Rattle.domain_layout.specs.Alike.{AgreeOnCells}
use Rattle.domain_layout.specs.Metadata.{AgreeOnIndexes}
use Rattle.domain_layout.proofs.CellsAlike.{turned, turned_cells, used_alike}
use Rattle.domain_layout.specs.Looks.{IsOfBitmap}
use Rattle.domain_layout.proofs.Files.{has_alike}
use Rattle.domain_layout.proofs.Owned.{AreTables}

-- the same stands at each page of bitmaps, and of directories
abbrev pub AgreeOnBitmaps : Pages → Pages → Frame → Type 0
AgreeOnBitmaps one other frame = (home : Home) → IsOfBitmap frame home → one home ≡ other home

abbrev pub AgreeOnDirectories : Pages → Pages → Frame → Table → Type 0
AgreeOnDirectories one other frame table = (number : ℕ) (dir : Tag) (cells : List PlacedCell) (seen : SeenFile) (page : ℕ) (home : Home)
    → Has one table number dir cells seen → seen.is.kind ≡ Directory → seen.homes page ≡ Some home → IsWithin frame home → one home ≡ other home

pub record AreSides (one other : Pages) (layout : Layout) : Type 0 where
  pub ahead : AreTables one other layout
  pub behind : AreTables other one layout
  pub bitmaps : AgreeOnBitmaps one other (frame_of layout)
  pub indexes : AgreeOnIndexes one other (frame_of layout)
  pub directories : AgreeOnDirectories one other (frame_of layout) layout.table

turned_indexes : (one other : Pages) (frame : Frame) → AgreeOnCells one other frame → AgreeOnIndexes one other frame → AgreeOnIndexes other one frame
turned_indexes one other frame cells agree at first has =
    let there : HasIndexAt one frame at first = record {
      cell = has.cell;
      is = used_alike other one frame (turned_cells one other frame cells) at has.cell has.is;
      value = has.value;
      there = has.there;
      begins = has.begins;
    } in
    turned one other frame (index_way first) (agree at first there)

pub flipped : (one other : Pages) (layout : Layout) → AreSides one other layout → AreSides other one layout
flipped one other layout s = record {
  ahead = s.behind;
  behind = s.ahead;
  bitmaps = λ home is. sym (s.bitmaps home is);
  indexes = turned_indexes one other (frame_of layout) s.ahead.cells s.indexes;
  directories = λ number dir cells seen page home has kind at within.
      sym (s.directories number dir cells seen page home (has_alike other one layout s.behind number dir cells seen has) kind at within);
}
