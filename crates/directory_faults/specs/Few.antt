-- Files to which fewer rows lead than they have links.
use Rattle.std.specs.Prelude.{◌≡◌, ◌<◌, ℕ, List, length}
use Rattle.std.specs.BTreeMap.{BTreeMap}
use Rattle.fileset_shapes.specs.domain_base.declared.place.Home.{Home}
use Rattle.fileset_shapes.specs.domain_base.declared.place.Kind.{Kind}
use Rattle.fileset_shapes.specs.domain_base.declared.place.Kind.TheVariants.{File}
use Rattle.fileset_shapes.specs.domain_base.declared.place.Tag.{Tag}
use Rattle.fileset_shapes.specs.page_store.Pages.{Pages}
use Rattle.fileset_shapes.specs.metadata_cells.CellPage.{home_of}
use Rattle.fileset_shapes.specs.metadata_cells.Chain.{PlacedCell}
use Rattle.fileset_shapes.specs.fileset_table.Table.{Table}
use Rattle.fileset_shapes.specs.domain_layout.DirectoryRules.{AreAllRead, AreRowsTo, Has, IsFirstHome, RowPlace}
use Rattle.fileset_shapes.specs.domain_layout.Reached.{Frame}
use Rattle.fileset_shapes.specs.domain_layout.Seen.{SeenFile}
use Rattle.directory_faults.specs.Counts.{count_in}
use Rattle.directory_faults.specs.declared.there.FileThere.{FileThere}

-- what was read is a file, and fewer rows were counted than it has links
abbrev pub HasFewCounted : BTreeMap (Tag × Kind) ℕ → FileThere → Type 0
HasFewCounted counts file =
    (file.seen.is.kind ≡ File) × (count_in counts file.tag File < file.seen.is.links)

-- and its first cell stands on a page
abbrev pub HasFewAt : BTreeMap (Tag × Kind) ℕ → FileThere → Home → Type 0
HasFewAt counts file home = HasFewCounted counts file × (home ≡ home_of file.at)

-- fewer rows than a number lead to a tag as to a file
abbrev pub LeadFewer : Pages → Frame → Table → ℕ → Tag → ℕ → Type 0
LeadFewer pages frame table number tag least = (rows : List RowPlace)
    × AreRowsTo pages frame table number tag File rows × (length rows < least)

-- fewer rows lead to a file of the fileset in a slot than it has links, and no directory is out of
-- sync
pub record HasFewRows (pages : Pages) (frame : Frame) (table : Table) (number : ℕ) (home : Home)
    : Type 0 where
  pub tag : Tag
  pub cells : List PlacedCell
  pub seen : SeenFile
  pub has : Has pages table number tag cells seen
  pub at : IsFirstHome cells home
  pub kind : seen.is.kind ≡ File
  pub read : AreAllRead pages frame table number
  pub few : LeadFewer pages frame table number tag seen.is.links
