-- Directories that are below themselves or not below the root.
use Rattle.std.specs.Prelude.{◌≡◌, ◌⊎◌, ◌<◌, ℕ, List, Some, Vec, IsTrue}
use Rattle.std.specs.BTreeMap.{BTreeMap}
use Rattle.fileset_shapes.specs.domain_base.declared.place.Home.{Home}
use Rattle.fileset_shapes.specs.domain_base.declared.place.Kind.TheVariants.{Directory}
use Rattle.fileset_shapes.specs.domain_base.declared.place.Tag.{Tag}
use Rattle.fileset_shapes.specs.page_store.Pages.{Pages}
use Rattle.fileset_shapes.specs.metadata_cells.CellPage.{home_of}
use Rattle.fileset_shapes.specs.metadata_cells.Chain.{PlacedCell}
use Rattle.fileset_shapes.specs.fileset_table.Table.{Table}
use Rattle.fileset_shapes.specs.name_space.Names.{root_tag}
use Rattle.fileset_shapes.specs.domain_layout.DirectoryRules.{AreAllRead, Has, IsFirstHome, RowsLead}
use Rattle.fileset_shapes.specs.domain_layout.Reached.{Frame}
use Rattle.fileset_shapes.specs.domain_layout.Seen.{SeenFile}
use Rattle.directory_faults.specs.Parents.{HasTag}
use Rattle.directory_faults.specs.declared.there.FileThere.{FileThere}
use Rattle.directory_faults.specs.Children.{HasChild}
use Rattle.directory_faults.specs.Order.{place_in}
use Rattle.directory_faults.specs.Walk.{IsBelow}
use Rattle.directory_faults.specs.declared.order.Order.{Order}
use Rattle.directory_faults.specs.declared.tree.Tree.{Tree}

-- where an order says that it rises, rows lead from places to later ones
abbrev pub Rises : {Z : Type 0} → BTreeMap Tag (Vec Tag Z) → Order → Type 0
Rises children order = IsTrue order.rises → (dir tag : Tag) → HasChild children dir tag
    → (place : ℕ) → place_in order.places dir ≡ Some place
    → (later : ℕ) × (place_in order.places tag ≡ Some later) × (place < later)

-- what was read is a directory but the root, and by the tree it is below itself; or it is not below
-- the root, and all directories are read
pub record IsMisplacedIn (tree : Tree) (file : FileThere) : Type 0 where
  pub kind : file.seen.is.kind ≡ Directory
  pub other : ¬ file.tag ≡ root_tag
  pub wrong : IsBelow tree.children file.tag file.tag
      ⊎ (IsTrue tree.are_all_read × ¬ HasTag tree.reached file.tag)

-- and its first cell stands on a page
abbrev pub IsMisplacedAt : Tree → FileThere → Home → Type 0
IsMisplacedAt tree file home = IsMisplacedIn tree file × (home ≡ home_of file.at)

-- a directory but the root of the fileset in a slot is below itself; or it is not below the root,
-- where no directory is out of sync
pub record HasMisplaced (pages : Pages) (frame : Frame) (table : Table) (number : ℕ) (home : Home)
    : Type 0 where
  pub tag : Tag
  pub cells : List PlacedCell
  pub seen : SeenFile
  pub has : Has pages table number tag cells seen
  pub at : IsFirstHome cells home
  pub kind : seen.is.kind ≡ Directory
  pub other : ¬ tag ≡ root_tag
  pub wrong : RowsLead pages frame table number tag tag
      ⊎ (AreAllRead pages frame table number
      × ¬ RowsLead pages frame table number root_tag tag)
