-- Directories that stand in another one than they say.
use Rattle.std.specs.Prelude.{◌≡◌, ◌⊎◌, ◌↔◌, ℕ, List, Some, IsTrue, Contains}
use Rattle.std.specs.BTreeSet.{BTreeSet, contains}
use Rattle.std.specs.Ordering.{ordering_then}
use Rattle.std.specs.declared.cmp.Ordering.{Ordering}
use Rattle.fileset_shapes.specs.domain_base.contracts.place.TagOrd.TheImpl as tag_ord
use Rattle.fileset_shapes.specs.domain_base.declared.place.Home.{Home}
use Rattle.fileset_shapes.specs.domain_base.declared.place.Kind.TheVariants.{Directory}
use Rattle.fileset_shapes.specs.domain_base.declared.place.Tag.{Tag}
use Rattle.fileset_shapes.specs.page_store.Pages.{Pages}
use Rattle.fileset_shapes.specs.metadata_cells.CellPage.{home_of}
use Rattle.fileset_shapes.specs.metadata_cells.Chain.{PlacedCell}
use Rattle.fileset_shapes.specs.fileset_table.Table.{Table}
use Rattle.fileset_shapes.specs.name_space.Names.{root_tag}
use Rattle.fileset_shapes.specs.domain_layout.DirectoryRules.{Has, HasWrongParent, IsFirstHome}
use Rattle.fileset_shapes.specs.domain_layout.Reached.{Frame}
use Rattle.fileset_shapes.specs.domain_layout.Seen.{SeenFile}
use Rattle.directory_faults.specs.declared.rows.RowThere.{RowThere}
use Rattle.directory_faults.specs.declared.there.FileThere.{FileThere}

-- pairs of tags in order, and what sets of these and of tags have
abbrev pub pair_order : Tag × Tag → Tag × Tag → Ordering
pair_order one other = ordering_then ((tag_ord.ghosts).cmp one.0 other.0)
    ((tag_ord.ghosts).cmp one.1 other.1)

-- a set of pairs of tags has this pair
abbrev pub HasPair : BTreeSet (Tag × Tag) → Tag → Tag → Type 0
HasPair pairs tag dir = IsTrue (contains pair_order pairs (tag, dir))

-- a set of tags has this tag
abbrev pub HasTag : BTreeSet Tag → Tag → Type 0
HasTag tags tag = IsTrue (contains ((tag_ord.ghosts).cmp) tags tag)

-- what is at a tag says to stand in a directory
abbrev pub SaysParent : FileThere → Tag → Tag → Type 0
SaysParent file tag dir = (file.tag ≡ tag) × (file.parent ≡ Some dir)

-- a set has all that some say
abbrev pub SaysParents : List FileThere → BTreeSet (Tag × Tag) → Type 0
SaysParents files parents = (tag dir : Tag) → HasPair parents tag dir
    ↔ ((file : FileThere) × Contains files file × SaysParent file tag dir)

-- a row of a directory leads to a tag, and nothing there says to stand in the row's directory
pub record LeadsAstray (parents : BTreeSet (Tag × Tag)) (r : RowThere) (tag : Tag) : Type 0 where
  pub tag_is : r.row.tag ≡ tag
  pub kind : r.row.kind ≡ Directory
  pub apart : ¬ HasPair parents r.row.tag r.at.dir

-- a set has all tags to which one of some rows does
abbrev pub AreAstray : BTreeSet (Tag × Tag) → List RowThere → BTreeSet Tag → Type 0
AreAstray parents rows astray = (tag : Tag) → HasTag astray tag
    ↔ ((r : RowThere) × Contains rows r × LeadsAstray parents r tag)

-- a directory is the root and does not say to stand in itself, or is another one of those tags
pub record IsAstrayOf (astray : BTreeSet Tag) (file : FileThere) : Type 0 where
  pub kind : file.seen.is.kind ≡ Directory
  pub wrong : ((file.tag ≡ root_tag) × ¬ file.parent ≡ Some root_tag)
      ⊎ (¬ file.tag ≡ root_tag × HasTag astray file.tag)

-- and its first cell stands on a page
abbrev pub IsAstrayAt : BTreeSet Tag → FileThere → Home → Type 0
IsAstrayAt astray file home = IsAstrayOf astray file × (home ≡ home_of file.at)

-- a directory of the fileset in a slot stands in another one than it says, and its first cell on a
-- page
pub record HasAstrayParent (pages : Pages) (frame : Frame) (table : Table) (number : ℕ)
    (home : Home) : Type 0 where
  pub tag : Tag
  pub cells : List PlacedCell
  pub seen : SeenFile
  pub has : Has pages table number tag cells seen
  pub at : IsFirstHome cells home
  pub kind : seen.is.kind ≡ Directory
  pub wrong : HasWrongParent pages frame table number tag cells
