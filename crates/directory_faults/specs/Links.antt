-- Files and directories to which more rows lead than they say, or than may.
use Rattle.std.specs.Prelude.{◌≡◌, ◌⊎◌, ◌<◌, ℕ, List, length}
use Rattle.std.specs.BTreeMap.{BTreeMap}
use Rattle.fileset_shapes.specs.domain_base.declared.place.Home.{Home}
use Rattle.fileset_shapes.specs.domain_base.declared.place.Kind.{Kind}
use Rattle.fileset_shapes.specs.domain_base.declared.place.Kind.TheVariants.{Directory, File}
use Rattle.fileset_shapes.specs.domain_base.declared.place.Tag.{Tag}
use Rattle.fileset_shapes.specs.page_store.Pages.{Pages}
use Rattle.fileset_shapes.specs.metadata_cells.CellPage.{home_of}
use Rattle.fileset_shapes.specs.metadata_cells.Chain.{PlacedCell}
use Rattle.fileset_shapes.specs.fileset_table.Table.{Table}
use Rattle.fileset_shapes.specs.name_space.Names.{root_tag}
use Rattle.fileset_shapes.specs.domain_layout.DirectoryRules.{AreRowsTo, Has, IsFirstHome, RowPlace}
use Rattle.fileset_shapes.specs.domain_layout.Reached.{Frame}
use Rattle.fileset_shapes.specs.domain_layout.Seen.{SeenFile}
use Rattle.directory_faults.specs.Counts.{count_in}
use Rattle.directory_faults.specs.declared.there.FileThere.{FileThere}

-- what was read of a file is at the root's tag, or more rows lead to it than it has links; a
-- directory has not one link, or more rows than one lead to it where it is not the root
abbrev pub HaveWrongLinks : BTreeMap (Tag × Kind) ℕ → FileThere → Kind → Type 0
HaveWrongLinks counts file File =
    (file.tag ≡ root_tag) ⊎ (file.seen.is.links < count_in counts file.tag File)
HaveWrongLinks counts file Directory = ¬ file.seen.is.links ≡ 1
    ⊎ (¬ file.tag ≡ root_tag × (1 < count_in counts file.tag Directory))

-- and its first cell stands on a page
abbrev pub IsWrongAt : BTreeMap (Tag × Kind) ℕ → FileThere → Home → Type 0
IsWrongAt counts file home =
    HaveWrongLinks counts file file.seen.is.kind × (home ≡ home_of file.at)

-- more rows than a number lead to a tag as to one of a kind
abbrev pub LeadMore : Pages → Frame → Table → ℕ → Tag → Kind → ℕ → Type 0
LeadMore pages frame table number tag of most = (rows : List RowPlace)
    × AreRowsTo pages frame table number tag of rows × (most < length rows)

-- a file is at the root's tag, or more rows lead to it than it has links; a directory has not one
-- link, or more rows than one lead to it where it is not the root
abbrev pub AreWrongLinks : Pages → Frame → Table → ℕ → Tag → SeenFile → Kind → Type 0
AreWrongLinks pages frame table number tag seen File =
    (tag ≡ root_tag) ⊎ LeadMore pages frame table number tag File seen.is.links
AreWrongLinks pages frame table number tag seen Directory = ¬ seen.is.links ≡ 1
    ⊎ (¬ tag ≡ root_tag × LeadMore pages frame table number tag Directory 1)

-- so is one of the fileset in a slot, and its first cell stands on a page
pub record HasWrongLinks (pages : Pages) (frame : Frame) (table : Table) (number : ℕ) (home : Home)
    : Type 0 where
  pub tag : Tag
  pub cells : List PlacedCell
  pub seen : SeenFile
  pub has : Has pages table number tag cells seen
  pub at : IsFirstHome cells home
  pub wrong : AreWrongLinks pages frame table number tag seen seen.is.kind
