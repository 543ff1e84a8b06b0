-- What a file or directory is, and the pages that it has, by its node in the fileset.
use Rattle.std.specs.Prelude.{◌≡◌, ◌<◌, ℕ, Contains, IsSome, IsSomeAnd}
use Rattle.std.specs.FinMap.{empty}
use Rattle.std.specs.Option.{option_and_then, option_map_or}
use Rattle.domain_memory.specs.domain_base.declared.place.Kind.TheVariants as kind
use Rattle.domain_memory.specs.domain_base.declared.place.Tag.{Tag}
use Rattle.domain_memory.specs.extent_maps.declared.run.PagePlace.TheVariants.{Hole}
use Rattle.domain_memory.specs.fileset_files.declared.attributes.Attributes.{Attributes}
use Rattle.domain_memory.specs.fileset_files.Files.{Chains, attributes_of, keep_of, of_live, place_at}
use Rattle.domain_memory.specs.fileset_model.Fileset.{Fileset}
use Rattle.domain_memory.specs.fileset_values.Orders.{Path}
use Rattle.domain_memory.specs.fileset_model.Pages.{Pages, pages_of}
use Rattle.domain_memory.specs.fileset_model.Paths.{node_at, paths_to}
use Rattle.domain_memory.specs.fileset_model.declared.node.Node.{Node}
use Rattle.domain_memory.specs.fileset_model.declared.node.Node.TheVariants.{Directory, File}
use Rattle.domain_memory.specs.name_space.Names.{number_of}
use Rattle.domain_memory.specs.declared.memory.DomainMemory.{DomainMemory}
use Rattle.file_changes.specs.Stages.{AreFilesIn, IsFileIn}

-- ** A file or directory

-- a tag names one in a slot, which stays
abbrev pub IsThereIn : DomainMemory → ℕ → Tag → Type 0
IsThereIn memory number tag = (chains : Chains) → AreFilesIn memory number chains
    → IsSome (option_and_then (of_live attributes_of) (chains tag))

-- this is what a node is, except for its pages
abbrev pub IsDescribed : Attributes → Node → Type 0
IsDescribed what (File uid gid size logged pages) = (what.kind ≡ kind.File) × (what.uid ≡ uid)
    × (what.gid ≡ gid) × (what.size ≡ size) × (what.is_logged ≡ logged)
IsDescribed what (Directory uid gid) =
    (what.kind ≡ kind.Directory) × (what.uid ≡ uid) × (what.gid ≡ gid)

-- this is what the node at a path is, which is a tag's, and as many paths lead there as it says
pub record IsWhatIs (path : Path) (tag : Tag) (tree : Fileset) (what : Attributes) : Type 0 where
  pub node : IsSomeAnd (node_at tree path) (IsDescribed what)
  pub links : what.links ≡ paths_to tree (number_of tag)

-- ** Its pages

-- the pages of a node
abbrev pub pages_in : Node → Pages
pages_in (File uid gid size logged pages) = pages
pages_in (Directory uid gid) = empty

-- the pages of the file at a path, or none if no file is there
abbrev pub pages_at : Fileset → Path → Pages
pages_at tree path = option_map_or pages_in (node_at tree path) empty

-- a file of a slot keeps the page, and no hole is there: so it has it, or may get it
pub record IsOpenAt (tag : Tag) (page : ℕ) (chains : Chains) : Type 0 where
  pub kept : IsSomeAnd (option_and_then (of_live keep_of) (chains tag)) (λ keep. page < keep)
  pub solid : ¬ place_at chains tag page ≡ Hole

-- the file of a tag keeps a page, which is no hole: so it has the page or may get it
abbrev pub IsOpen : DomainMemory → ℕ → Tag → ℕ → Type 0
IsOpen memory number tag page =
    (chains : Chains) → AreFilesIn memory number chains → IsOpenAt tag page chains

-- the file keeps, without a hole, each page that has any of the `len` bytes from `offset` on
abbrev pub AreOpen : DomainMemory → ℕ → Tag → ℕ → ℕ → Type 0
AreOpen memory number tag offset len =
    (page : ℕ) → Contains (pages_of offset len) page → IsOpen memory number tag page

-- what was open stays open, and a file a file
pub record KeepsOpen (number : ℕ) (tag : Tag) (old new : DomainMemory) : Type 0 where
  pub file : IsFileIn new number tag
  pub open_still : (page : ℕ) → IsOpen old number tag page → IsOpen new number tag page
