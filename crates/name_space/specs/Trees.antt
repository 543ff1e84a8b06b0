-- The fileset that is made of a set of files.
use Rattle.std.specs.Prelude.{◌≡◌, ◌⊎◌, ◌<◌, ◌≤◌, ◌++◌, ◌↔◌, ℕ, true, List, [], ◌∷◌, Option, Some, None, IsSome, Contains, slice_get}
use Rattle.std.specs.Int.{to_be_bytes}
use Rattle.std.specs.Int.Width.{w64}
use Rattle.std.specs.Option.{option_map_or}
use Rattle.std.specs.FinMap.{contains_key, empty, get}
use Rattle.std.specs.FinSet.{FinSet}
use Rattle.std.specs.Ordering.{nat_cmp}
use Rattle.plain_program.specs.domain_base.Limits.{max_links}
use Rattle.plain_program.specs.domain_base.declared.place.Kind.{Kind}
use Rattle.plain_program.specs.domain_base.declared.place.Kind.TheVariants.{Directory, File}
use Rattle.plain_program.specs.domain_base.declared.place.Tag.{Tag}
use Rattle.directory_rows.specs.page_store.Bitfiles.{Bitfile, Bitfiles}
use Rattle.directory_rows.specs.Directory.{rows_in}
use Rattle.plain_program.specs.legal_histories.Valid.{IsValidFileset}
use Rattle.plain_program.specs.fileset_model.Fileset.{Fileset}
use Rattle.plain_program.specs.fileset_values.Orders.{Name, Path}
use Rattle.plain_program.specs.fileset_model.Paths.{paths_to}
use Rattle.plain_program.specs.fileset_model.declared.fileset.FilesetSlot.{FilesetSlot}
use Rattle.plain_program.specs.fileset_model.declared.fileset.Role.{Role}
use Rattle.plain_program.specs.fileset_model.declared.fileset.Role.TheVariants.{CloneOf, Original}
use Rattle.plain_program.specs.fileset_model.declared.node.Node.{Node}
use Rattle.name_space.specs.Names.{Names, led_to, number_of, root_tag}
use Rattle.name_space.specs.Parts.{AreNodesOf, node_for}
use Rattle.directory_rows.specs.Ways.{AreAllLed}
use Rattle.directory_rows.specs.declared.led.Led.{Led}
use Rattle.name_space.specs.Rows.{AreAllThere, AreFilesetRows, AreWhole}
use Rattle.name_space.specs.declared.parts.FilesetParts.{FilesetParts}
use Rattle.name_space.specs.declared.parts.TaggedNode.{TaggedNode}

-- a path leads to a tag
abbrev pub IsReached : Bitfiles → Tag → Kind → Type 0
IsReached files tag of = (path : Path) × (led_to files path ≡ Some (tag, of))

-- the path of that number below one
abbrev pub hidden_below : Path → ℕ → Path
hidden_below path number = path ++ to_be_bytes w64 number ∷ []

-- a directory is at that path that the set does not have
abbrev pub IsMissing : Bitfiles → Path → Type 0
IsMissing files path = (tag : Tag) × (led_to files path ≡ Some (tag, Directory)) × (files tag ≡ None)

-- a path leads to a tag; or it is one of a number of paths below another, for a file that the set
-- has
abbrev pub IsWay : Bitfiles → Path → ℕ → Path → Tag → Kind → Type 0
IsWay files below count path tag of = (led_to files path ≡ Some (tag, of))
    ⊎ ((of ≡ File) × IsSome (files tag) × (number : ℕ) × (number < count)
    × (path ≡ hidden_below below number))

-- the paths of a set, a number of others below one of them, and the nodes to which they lead
pub record IsTreeOf (files : Bitfiles) (nodes : List TaggedNode) (below : Path) (count : ℕ)
    (tree : Fileset) : Type 0 where
  pub paths : (path : Path) (tag : Tag) (of : Kind) → led_to files path ≡ Some (tag, of)
      → get tree.paths path ≡ Some (number_of tag)
  pub only : (path : Path) (number : ℕ) → get tree.paths path ≡ Some number
      → (tag : Tag) × (of : Kind) × (number ≡ number_of tag) × IsReached files tag of
      × IsWay files below count path tag of
  pub held : (tag : Tag) (of : Kind) → IsReached files tag of
      → get tree.nodes (number_of tag) ≡ Some (node_for nodes tag of)
  pub named : (number : ℕ) (node : Node) → get tree.nodes number ≡ Some node
      → (tag : Tag) × (of : Kind) × (number ≡ number_of tag) × IsReached files tag of
  pub limits : tree.limits ≡ empty

-- a directory is missing at that path; or none is given, and none is missing
abbrev pub IsFoundMissing : Bitfiles → Option Path → Type 0
IsFoundMissing files None = AreAllThere files
IsFoundMissing files (Some path) = IsMissing files path

-- how many paths may lead to what a tag names: as many as it has links
abbrev pub most_paths : Option Bitfile → ℕ
most_paths file = option_map_or (λ (f : Bitfile). f.links) file max_links

-- no more paths lead to a tag than may
pub record HasFewPaths (files : Bitfiles) (tree : Fileset) : Type 0 where
  pub few : (tag : Tag) (of : Kind) → IsReached files tag of
      → paths_to tree (number_of tag) ≤ most_paths (files tag)

-- as many paths lead to a node as it has links, if any does
abbrev pub HasItsPaths : Bitfiles → Fileset → TaggedNode → Type 0
HasItsPaths files tree one = (of : Kind) → IsReached files one.tag of
    → paths_to tree (number_of one.tag) ≡ one.links

-- all files of a set have their nodes, and all its paths are in a list
pub record AreAllOf (files : Bitfiles) (nodes : List TaggedNode) (led : List Led) : Type 0 where
  pub good : AreFilesetRows files
  pub has : AreNodesOf files nodes
  pub all : AreAllLed (rows_in files) (root_tag, Directory) led

-- a tree to which paths are added below a directory that is missing
pub record IsHiding (files : Bitfiles) (nodes : List TaggedNode) (below : Path) (count : ℕ)
    (tree : Fileset) : Type 0 where
  pub missing : IsMissing files below
  pub is : IsTreeOf files nodes below count tree
  pub few : HasFewPaths files tree

-- the nodes that had all their paths have them
abbrev pub KeepsPaths : Bitfiles → List TaggedNode → Fileset → Fileset → Type 0
KeepsPaths files nodes old new = (one : TaggedNode) → Contains nodes one → HasItsPaths files old one
    → HasItsPaths files new one

-- a node has all its paths now
pub record Hides (files : Bitfiles) (nodes : List TaggedNode) (below : Path) (one : TaggedNode)
    (old new : Fileset) (count : ℕ) : Type 0 where
  pub is : IsHiding files nodes below count new
  pub has : HasItsPaths files new one
  pub kept : KeepsPaths files nodes old new

-- all nodes have their paths, a number of which are below a directory that is missing
pub record IsFullTree (files : Bitfiles) (nodes : List TaggedNode) (tree : Fileset) : Type 0 where
  pub below : Path
  pub count : ℕ
  pub hidden : (count ≡ 0) ⊎ IsMissing files below
  pub is : IsTreeOf files nodes below count tree
  pub few : HasFewPaths files tree
  pub all : (one : TaggedNode) → Contains nodes one → HasItsPaths files tree one

-- the numbers of all that a path leads to and the set does not have
pub record AreMissing (files : Bitfiles) (out : FinSet nat_cmp) : Type 0 where
  pub each : (number : ℕ) → (contains_key out number ≡ true)
      ↔ ((tag : Tag) × (of : Kind) × (number ≡ number_of tag) × IsReached files tag of
      × (files tag ≡ None))

-- an original is whole; of a clone it is not asked
abbrev pub MayBeOf : Option Name → Bitfiles → Type 0
MayBeOf None files = AreWhole files
MayBeOf (Some original) files = Unit {0}

-- an original, or a clone of the original with that name, in which all is out of sync that the set
-- does not have
abbrev pub HasRoleOf : Bitfiles → Option Name → Role → Type 0
HasRoleOf files None role = role ≡ Original
HasRoleOf files (Some name) Original = ⊥
HasRoleOf files (Some name) (CloneOf original out) = (original ≡ name) × AreMissing files out

-- the fileset of a set of files and directories, without limits
pub record MakesFileset (files : Bitfiles) (parts : FilesetParts) (original : Option Name)
    (slot : FilesetSlot) : Type 0 where
  pub role : HasRoleOf files original slot.role
  pub names : Names files slot
  pub valid : IsValidFileset slot.tree
  pub nodes : (tag : Tag) (of : Kind) → IsReached files tag of
      → get slot.tree.nodes (number_of tag) ≡ Some (node_for parts.nodes.items tag of)
  pub limits : slot.tree.limits ≡ empty
