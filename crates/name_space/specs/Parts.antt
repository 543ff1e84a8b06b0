-- What is read of a set of files, before it is a fileset.
use Rattle.std.specs.Prelude.{◌≡◌, ℕ, List, [], ◌∷◌, Option, Some, None, IsSomeAnd, Contains, if◌then◌else◌}
use Rattle.std.specs.Option.{option_map_or}
use Rattle.plain_program.specs.domain_base.declared.place.Kind.{Kind}
use Rattle.plain_program.specs.domain_base.declared.place.Tag.{Tag}
use Rattle.directory_rows.specs.page_store.Bitfiles.{Bitfile, Bitfiles, same_tag}
use Rattle.directory_rows.specs.Directory.{rows_in}
use Rattle.plain_program.specs.legal_histories.Valid.{HasWholePages}
use Rattle.plain_program.specs.fileset_model.declared.node.Node.{Node}
use Rattle.name_space.specs.Changes.{new_node}
use Rattle.name_space.specs.Names.{IsNodeOf}
use Rattle.directory_rows.specs.Ways.{rows_by}
use Rattle.name_space.specs.Rows.{AreFilesetRows}
use Rattle.name_space.specs.declared.parts.FilesetParts.{FilesetParts}
use Rattle.name_space.specs.declared.parts.TaggedNode.{TaggedNode}

-- the first of the nodes that has the tag
abbrev pub node_in : List TaggedNode → Tag → Option TaggedNode
node_in [] tag = None
node_in (one ∷ more) tag = if same_tag one.tag tag then Some one else node_in more tag

-- the node of a tag; if there is none, an empty one of that kind
abbrev pub node_for : List TaggedNode → Tag → Kind → Node
node_for nodes tag of = option_map_or (λ (one : TaggedNode). one.node) (node_in nodes tag) (new_node of 0 0)

-- it is that file or directory, with its bytes
pub record IsNodeFor (file : Bitfile) (one : TaggedNode) : Type 0 where
  pub is : IsNodeOf file one.node
  pub links : one.links ≡ file.links
  pub whole : HasWholePages one.node

abbrev pub IsNodeThere : Option Bitfile → Option TaggedNode → Type 0
IsNodeThere None found = found ≡ None
IsNodeThere (Some file) found = IsSomeAnd found (IsNodeFor file)

-- each file of the set has its node, once
pub record AreNodesOf (files : Bitfiles) (nodes : List TaggedNode) : Type 0 where
  pub each : (tag : Tag) → IsNodeThere (files tag) (node_in nodes tag)
  pub once : (one : TaggedNode) → Contains nodes one → node_in nodes one.tag ≡ Some one

-- these are the rows and the nodes of a set whose rows are those of a fileset
pub record ArePartsOf (files : Bitfiles) (parts : FilesetParts) : Type 0 where
  pub good : AreFilesetRows files
  pub rows : (dir : Tag) → rows_by parts.directories.items dir ≡ rows_in files dir
  pub nodes : AreNodesOf files parts.nodes.items
