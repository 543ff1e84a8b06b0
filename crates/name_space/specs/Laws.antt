-- Laws of the fileset that a set's rows make.
use Rattle.std.specs.Prelude.{◌≡◌, ℕ, Option, Some, None, if◌then◌else◌}
use Rattle.std.specs.FinMap.{get, empty}
use Rattle.plain_program.specs.domain_base.declared.place.Kind.TheVariants as kind
use Rattle.plain_program.specs.domain_base.declared.place.Tag.{Tag}
use Rattle.directory_rows.specs.page_store.Bitfiles.{Bitfiles, new_file, same_tag}
use Rattle.plain_program.specs.fileset_model.Apply.{empty_fileset, with_change}
use Rattle.plain_program.specs.fileset_model.Fileset.{Fileset}
use Rattle.plain_program.specs.fileset_values.Orders.{Name, Path}
use Rattle.plain_program.specs.fileset_model.declared.fileset.FilesetSlot.{FilesetSlot}
use Rattle.plain_program.specs.fileset_model.declared.fileset.Role.TheVariants.{Original, CloneOf}
use Rattle.plain_program.specs.fileset_model.declared.node.Node.{Node}
use Rattle.plain_program.specs.fileset_model.declared.node.Node.TheVariants.{File, Directory}
use Rattle.plain_program.specs.legal_histories.Valid.{IsValidFileset, IsValidSlot}
use Rattle.name_space.specs.Changes.{IsOriginal}
use Rattle.name_space.specs.Names.{Names, number_of, root_tag}

-- a set has a root directory without rows, of user 0 and group 0, and nothing else
abbrev pub IsRootAlone : Bitfiles → Type 0
IsRootAlone files = (tag : Tag)
    → files tag ≡ (if same_tag tag root_tag then Some (new_file kind.Directory 0 0) else None)

-- such a set makes the empty fileset
abbrev pub RootIsOriginal : Type 0
RootIsOriginal = (files : Bitfiles) → IsRootAlone files
    → IsOriginal files (record { tree = empty_fileset (number_of root_tag); role = Original })

-- a node is a file or a directory of the same owner as another, whatever bytes a file has
abbrev pub IsLike : Node → Node → Type 0
IsLike (File uid gid size logged pages) (File uid' gid' size' logged' pages') =
    (uid ≡ uid') × (gid ≡ gid')
IsLike (Directory uid gid) (Directory uid' gid') = (uid ≡ uid') × (gid ≡ gid')
IsLike (File uid gid size logged pages) (Directory uid' gid') = ⊥
IsLike (Directory uid gid) (File uid' gid' size' logged' pages') = ⊥

-- a number is no node in both, or such nodes
abbrev pub AreLike : Option Node → Option Node → Type 0
AreLike None None = Unit {0}
AreLike (Some node) (Some other) = IsLike node other
AreLike None (Some other) = ⊥
AreLike (Some node) None = ⊥

-- a fileset has the paths of another, and under each number such a node
pub record HasSameNames (tree other : Fileset) : Type 0 where
  pub paths : tree.paths ≡ other.paths
  pub nodes : (number : ℕ) → AreLike (get tree.nodes number) (get other.nodes number)

-- the rows make such a fileset too: sizes, pages, flags and limits are not theirs
abbrev pub BytesAreFree : Type 0
BytesAreFree = (files : Bitfiles) (slot : FilesetSlot) (tree : Fileset) → IsOriginal files slot
    → HasSameNames tree slot.tree → IsValidFileset tree
    → IsOriginal files (record slot { tree = tree })

-- a change of the node at a path is such a change of the fileset, if the new node is like the one
-- before
abbrev pub ChangesAreLike : Type 0
ChangesAreLike = (tree : Fileset) (path : Path) (change : Node → Node)
    → ((node : Node) → IsLike (change node) node)
    → HasSameNames (with_change path change tree) tree

-- a clone as it is made of a fileset: with its files and directories, without limits
abbrev pub clone_of : Name → FilesetSlot → FilesetSlot
clone_of name slot = record {
  tree = record slot.tree { limits = empty };
  role = CloneOf name empty;
}

-- the same rows make such a clone
pub record IsCloned (files : Bitfiles) (slot : FilesetSlot) : Type 0 where
  pub names : Names files slot
  pub valid : IsValidSlot slot

-- the rows of an original make its new clone
abbrev pub ClonesHaveNames : Type 0
ClonesHaveNames = (files : Bitfiles) (slot : FilesetSlot) (name : Name) → IsOriginal files slot
    → IsCloned files (clone_of name slot)
