-- What is always so of filesets.
use Rattle.std.specs.Prelude.{◌≡◌, ℕ, ◌<◌, ◌≤◌, false, List, [], ◌∷◌, ◌++◌, length, IsTrue, IsSome, IsSomeAnd, Some}
use Rattle.std.specs.FinMap as map
use Rattle.fileset_model.specs.domain_base.Limits.{file_pages, max_filesets, max_links, page_bytes}
use Rattle.fileset_model.specs.Filesets.{FilesetMap}
use Rattle.fileset_model.specs.Fileset.{Fileset}
use Rattle.fileset_model.specs.LooksLike.{LooksLikeSlot}
use Rattle.fileset_model.specs.fileset_values.Orders.{Name, Path}
use Rattle.fileset_model.specs.Paths.{node_at, is_directory, paths_to}
use Rattle.fileset_model.specs.Usage.{is_unlimited}
use Rattle.fileset_model.specs.fileset_values.declared.command.Owner.{Owner}
use Rattle.fileset_model.specs.declared.fileset.FilesetSlot.{FilesetSlot}
use Rattle.fileset_model.specs.declared.fileset.Limits.{Limits}
use Rattle.fileset_model.specs.declared.fileset.Role.{Role}
use Rattle.fileset_model.specs.declared.fileset.Role.TheVariants.{Original, CloneOf}
use Rattle.fileset_model.specs.declared.node.Node.{Node}
use Rattle.fileset_model.specs.declared.node.Node.TheVariants.{File, Directory}

-- a directory stands at the path
abbrev pub IsDirectoryAt : Fileset → Path → Type 0
IsDirectoryAt tree path = IsSomeAnd (node_at tree path) (λ node. IsTrue (is_directory node))

-- each page of a file that is there has a number that a file may have, and a page's bytes
abbrev pub HasWholePages : Node → Type 0
HasWholePages (File uid gid size logged pages) =
    (q : ℕ) (page : List ℕ) → map.get pages q ≡ Some page
    → (q < file_pages) × (length page ≡ page_bytes)
HasWholePages (Directory uid gid) = Unit {0}

-- what is so of each fileset
pub record IsValidFileset (tree : Fileset) : Type 0 where
  pub root : IsDirectoryAt tree []
  pub parents : (path : Path) (name : Name)
      → IsTrue (map.contains_key tree.paths (path ++ name ∷ [])) → IsDirectoryAt tree path
  -- a directory's number has one path, a file's at most 1,000
  pub one_path : (p q : Path) (number : ℕ) → IsDirectoryAt tree p
      → map.get tree.paths p ≡ Some number → map.get tree.paths q ≡ Some number → p ≡ q
  pub few_paths : (number : ℕ) → paths_to tree number ≤ max_links
  pub led_to : (path : Path) (number : ℕ) → map.get tree.paths path ≡ Some number
      → IsSome (map.get tree.nodes number)
  pub named : (number : ℕ) (node : Node) → map.get tree.nodes number ≡ Some node
      → (path : Path) × (map.get tree.paths path ≡ Some number)
  pub whole : (number : ℕ) (node : Node) → map.get tree.nodes number ≡ Some node
      → HasWholePages node
  pub limited : (who : Owner) (limits : Limits) → map.get tree.limits who ≡ Some limits
      → is_unlimited limits ≡ false

-- a clone shows what a valid fileset has: more no image shows of it
pub record IsValidClone (slot : FilesetSlot) : Type 0 where
  pub whole : Fileset
  pub valid : IsValidFileset whole
  pub shows : LooksLikeSlot (record slot { tree = whole }) slot

abbrev pub IsValidAs : Role → FilesetSlot → Type 0
IsValidAs Original slot = IsValidFileset slot.tree
IsValidAs (CloneOf original out) slot = IsValidClone slot

abbrev pub IsValidSlot : FilesetSlot → Type 0
IsValidSlot slot = IsValidAs slot.role slot

-- what is so of all filesets: there are at most 16, each is as its role asks, and a clone's
-- original is an original with no other clone
pub record AreValid (all : FilesetMap) : Type 0 where
  pub few : map.len all ≤ max_filesets
  pub each : (name : Name) (slot : FilesetSlot) → map.get all name ≡ Some slot → IsValidSlot slot
  pub originals : (name original : Name) (slot : FilesetSlot) (out : _)
      → map.get all name ≡ Some slot → slot.role ≡ CloneOf original out
      → IsSomeAnd (map.get all original) (λ of. of.role ≡ Original)
  pub one_clone : (p q original : Name) (slot other : FilesetSlot) (out out' : _)
      → map.get all p ≡ Some slot → map.get all q ≡ Some other
      → slot.role ≡ CloneOf original out → other.role ≡ CloneOf original out' → p ≡ q
