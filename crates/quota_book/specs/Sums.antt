-- A book whose totals are the sums over a fileset's files and directories, and changes of one.
use Rattle.std.specs.Prelude.{◌≡◌, ◌+◌, ◌==◌, ℕ, false, [], Option, Some, None, if◌then◌else◌}
use Rattle.std.specs.Ordering.{nat_cmp}
use Rattle.std.specs.Option.{option_map_or}
use Rattle.std.specs.FinMap as map
use Rattle.fileset_model.specs.Fileset.{Fileset}
use Rattle.fileset_model.specs.Usage.{blocks_of, is_owned, is_owners, used_blocks, used_files}
use Rattle.fileset_model.specs.fileset_values.declared.command.Owner.{Owner}
use Rattle.fileset_model.specs.declared.node.Node.{Node}
use Rattle.fileset_model.specs.declared.node.Node.TheVariants.{File, Directory}
use Rattle.quota_book.specs.Book.{Book, used}

-- the totals are the sums from scratch, and the limits are the fileset's
pub record IsBookOf (book : Book) (tree : Fileset) : Type 0 where
  pub files : (who : Owner) → (used book who).files ≡ used_files tree who
  pub blocks : (who : Owner) → (used book who).blocks ≡ used_blocks tree who
  pub limits : book.limits ≡ tree.limits

-- the files and directories with this under a number, or without the number
abbrev pub with_entry : ℕ → Option Node → map.FinMap nat_cmp Node → map.FinMap nat_cmp Node
with_entry number (Some node) nodes = map.insert nodes number node
with_entry number None nodes = map.remove nodes number

-- the number is not the root's
abbrev pub IsNotRoot : Fileset → ℕ → Type 0
IsNotRoot tree number = option_map_or (λ n. n == number) (map.get tree.paths []) false ≡ false

-- what has a number that is not the root's was this, and is that
pub record ChangesNode (number : ℕ) (was is : Option Node) (old new : Fileset) : Type 0 where
  pub not_root : IsNotRoot old number
  pub root : map.get new.paths [] ≡ map.get old.paths []
  pub before : map.get old.nodes number ≡ was
  pub after : new.nodes ≡ with_entry number is old.nodes
  pub limits : new.limits ≡ old.limits

-- what a file or directory counts for an owner
abbrev pub files_for : Owner → Option Node → ℕ
files_for who node = option_map_or (λ n. if is_owners who n then 1 else 0) node 0

-- the blocks that a node counts for an owner
abbrev pub blocks_for : Owner → Option Node → ℕ
blocks_for who node = option_map_or (λ n. if is_owners who n then blocks_of n else 0) node 0

-- one counts `files` more files and `blocks` more blocks of these ids than another
pub record CountsMore (uid gid files blocks : ℕ) (less more : Option Node) : Type 0 where
  pub more_files : (who : Owner) → files_for who more
      ≡ files_for who less + (if is_owned who uid gid then files else 0)
  pub more_blocks : (who : Owner) → blocks_for who more
      ≡ blocks_for who less + (if is_owned who uid gid then blocks else 0)

-- the ids of a file or directory
abbrev pub uid_of : Node → ℕ
uid_of (File uid gid size logged pages) = uid
uid_of (Directory uid gid) = uid

abbrev pub gid_of : Node → ℕ
gid_of (File uid gid size logged pages) = gid
gid_of (Directory uid gid) = gid
