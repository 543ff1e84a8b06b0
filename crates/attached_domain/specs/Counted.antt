-- What the files and directories that were read of a fileset count in its book.
use Rattle.std.specs.Prelude.{◌≡◌, ◌+◌, ◌*◌, ◌&&◌, ℕ, Bool, not, List, Option, Some, length, filter, is_some, slice_get, sum_by, if◌then◌else◌}
use Rattle.no_faults.specs.domain_base.Limits.{blocks_per_page}
use Rattle.no_faults.specs.domain_base.declared.place.Home.{Home}
use Rattle.no_faults.specs.domain_base.declared.place.Kind.{Kind}
use Rattle.no_faults.specs.domain_base.declared.place.Kind.TheVariants.{Directory, File}
use Rattle.no_faults.specs.page_store.Bitfiles.{same_tag}
use Rattle.no_faults.specs.fileset_model.Usage.{is_owned}
use Rattle.no_faults.specs.fileset_values.declared.command.Owner.{Owner}
use Rattle.no_faults.specs.name_space.Names.{root_tag}
use Rattle.no_faults.specs.quota_book.Book.{Book, used}
use Rattle.no_faults.specs.filesets_reading.Seen.{HasFewHomes}
use Rattle.no_faults.specs.fileset_shapes.declared.found.TaggedFile.{TaggedFile}

-- how many pages of a file are there
abbrev pub pages_there : List (Option Home) → ℕ
pages_there homes = length (filter is_some homes)

-- how many blocks they take: those of a directory count none
abbrev pub blocks_if : Kind → List (Option Home) → ℕ
blocks_if Directory homes = 0
blocks_if File homes = blocks_per_page * pages_there homes

-- the blocks that the pages of a file take that are there, and none of a directory
abbrev pub blocks_there : TaggedFile → ℕ
blocks_there file = blocks_if file.seen.is.kind file.seen.homes.items

-- whether a file or directory counts for an owner: it is the owner's, and not the root
abbrev pub counts_for : Owner → TaggedFile → Bool
counts_for who file = is_owned who file.seen.is.uid file.seen.is.gid
    && not (same_tag file.tag root_tag)

-- how many files a file counts for an owner: 1 if it is the owner's and not the root, else 0
abbrev pub files_of : Owner → TaggedFile → ℕ
files_of who file = if counts_for who file then 1 else 0

-- how many blocks it counts for an owner
abbrev pub blocks_of : Owner → TaggedFile → ℕ
blocks_of who file = if counts_for who file then blocks_there file else 0

-- what a file counts is added to a book
pub record Counts (file : TaggedFile) (old new : Book) : Type 0 where
  pub files : (who : Owner) → (used new who).files ≡ (used old who).files + files_of who file
  pub blocks : (who : Owner) → (used new who).blocks ≡ (used old who).blocks + blocks_of who file
  pub limits : new.limits ≡ old.limits

-- what files count is added to a book
pub record CountsAll (files : List TaggedFile) (old new : Book) : Type 0 where
  pub files_used : (who : Owner) → (used new who).files
      ≡ (used old who).files + sum_by (files_of who) files
  pub blocks_used : (who : Owner) → (used new who).blocks
      ≡ (used old who).blocks + sum_by (blocks_of who) files
  pub limits : new.limits ≡ old.limits

-- none has more homes than a file has pages
abbrev pub HaveFewHomes : List TaggedFile → Type 0
HaveFewHomes files = (place : ℕ) (file : TaggedFile) → slice_get files place ≡ Some file
    → HasFewHomes file.seen
