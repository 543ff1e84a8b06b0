-- Sets of files whose rows are those of a fileset: what has to be so of rows and links, whatever has
-- the files.
use Rattle.std.specs.Prelude.{◌≡◌, ◌^◌, ◌<◌, ◌≤◌, ◌↔◌, ℕ, List, [], length, Option, Some, None, IfSome, IsSome, Contains, slice_get}
use Rattle.plain_program.specs.domain_base.Limits.{max_links}
use Rattle.plain_program.specs.domain_base.declared.place.Kind.{Kind}
use Rattle.plain_program.specs.domain_base.declared.place.Kind.TheVariants.{Directory, File}
use Rattle.plain_program.specs.domain_base.declared.place.Tag.{Tag}
use Rattle.directory_rows.specs.page_store.Bitfiles.{Bitfile, Bitfiles, IsDirectory}
use Rattle.directory_rows.specs.directory_pages.Rows.{found}
use Rattle.directory_rows.specs.Directory.{IsWellFormed, rows_in}
use Rattle.plain_program.specs.fileset_values.Orders.{Name, Path}
use Rattle.name_space.specs.Names.{led_to, root_tag}

-- a name in a directory
pub record NameIn : Type 0 where
  pub dir : Tag
  pub name : Name

-- the tag and kind to which its row leads
abbrev pub row_of : Bitfiles → NameIn → Option (Tag × Kind)
row_of files at = found at.name (rows_in files at.dir)

-- these are all names whose rows lead to a tag, each once
pub record AreNamesOf (files : Bitfiles) (tag : Tag) (names : List NameIn) : Type 0 where
  pub each : (at : NameIn) → Contains names at ↔ ((of : Kind) × (row_of files at ≡ Some (tag, of)))
  pub once : (j k : ℕ) (at : NameIn) → slice_get names j ≡ Some at → slice_get names k ≡ Some at
      → j ≡ k

-- no directory is missing: neither the root, nor one to which a path leads
pub record AreAllThere (files : Bitfiles) : Type 0 where
  pub root : IsSome (files root_tag)
  pub reached : (path : Path) (tag : Tag) → led_to files path ≡ Some (tag, Directory)
      → IsSome (files tag)

-- no path leads to a directory
abbrev pub IsBeside : Bitfiles → Tag → Type 0
IsBeside files tag = (path : Path) → ¬ led_to files path ≡ Some (tag, Directory)

-- how many rows lead to what a tag names: no more than one to a directory, and to a file as many as
-- its links, if no directory is missing; if one is, fewer may be found
abbrev pub IsCounted : Bitfiles → Option Bitfile → ℕ → Type 0
IsCounted files None count = count ≤ max_links
IsCounted files (Some file) count = (file.links ≤ max_links) × (1 ≤ file.links)
    × (file.kind ≡ Directory → file.links ≡ 1)
    × (file.kind ≡ File → (count ≤ file.links) × (AreAllThere files → count ≡ file.links))

-- the rows of a set are those of a fileset
pub record AreFilesetRows (files : Bitfiles) : Type 0 where
  pub directories : (dir : Tag) → IsDirectory files dir → IsWellFormed files dir
  pub seq : (tag : Tag) (file : Bitfile) → files tag ≡ Some file → tag.seq < 2 ^ 16
  pub root : (file : Bitfile) → files root_tag ≡ Some file → file.kind ≡ Directory
  -- a row stands in a directory, and leads to something of its kind, and not to the root
  pub inside : (at : NameIn) → IsSome (row_of files at) → IsDirectory files at.dir
  pub kinds : (at : NameIn) (tag : Tag) (of : Kind) → row_of files at ≡ Some (tag, of)
      → IfSome (files tag) (λ file. file.kind ≡ of)
  pub below : (at : NameIn) (tag : Tag) (of : Kind) → row_of files at ≡ Some (tag, of)
      → ¬ tag ≡ root_tag
  -- one row leads to a directory, and as many to a file as it has links
  pub one : (a b : NameIn) (tag : Tag) (of : Kind) → row_of files a ≡ Some (tag, Directory)
      → row_of files b ≡ Some (tag, of) → a ≡ b
  pub counted : (tag : Tag) → (names : List NameIn) × AreNamesOf files tag names
      × IsCounted files (files tag) (length names)
  -- no directory is beside the root, if none is missing
  pub reached : AreAllThere files → (tag : Tag) → IsDirectory files tag → ¬ IsBeside files tag

-- nothing is missing, as in an original
pub record AreWhole (files : Bitfiles) : Type 0 where
  pub root : IsSome (files root_tag)
  pub rows : (at : NameIn) (tag : Tag) (of : Kind) → row_of files at ≡ Some (tag, of)
      → IsSome (files tag)
