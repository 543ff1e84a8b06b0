-- Laws of directories and of their changes.
use Rattle.std.specs.Prelude.{◌≡◌, false, Some, []}
use Rattle.directory_pages.specs.domain_base.declared.place.Kind.TheVariants.{Directory}
use Rattle.directory_pages.specs.domain_base.declared.place.Tag.{Tag}
use Rattle.directory_pages.specs.page_store.Bitfiles.{Bitfile, Bitfiles, same_tag}
use Rattle.directory_rows.specs.Directory.{IsWellFormed}
use Rattle.directory_rows.specs.RowChanges.{OnlyDirectory}

-- a file or directory has the kind, the owner and the links of another
pub record IsSameNode (file other : Bitfile) : Type 0 where
  pub kind : file.kind ≡ other.kind
  pub uid : file.uid ≡ other.uid
  pub gid : file.gid ≡ other.gid
  pub links : file.links ≡ other.links

-- what a change of a directory alone leaves: what every other tag names, and what the directory is
-- besides its pages and its index
pub record LeavesOthers (dir : Tag) (old new : Bitfiles) : Type 0 where
  pub others : (tag : Tag) → same_tag tag dir ≡ false → new tag ≡ old tag
  pub itself : (file : Bitfile) → old dir ≡ Some file
      → (now : Bitfile) × (new dir ≡ Some now) × IsSameNode now file

-- a change of a directory alone leaves all else
abbrev pub OthersStay : Type 0
OthersStay = (dir : Tag) (old new : Bitfiles) → OnlyDirectory dir old new → LeavesOthers dir old new

-- a file or directory has the kind, the pages and the index pages of another
pub record HasSameRows (file other : Bitfile) : Type 0 where
  pub kind : file.kind ≡ other.kind
  pub pages : file.pages ≡ other.pages
  pub index : file.index ≡ other.index

-- a directory is well formed by its pages and index pages alone, wherever it stands
abbrev pub RowsDecide : Type 0
RowsDecide = (old new : Bitfiles) (was is : Tag) (file now : Bitfile) → old was ≡ Some file
    → new is ≡ Some now → HasSameRows now file → IsWellFormed old was → IsWellFormed new is

-- a directory without pages is well formed
abbrev pub EmptyIsWellFormed : Type 0
EmptyIsWellFormed = (files : Bitfiles) (dir : Tag) (file : Bitfile) → files dir ≡ Some file
    → file.kind ≡ Directory → file.pages ≡ [] → file.index ≡ [] → IsWellFormed files dir
