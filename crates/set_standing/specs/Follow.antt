-- What the files of the fileset in one slot keep, and its directories say, while calls change its
-- set of files and directories.
use Rattle.std.specs.Prelude.{◌≡◌, ◌<◌, ◌≤◌, ◌++◌, ℕ, false, List, Option, None, Some, IsSome, IsSomeAnd}
use Rattle.standing_laws.specs.domain_base.declared.place.Home.{Home}
use Rattle.standing_laws.specs.domain_base.declared.place.Kind.TheVariants.{File}
use Rattle.standing_laws.specs.domain_base.declared.place.Tag.{Tag}
use Rattle.standing_laws.specs.metadata_cells.Chain.{PlacedCell}
use Rattle.standing_laws.specs.tag_dirs.declared.dir.TagPlace.{TagPlace}
use Rattle.standing_laws.specs.fileset_files.Creation.{last_sequence}
use Rattle.standing_laws.specs.fileset_files.Files.{AreFiles, Chains}
use Rattle.standing_laws.specs.fileset_files.State.{parent_of}
use Rattle.standing_laws.specs.domain_layout.Seen.{SeenFile, seen_in}
use Rattle.standing_laws.specs.domain_standing.Domain.{DomainNow}

-- a file has the size, the flag and the pages that it had, and these their bytes
pub record IsSameFile (d now : DomainNow) (was is : SeenFile) : Type 0 where
  pub size : is.is.size ≡ was.is.size
  pub logged : is.is.is_logged ≡ was.is.is_logged
  pub homes : (page : ℕ) → is.homes page ≡ was.homes page
  pub bytes : (page : ℕ) (home : Home) → was.homes page ≡ Some home
      → now.contents home ≡ d.contents home

-- it is of the kind and the owner that it was, and a file is the same
pub record IsStill (d now : DomainNow) (was is : SeenFile) : Type 0 where
  pub kind : is.is.kind ≡ was.is.kind
  pub uid : is.is.uid ≡ was.is.uid
  pub gid : is.is.gid ≡ was.is.gid
  pub file : was.is.kind ≡ File → IsSameFile d now was is

-- a file has no byte and no page
pub record IsEmptyFile (is : SeenFile) : Type 0 where
  pub size : is.is.size ≡ 0
  pub logged : is.is.is_logged ≡ false
  pub homes : (page : ℕ) → is.homes page ≡ None

-- what a tag names is what it named; or the tag named nothing, and a file is empty
abbrev pub ComesFrom : DomainNow → DomainNow → Option (List PlacedCell) → SeenFile → Type 0
ComesFrom d now None is = is.is.kind ≡ File → IsEmptyFile is
ComesFrom d now (Some cells) is = IsSomeAnd (seen_in cells) (λ was. IsStill d now was is)

-- the directory of which a parent was said, with that parent, if there is one
abbrev pub Said : Type 0
Said = Option (Tag × Tag)

-- nothing was said of a tag
abbrev pub IsUnsaid : Said → Tag → Type 0
IsUnsaid said tag = (parent : Tag) → ¬ said ≡ Some (tag, parent)

-- the cells that a tag names say what was said of it, and else what those said that it named
pub record SaysParent (said : Said) (tag : Tag) (chain : Option (List PlacedCell))
    (cells : List PlacedCell) : Type 0 where
  pub told : (parent : Tag) → said ≡ Some (tag, parent) → parent_of cells ≡ Some parent
  pub kept : (was : List PlacedCell) → chain ≡ Some was → IsUnsaid said tag
      → parent_of cells ≡ parent_of was

-- so of a tag, and where it named nothing its sequence is behind the last one that its slot had
pub record TagFollows (said : Said) (d now : DomainNow) (last : ℕ) (tag : Tag)
    (chain chain_now : Option (List PlacedCell)) : Type 0 where
  pub fresh : chain ≡ None → IsSome chain_now → last < tag.seq
  pub from : (cells : List PlacedCell) (is : SeenFile) → chain_now ≡ Some cells
      → seen_in cells ≡ Some is → ComesFrom d now chain is
  pub parent : (cells : List PlacedCell) (is : SeenFile) → chain_now ≡ Some cells
      → seen_in cells ≡ Some is → SaysParent said tag chain cells

-- of each tag of the slot
abbrev pub TagsFollow : Said → ℕ → DomainNow → DomainNow → Chains → Chains → Type 0
TagsFollow said number d now chains chains_now = (tag : Tag)
    → TagFollows said d now (last_sequence d.pages (d.tags number) tag.slot) tag (chains tag)
    (chains_now tag)

-- and the tag directory has the pages that it had and more after them, with no lower sequence
pub record FilesFollow (said : Said) (number : ℕ) (d now : DomainNow) : Type 0 where
  pub more : List TagPlace
  pub grows : now.tags number ≡ d.tags number ++ more
  pub sequences : (slot : ℕ) → last_sequence d.pages (d.tags number) slot
      ≤ last_sequence now.pages (now.tags number) slot
  pub files : (chains chains_now : Chains) → AreFiles number (d.tags number) d.pages chains
      → AreFiles number (now.tags number) now.pages chains_now
      → TagsFollow said number d now chains chains_now
