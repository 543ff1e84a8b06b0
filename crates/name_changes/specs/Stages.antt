-- Changes of names that are laid over a domain's memory.
use Rattle.std.specs.Prelude.{◌≡◌, ◌-◌, ℕ, Bool, not, None, Some, length, take}
use Rattle.std.specs.FinMap.{get, insert}
use Rattle.std.specs.Option.{option_map}
use Rattle.fileset_lending.specs.domain_base.declared.place.Tag.{Tag}
use Rattle.fileset_lending.specs.fileset_model.Apply.{is_named_elsewhere, link_checks, linked, rename_checks, renamed, with_node, without}
use Rattle.fileset_lending.specs.fileset_model.Fileset.{Fileset}
use Rattle.fileset_lending.specs.fileset_model.Filesets.{FilesetMap}
use Rattle.fileset_lending.specs.fileset_values.Orders.{Path}
use Rattle.fileset_lending.specs.fileset_model.Paths.{first_refusal, is_directory, node_at}
use Rattle.fileset_lending.specs.fileset_model.declared.fileset.FilesetSlot.{FilesetSlot}
use Rattle.fileset_lending.specs.fileset_model.declared.node.Node.{Node}
use Rattle.fileset_lending.specs.fileset_table.declared.slot.FilesetEntry.{FilesetEntry}
use Rattle.fileset_lending.specs.fileset_table.declared.slot.SlotItem.TheVariants as slot
use Rattle.fileset_lending.specs.name_space.Changes.{Checks, free_checks, replaced_number}
use Rattle.fileset_lending.specs.name_space.Names.{is_directory_kind, number_of}
use Rattle.fileset_lending.specs.name_space.declared.create.Created.{Created}
use Rattle.fileset_lending.specs.name_space.declared.fault.NameFault.{NameFault}
use Rattle.fileset_lending.specs.name_space.declared.fault.NameFault.TheVariants.{NoPage, OutOfMemory, Refused}
use Rattle.fileset_lending.specs.name_space.declared.rename.Renamed.{Renamed}
use Rattle.fileset_lending.specs.domain_standing.Domain.{item_in}
use Rattle.fileset_lending.specs.domain_standing.Standing.{AreBooksOf, HaveParents}
use Rattle.fileset_lending.specs.domain_memory.Staged.{IsStaged, MayGoBack, staged_books, staged_in}
use Rattle.fileset_lending.specs.domain_memory.declared.memory.DomainMemory.{DomainMemory}

-- memory stands for these filesets, with the change that is laid over it, and an original in a slot
-- for this one
pub record HasFileset (memory : DomainMemory) (number : ℕ) (all : FilesetMap)
    (entry : FilesetEntry) (fileset : FilesetSlot) : Type 0 where
  pub staged : IsStaged memory all
  pub may : MayGoBack memory
  pub original : item_in (staged_in memory) number ≡ Some (slot.Original entry)
  pub there : get all entry.name ≡ Some fileset

-- it stands for the original with these files beside the others
abbrev pub StandsWith : FilesetMap → FilesetEntry → FilesetSlot → DomainMemory → Fileset → Type 0
StandsWith all entry fileset now tree =
    IsStaged now (insert all entry.name (record fileset { tree = tree }))

-- directories say those in which they stand, if they did
abbrev pub KeepsParents : DomainMemory → DomainMemory → Type 0
KeepsParents memory now = HaveParents (staged_in memory) → HaveParents (staged_in now)

-- books are those of filesets with this one beside the others, if they were those of all
abbrev pub KeepsBooks : DomainMemory → DomainMemory → FilesetMap → FilesetEntry → FilesetSlot
    → Fileset → Type 0
KeepsBooks memory now all entry fileset tree =
    AreBooksOf (staged_books memory) (staged_in memory) all
    → AreBooksOf (staged_books now) (staged_in now)
    (insert all entry.name (record fileset { tree = tree }))

-- a new file or directory stands at a path, under a number that none had
pub record Creates (path : Path) (node : Node) (all : FilesetMap) (entry : FilesetEntry)
    (fileset : FilesetSlot) (now : DomainMemory) (made : Created) : Type 0 where
  pub allowed : first_refusal (free_checks path fileset) ≡ None
  pub fresh : get fileset.tree.nodes (number_of made.tag) ≡ None
  pub into : get fileset.tree.paths (take (length path - 1) path) ≡ Some (number_of made.dir)
  pub staged : StandsWith all entry fileset now
      (with_node path (number_of made.tag) node fileset.tree)

-- a second path leads to a file
pub record Links (path to : Path) (all : FilesetMap) (entry : FilesetEntry) (fileset : FilesetSlot)
    (now : DomainMemory) (tag : Tag) : Type 0 where
  pub allowed : first_refusal (link_checks path to fileset) ≡ None
  pub was : get fileset.tree.paths path ≡ Some (number_of tag)
  pub staged : StandsWith all entry fileset now (linked path to fileset.tree)

-- a path is gone, and with its last path what stood there
pub record Removes (checks : Checks) (path : Path) (all : FilesetMap) (entry : FilesetEntry)
    (fileset : FilesetSlot) (now : DomainMemory) (tag : Tag) (gone : Bool) : Type 0 where
  pub allowed : first_refusal (checks fileset) ≡ None
  pub was : get fileset.tree.paths path ≡ Some (number_of tag)
  pub last : gone ≡ not (is_named_elsewhere fileset.tree path (number_of tag))
  pub staged : StandsWith all entry fileset now (without path fileset.tree)

-- what stood at a path stands at a second one
pub record Renames (path to : Path) (all : FilesetMap) (entry : FilesetEntry)
    (fileset : FilesetSlot) (now : DomainMemory) (answer : Renamed) : Type 0 where
  pub allowed : first_refusal (rename_checks path to fileset) ≡ None
  pub was : get fileset.tree.paths path ≡ Some (number_of answer.moved)
  pub kind : option_map is_directory (node_at fileset.tree path)
      ≡ Some (is_directory_kind answer.kind)
  pub into : get fileset.tree.paths (take (length to - 1) to) ≡ Some (number_of answer.dir)
  pub replaced : option_map number_of answer.replaced ≡ replaced_number path to fileset.tree
  pub staged : StandsWith all entry fileset now (renamed path to fileset.tree)

-- what a fault tells: the first refusal of the checks; or want of a page, which comes only if
-- they refuse nothing
abbrev pub IsRefused : Checks → FilesetSlot → NameFault → Type 0
IsRefused checks fileset (Refused refusal) = first_refusal (checks fileset) ≡ Some refusal
IsRefused checks fileset NoPage = first_refusal (checks fileset) ≡ None
IsRefused checks fileset OutOfMemory = Unit {0}
