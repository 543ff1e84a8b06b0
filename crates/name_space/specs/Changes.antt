-- What the calls answer that change names.
use Rattle.std.specs.Prelude.{◌≡◌, ◌==◌, ◌+◌, ◌-◌, ◌<◌, ◌≤◌, ℕ, Bool, true, false, not, List, [], ◌∷◌, Option, Some, None, IsSome, Result, Ok, Err, length, get_or, take, if◌then◌else◌}
use Rattle.std.specs.Option.{option_and_then, option_map}
use Rattle.std.specs.FinMap.{get, empty}
use Rattle.plain_program.specs.domain_base.Limits.{max_links}
use Rattle.plain_program.specs.domain_base.Counts.{HasRisen}
use Rattle.plain_program.specs.domain_base.declared.place.Kind.{Kind}
use Rattle.plain_program.specs.domain_base.declared.place.Kind.TheVariants as kind
use Rattle.plain_program.specs.domain_base.declared.place.Tag.{Tag}
use Rattle.directory_rows.specs.page_store.Bitfiles.{Bitfile, Bitfiles, count_index, linked, links_at, same_tag, with_change, with_file, without_file}
use Rattle.directory_rows.specs.page_store.declared.fault.StoreFault.{StoreFault}
use Rattle.directory_rows.specs.page_store.declared.fault.StoreFault.TheVariants as store
use Rattle.directory_rows.specs.directory_pages.Rows.{found, is_row_name}
use Rattle.directory_rows.specs.Directory.{rows_in}
use Rattle.directory_rows.specs.RowChanges.{AddsRow, GetsNoIndex, IsIndexedWhereSmall, KeepsIndex, RemovesRow, adding_changes, removing_changes}
use Rattle.plain_program.specs.fileset_model.Apply.{is_named_elsewhere, link_checks, linked as with_path, not_empty, path_taken, rename_checks, renamed, with_node, without}
use Rattle.plain_program.specs.fileset_model.Fileset.{Fileset}
use Rattle.plain_program.specs.fileset_values.Orders.{Name, Path}
use Rattle.plain_program.specs.fileset_model.Paths.{directory_here, file_here, first_refusal, is_directory, names_one, node_at, refuse_if, target_refusal, walk_refusal}
use Rattle.plain_program.specs.fileset_model.declared.fileset.FilesetSlot.{FilesetSlot}
use Rattle.plain_program.specs.fileset_model.declared.fileset.Role.TheVariants.{Original}
use Rattle.plain_program.specs.fileset_model.declared.node.Node.{Node}
use Rattle.plain_program.specs.fileset_model.declared.node.Node.TheVariants.{File, Directory}
use Rattle.plain_program.specs.fileset_values.declared.reply.Refusal.{Refusal}
use Rattle.plain_program.specs.fileset_values.declared.reply.Refusal.TheVariants.{IsDirectory, NotDirectory, NotEmpty}
use Rattle.plain_program.specs.legal_histories.Valid.{IsValidFileset}
use Rattle.name_space.specs.Names.{Names, is_directory_kind, led_to, number_of}
use Rattle.name_space.specs.Walks.{IsWalked, IsWayTo}
use Rattle.name_space.specs.declared.create.Created.{Created}
use Rattle.name_space.specs.declared.fault.NameFault.{NameFault}
use Rattle.name_space.specs.declared.fault.NameFault.TheVariants.{Refused, NoPage, OutOfMemory}
use Rattle.name_space.specs.declared.link.LinkPlace.{LinkPlace}
use Rattle.name_space.specs.declared.rename.Renamed.{Renamed}
use Rattle.name_space.specs.declared.spot.Spot.{Spot}

-- a fileset that the rows of a set make, and no clone
pub record IsOriginal (files : Bitfiles) (slot : FilesetSlot) : Type 0 where
  pub names : Names files slot
  pub role : slot.role ≡ Original
  pub valid : IsValidFileset slot.tree

-- the set's rows make such a fileset
abbrev pub HasOriginal : Bitfiles → Type 0
HasOriginal files = (slot : FilesetSlot) × IsOriginal files slot

abbrev pub Checks : Type 0
Checks = FilesetSlot → List (Option Refusal)

-- what a fault tells: the first refusal of the checks, after which all is as it was; or, if the
-- checks refuse nothing, that no page was free, which the misses count
abbrev pub IsFaultOf : Checks → Bitfiles → Bitfiles → ℕ → ℕ → NameFault → Type 0
IsFaultOf checks old new before after (Refused refusal) = (new ≡ old)
    × ((slot : FilesetSlot) → IsOriginal old slot → first_refusal (checks slot) ≡ Some refusal)
IsFaultOf checks old new before after NoPage = HasRisen before after
    × ((slot : FilesetSlot) → IsOriginal old slot → first_refusal (checks slot) ≡ None)
IsFaultOf checks old new before after OutOfMemory = Unit {0}

-- what holds where a call was refused
abbrev pub IfRefused : NameFault → Type 0 → Type 0
IfRefused (Refused refusal) holds = holds
IfRefused NoPage holds = Unit {0}
IfRefused OutOfMemory holds = Unit {0}

-- what a call answers whose store failed
abbrev pub fault_of : StoreFault → NameFault
fault_of store.NoPage = NoPage
fault_of store.OutOfMemory = OutOfMemory

-- the last name of a path that has one
abbrev pub last_name : Path → Name
last_name path = get_or path (length path - 1) []

-- nothing stands at a path
abbrev pub free_checks : Path → Checks
free_checks path slot = walk_refusal slot path ∷ path_taken slot path ∷ []

-- the directory of a path at which nothing stands, or what keeps one from being made there
abbrev pub IsFreePlace : Bitfiles → FilesetSlot → Path → Result Tag Refusal → Type 0
IsFreePlace files slot path (Ok dir) = (first_refusal (free_checks path slot) ≡ None)
    × IsWayTo files path (length path - 1) dir × (found (last_name path) (rows_in files dir) ≡ None)
IsFreePlace files slot path (Err refusal) = first_refusal (free_checks path slot) ≡ Some refusal

-- a tag that the set did not have is this file, and a row of a directory names it
pub record IsMade (dir : Tag) (name : Name) (file : Bitfile) (old new : Bitfiles) (tag : Tag)
    : Type 0 where
  pub fresh : old tag ≡ None
  pub adds : AddsRow dir (record { tag = tag; kind = file.kind; name = name })
      (with_file tag file old) new

-- a new file or directory
abbrev pub new_node : Kind → ℕ → ℕ → Node
new_node kind.File uid gid = File uid gid 0 false empty
new_node kind.Directory uid gid = Directory uid gid

-- a directory that got a row keeps its index, has one where it has two to four pages, and gets none
-- where it has one page or more than four; each other that is left has as many index pages
pub record IndexesFollow (dir : Tag) (old new : Bitfiles) : Type 0 where
  pub indexed : IsIndexedWhereSmall dir new
  pub kept : KeepsIndex dir old new
  pub bare : GetsNoIndex dir old new
  pub others : (tag : Tag) → same_tag tag dir ≡ false → IsSome (new tag)
      → count_index new tag ≡ count_index old tag

-- a new node stands at a path, under a number that no node had, and its row in the path's directory
pub record Creates (path : Path) (node : Node) (slot : FilesetSlot) (old new : Bitfiles)
    (made : Created) : Type 0 where
  pub allowed : first_refusal (free_checks path slot) ≡ None
  pub fresh : get slot.tree.nodes (number_of made.tag) ≡ None
  pub into : get slot.tree.paths (take (length path - 1) path) ≡ Some (number_of made.dir)
  pub makes : IsOriginal new
      (record slot { tree = with_node path (number_of made.tag) node slot.tree })
  pub indexes : IndexesFollow made.dir old new

-- ---- names that go

-- something stands at a path
abbrev pub target_checks : Path → Checks
target_checks path slot = target_refusal slot path ∷ []

-- what stands at a path can go in place of a thing of a kind: a file, or a directory without rows
abbrev pub leaf_checks : Kind → Path → Checks
leaf_checks kind.File path slot = directory_here slot path ∷ []
leaf_checks kind.Directory path slot = file_here slot path ∷ not_empty slot path ∷ []

-- such a thing stands at a path
abbrev pub taking_checks : Kind → Path → Checks
taking_checks of path slot = target_refusal slot path ∷ leaf_checks of path slot

-- what is asked of the path of a file that is to go
abbrev pub unlink_checks : Path → Checks
unlink_checks path slot = target_refusal slot path ∷ directory_here slot path ∷ []

-- what is asked of the path of a directory that is to go
abbrev pub rmdir_checks : Path → Checks
rmdir_checks path slot =
    target_refusal slot path ∷ file_here slot path ∷ not_empty slot path ∷ []

-- why a thing does not go in place of one of the first kind, by its kind and whether it has no row
abbrev pub leaf_refusal : Kind → Kind → Bool → Option Refusal
leaf_refusal kind.File of bare = refuse_if (is_directory_kind of) IsDirectory
leaf_refusal kind.Directory of bare =
    first_refusal
    (refuse_if (not (is_directory_kind of)) NotDirectory ∷ refuse_if (not bare) NotEmpty ∷ [])

-- the row to which a path leads, or the first refusal of the checks
abbrev pub IsSpot : Checks → Bitfiles → FilesetSlot → Path → Result Spot Refusal → Type 0
IsSpot checks files slot path (Ok spot) = (first_refusal (checks slot) ≡ None)
    × IsWayTo files path (length path - 1) spot.dir
    × (found (last_name path) (rows_in files spot.dir) ≡ Some (spot.tag, spot.kind))
IsSpot checks files slot path (Err refusal) = first_refusal (checks slot) ≡ Some refusal

-- a file or directory has one link less, or is gone where it had but one
pub record DropsLink (tag : Tag) (old new : Bitfiles) (gone : Bool) : Type 0 where
  pub last : gone ≡ (links_at old tag == 1)
  pub left : new ≡ (if gone then without_file tag old
      else with_change tag (linked (links_at old tag - 1)) old)

-- the row of a name left a directory, and what it named lost that link
pub record TakesName (dir : Tag) (name : Name) (tag : Tag) (old new : Bitfiles) (gone : Bool)
    : Type 0 where
  pub mid : Bitfiles
  pub removes : RemovesRow dir name old mid
  pub drops : DropsLink tag mid new gone

-- a path is gone that led to a tag's number, and with its last path what stood there; what is left
-- has as many index pages as before
pub record Removes (checks : Checks) (path : Path) (slot : FilesetSlot) (old new : Bitfiles)
    (tag : Tag) (gone : Bool) : Type 0 where
  pub allowed : first_refusal (checks slot) ≡ None
  pub was : get slot.tree.paths path ≡ Some (number_of tag)
  pub last : gone ≡ not (is_named_elsewhere slot.tree path (number_of tag))
  pub makes : IsOriginal new (record slot { tree = without path slot.tree })
  pub indexes : (left : Tag) → IsSome (new left) → count_index new left ≡ count_index old left

-- ---- one path more

-- the file at a path, and the directory of a second, if that can be a path of the file; or what is
-- refused
abbrev pub IsLinkPlace : Bitfiles → FilesetSlot → Path → Path → Result LinkPlace Refusal → Type 0
IsLinkPlace files slot path to (Ok place) = (first_refusal (link_checks path to slot) ≡ None)
    × (led_to files path ≡ Some (place.tag, kind.File)) × (rows_in files place.tag ≡ [])
    × (links_at files place.tag < max_links) × IsWayTo files to (length to - 1) place.dir
    × (found (last_name to) (rows_in files place.dir) ≡ None)
IsLinkPlace files slot path to (Err refusal) =
    first_refusal (link_checks path to slot) ≡ Some refusal

-- a directory has a row more, which names a file, and the file has a link more
pub record AddsLink (place : LinkPlace) (name : Name) (old new : Bitfiles) : Type 0 where
  pub mid : Bitfiles
  pub adds : AddsRow place.dir (record { tag = place.tag; kind = kind.File; name = name }) old mid
  pub counted : new ≡ with_change place.tag (linked (links_at mid place.tag + 1)) mid

-- a second path leads to a file, and its row stands in that path's directory
pub record Links (path to : Path) (slot : FilesetSlot) (old new : Bitfiles) (tag : Tag)
    : Type 0 where
  pub allowed : first_refusal (link_checks path to slot) ≡ None
  pub was : get slot.tree.paths path ≡ Some (number_of tag)
  pub dir : Tag
  pub into : get slot.tree.paths (take (length to - 1) to) ≡ Some (number_of dir)
  pub makes : IsOriginal new (record slot { tree = with_path path to slot.tree })
  pub indexes : IndexesFollow dir old new

-- ---- paths that move

-- both paths of a rename were looked at: what stands at the first, and the directory of the second
pub record AreLooked (path to : Path) (spot : Spot) (dir : Tag) (files : Bitfiles) : Type 0 where
  pub names : HasOriginal files
  pub some : 1 ≤ length path
  pub some_to : 1 ≤ length to
  pub name : is_row_name (last_name to) ≡ true
  pub spot_is : (slot : FilesetSlot) → IsOriginal files slot
      → IsSpot (target_checks path) files slot path (Ok spot)
  pub dir_is : (slot : FilesetSlot) → IsOriginal files slot → IsWalked files slot to (Ok dir)

-- what a row names has a row of another name or in another directory in its place
pub record MovesRow (spot : Spot) (name : Name) (dir : Tag) (new_name : Name) (old new : Bitfiles)
    : Type 0 where
  pub mid : Bitfiles
  pub removes : RemovesRow spot.dir name old mid
  pub adds : AddsRow dir (record { tag = spot.tag; kind = spot.kind; name = new_name }) mid new

-- the number of what a rename takes away, if it does
abbrev pub replaced_number : Path → Path → Fileset → Option ℕ
replaced_number path to tree =
    if names_one tree path to then None
    else option_and_then
    (λ number. if is_named_elsewhere tree to number then None else Some number)
    (get tree.paths to)

-- what stood at a path, with all below it, stands at a second one; if both led to one file or
-- directory the set is as it was
pub record Renames (path to : Path) (slot : FilesetSlot) (old new : Bitfiles) (answer : Renamed)
    : Type 0 where
  pub allowed : first_refusal (rename_checks path to slot) ≡ None
  pub was : get slot.tree.paths path ≡ Some (number_of answer.moved)
  pub kind : option_map is_directory (node_at slot.tree path) ≡ Some (is_directory_kind answer.kind)
  pub into : get slot.tree.paths (take (length to - 1) to) ≡ Some (number_of answer.dir)
  pub replaced : option_map number_of answer.replaced ≡ replaced_number path to slot.tree
  pub makes : IsOriginal new (record slot { tree = renamed path to slot.tree })
  pub same : names_one slot.tree path to ≡ true → new ≡ old
  pub indexes : names_one slot.tree path to ≡ false → IndexesFollow answer.dir old new

-- ---- how many changes of a set a call makes at most

-- a new file or directory, and its row
abbrev pub creating_changes : ℕ
creating_changes = 1 + adding_changes

-- a row that goes, and the link that it was
abbrev pub unlinking_changes : ℕ
unlinking_changes = removing_changes + 1

-- a row that comes, and the link that it is
abbrev pub linking_changes : ℕ
linking_changes = adding_changes + 1

-- a path that goes, and a row that goes and comes again
abbrev pub renaming_changes : ℕ
renaming_changes = unlinking_changes + removing_changes + adding_changes
