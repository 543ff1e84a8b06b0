-- What paths a set of files has, by the rows of its directories from the root on, and the fileset
-- that they make.
use Rattle.std.specs.Prelude.{◌≡◌, ◌+◌, ◌*◌, ◌^◌, ◌<◌, ℕ, Bool, true, false, not, is_some, [], ◌∷◌, Option, Some, IsSomeAnd}
use Rattle.std.specs.Option.{option_and_then, option_map}
use Rattle.std.specs.FinMap.{get}
use Rattle.plain_program.specs.domain_base.declared.place.Kind.{Kind}
use Rattle.plain_program.specs.domain_base.declared.place.Kind.TheVariants as kind
use Rattle.plain_program.specs.domain_base.declared.place.Tag.{Tag}
use Rattle.directory_rows.specs.page_store.Bitfiles.{Bitfile, Bitfiles, IsDirectory}
use Rattle.directory_rows.specs.directory_pages.Rows.{found}
use Rattle.directory_rows.specs.Directory.{IsWellFormed, rows_in}
use Rattle.plain_program.specs.fileset_model.LooksLike.{IsShown}
use Rattle.plain_program.specs.fileset_values.Orders.{Path}
use Rattle.plain_program.specs.fileset_model.Paths.{is_directory, is_out_of_sync, paths_to}
use Rattle.plain_program.specs.fileset_model.declared.fileset.FilesetSlot.{FilesetSlot}
use Rattle.plain_program.specs.fileset_model.declared.fileset.Role.TheVariants.{Original}
use Rattle.plain_program.specs.fileset_model.declared.node.Node.{Node}
use Rattle.plain_program.specs.fileset_model.declared.node.Node.TheVariants.{File, Directory}
use Rattle.plain_program.specs.legal_histories.Valid.{IsValidSlot}

-- the number that a tag is in the fileset
abbrev pub number_of : Tag → ℕ
number_of tag = 2 ^ 16 * tag.slot + tag.seq

-- the tag of the root
abbrev pub root_tag : Tag
root_tag = record { slot = 1; seq = 1 }

-- the tag and kind to which a path leads from a directory on, by one row after another
abbrev pub led_from : Bitfiles → Tag × Kind → Path → Option (Tag × Kind)
led_from files from [] = Some from
led_from files from (name ∷ path) =
    option_and_then (λ row. led_from files row path) (found name (rows_in files from.0))

-- the tag and kind to which a path leads from the root on
abbrev pub led_to : Bitfiles → Path → Option (Tag × Kind)
led_to files path = led_from files (root_tag, kind.Directory) path

abbrev pub is_directory_kind : Kind → Bool
is_directory_kind kind.File = false
is_directory_kind kind.Directory = true

-- a file or directory is this node, as far as a set of files tells
abbrev pub IsNodeOf : Bitfile → Node → Type 0
IsNodeOf file (File uid gid size logged pages) =
    (file.kind ≡ kind.File) × (file.uid ≡ uid) × (file.gid ≡ gid)
IsNodeOf file (Directory uid gid) =
    (file.kind ≡ kind.Directory) × (file.uid ≡ uid) × (file.gid ≡ gid)

-- what a tag of this kind, to which a path leads, is in the fileset: a node of the kind; it is out
-- of sync if the set does not have it, and else it is what the set has, under as many paths as that
-- has links
pub record IsShownAs (files : Bitfiles) (slot : FilesetSlot) (tag : Tag) (of : Kind) : Type 0 where
  pub kind : IsSomeAnd (get slot.tree.nodes (number_of tag))
      (λ node. is_directory node ≡ is_directory_kind of)
  pub out : is_out_of_sync slot.role (number_of tag) ≡ not (is_some (files tag))
  pub node : (file : Bitfile) → files tag ≡ Some file
      → (file.kind ≡ of) × IsSomeAnd (get slot.tree.nodes (number_of tag)) (IsNodeOf file)
      × (file.links ≡ paths_to slot.tree (number_of tag))

-- the fileset whose paths are the rows of a set, wherever no directory on the way is out of sync
pub record Names (files : Bitfiles) (slot : FilesetSlot) : Type 0 where
  pub paths : (path : Path) → IsShown slot path
      → get slot.tree.paths path ≡ option_map (λ led. number_of led.0) (led_to files path)
  pub shown : (path : Path) (tag : Tag) (of : Kind) → IsShown slot path
      → led_to files path ≡ Some (tag, of) → IsShownAs files slot tag of
  pub directories : (dir : Tag) → IsDirectory files dir → IsWellFormed files dir
  -- each file of an original has a path, and no two tags are one number: in a clone a file below a
  -- directory that is out of sync has none
  pub live : slot.role ≡ Original → (tag : Tag) (file : Bitfile) → files tag ≡ Some file
      → (path : Path) × (led_to files path ≡ Some (tag, file.kind))
  pub seq : (tag : Tag) (file : Bitfile) → files tag ≡ Some file → tag.seq < 2 ^ 16

-- the set's rows make such a fileset
abbrev pub HasNames : Bitfiles → Type 0
HasNames files = (slot : FilesetSlot) × Names files slot × IsValidSlot slot
