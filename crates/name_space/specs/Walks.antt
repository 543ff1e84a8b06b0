-- What a walk along a path answers.
use Rattle.std.specs.Prelude.{◌≡◌, ◌-◌, ◌≤◌, ℕ, Some, None, Result, Ok, Err, length, take}
use Rattle.plain_program.specs.domain_base.declared.place.Kind.{Kind}
use Rattle.plain_program.specs.domain_base.declared.place.Kind.TheVariants.{Directory}
use Rattle.plain_program.specs.domain_base.declared.place.Tag.{Tag}
use Rattle.directory_rows.specs.page_store.Bitfiles.{Bitfiles, IsDirectory}
use Rattle.plain_program.specs.fileset_values.Orders.{Path}
use Rattle.plain_program.specs.fileset_model.Paths.{directory_refusal, target_refusal, walk_refusal}
use Rattle.plain_program.specs.fileset_model.declared.fileset.FilesetSlot.{FilesetSlot}
use Rattle.plain_program.specs.fileset_values.declared.reply.Refusal.{Refusal}
use Rattle.name_space.specs.Names.{led_to}

-- the first `count` names of a path lead to a directory that the set has
pub record IsWayTo (files : Bitfiles) (path : Path) (count : ℕ) (dir : Tag) : Type 0 where
  pub led : led_to files (take count path) ≡ Some (dir, Directory)
  pub there : IsDirectory files dir

-- none of the directories of the first names refuses a look, up to that of `count` names
abbrev pub IsClear : FilesetSlot → Path → ℕ → Type 0
IsClear slot path count =
    (before : ℕ) → before ≤ count → directory_refusal slot (take before path) ≡ None

-- the directory of the first `count` names of a path, or what keeps from looking names up in it
abbrev pub IsAtDirectory : Bitfiles → FilesetSlot → Path → ℕ → Result Tag Refusal → Type 0
IsAtDirectory files slot path count (Ok dir) =
    (directory_refusal slot (take count path) ≡ None) × IsWayTo files path count dir
IsAtDirectory files slot path count (Err refusal) =
    directory_refusal slot (take count path) ≡ Some refusal

-- the directory of a path's last name, or what the way to it refuses
abbrev pub IsWalked : Bitfiles → FilesetSlot → Path → Result Tag Refusal → Type 0
IsWalked files slot path (Ok dir) =
    (walk_refusal slot path ≡ None) × IsWayTo files path (length path - 1) dir
IsWalked files slot path (Err refusal) = walk_refusal slot path ≡ Some refusal

-- what stands at a path, or what is refused
abbrev pub IsTarget : Bitfiles → FilesetSlot → Path → Result (Tag × Kind) Refusal → Type 0
IsTarget files slot path (Ok led) =
    (target_refusal slot path ≡ None) × (led_to files path ≡ Some led)
IsTarget files slot path (Err refusal) = target_refusal slot path ≡ Some refusal
