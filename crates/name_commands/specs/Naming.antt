-- Commands that change names.
use Rattle.std.specs.Prelude.{◌≡◌, ◌⊎◌, ◌≤◌, ℕ, true, [], length}
use Rattle.domain_changes.specs.domain_base.declared.place.Kind.{Kind}
use Rattle.domain_changes.specs.domain_base.declared.place.Kind.TheVariants as kind
use Rattle.domain_changes.specs.directory_pages.Rows.{is_row_name}
use Rattle.domain_changes.specs.fileset_values.Orders.{Path}
use Rattle.domain_changes.specs.fileset_values.declared.command.Command.{Command}
use Rattle.domain_changes.specs.fileset_values.declared.command.Command.TheVariants.{Create, Mkdir}
use Rattle.domain_changes.specs.fileset_values.declared.command.Place.{Place}
use Rattle.domain_changes.specs.name_space.Changes.{last_name}

-- a path that something may get: its last name is one that a row may have
abbrev pub IsNewPath : Path → Type 0
IsNewPath path = (1 ≤ length path) × (is_row_name (last_name path) ≡ true)

-- such a path, or the root's
abbrev pub IsPathToGet : Path → Type 0
IsPathToGet path = (path ≡ []) ⊎ IsNewPath path

-- the command that makes a thing of a kind
abbrev pub creation : Kind → Place → ℕ → ℕ → Command
creation kind.File place uid gid = Create place uid gid
creation kind.Directory place uid gid = Mkdir place uid gid
