-- What the directory at a path lists.
use Rattle.std.specs.Prelude.{◌≡◌, ℕ, List, Some, length}
use Rattle.plain_program.specs.domain_base.declared.place.Kind.TheVariants.{Directory}
use Rattle.plain_program.specs.domain_base.declared.place.Tag.{Tag}
use Rattle.directory_rows.specs.page_store.Bitfiles.{Bitfiles}
use Rattle.directory_rows.specs.directory_pages.declared.row.Row.{Row}
use Rattle.plain_program.specs.fileset_model.LooksLike.{IsShown}
use Rattle.plain_program.specs.fileset_values.Orders.{Path}
use Rattle.plain_program.specs.fileset_model.Paths.{rows_of}
use Rattle.plain_program.specs.fileset_model.declared.fileset.FilesetSlot.{FilesetSlot}
use Rattle.plain_program.specs.fileset_values.declared.reply.NameItem.{NameItem}
use Rattle.name_space.specs.Names.{is_directory_kind, led_to}

-- what a list shows of a row
abbrev pub item_of : Row → NameItem
item_of row = record { name = row.name; directory = is_directory_kind row.kind }

-- these are the rows of a directory in the fileset, whatever path leads to it
abbrev pub AreRowsOf : Bitfiles → FilesetSlot → Tag → List NameItem → Type 0
AreRowsOf files slot dir list = (path : Path) → IsShown slot path
    → led_to files path ≡ Some (dir, Directory) → list ≡ rows_of slot.tree path

-- this is the number of those rows
abbrev pub IsRowCount : Bitfiles → FilesetSlot → Tag → ℕ → Type 0
IsRowCount files slot dir count = (path : Path) → IsShown slot path
    → led_to files path ≡ Some (dir, Directory) → count ≡ length (rows_of slot.tree path)
