-- Where steps go on, of a domain whose files are told.
use Rattle.std.specs.Prelude.{Option, IfSome, IsSome}
use Rattle.release_list.specs.declared.cursor.Cursor.{Cursor}
use Rattle.release_list.specs.Cursors.{IsAhead}
use Rattle.release_list.specs.Steps.{Now}

-- no cursor is there, or its cell is one of its file, which is one of the domain's
abbrev pub GoesOnIn : Now → Option Cursor → Type 0
GoesOnIn now cursor = IsAhead now.pages cursor × IfSome cursor (λ c. IsSome (now.files c.file))
