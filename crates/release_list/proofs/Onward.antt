-- Where a step goes on, by what it left of its entry.
use Rattle.std.proofs.Common.{◌≡◌, Option, Some, None, IfSome, refl}
use Rattle.file_release.specs.domain_base.declared.place.CellAt.{CellAt}
use Rattle.release_list.specs.declared.cursor.Cursor.{Cursor}
use Rattle.release_list.specs.declared.went.Went.TheVariants.{Part}
use Rattle.release_list.specs.Cursors.{IsLeftAt}

-- a cursor of the file, if the entry was left as it was
pub on_part : (file : CellAt) (cursor : Option Cursor) → IfSome cursor (λ c. c.file ≡ file) → IsLeftAt file Part cursor
on_part file None is = tt
on_part file (Some c) is = (refl, is)
