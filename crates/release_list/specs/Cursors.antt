-- Where a step goes on.
use Rattle.std.specs.Prelude.{◌≡◌, ℕ, List, Option, Some, Contains, IfSome}
use Rattle.file_release.specs.domain_base.declared.place.CellAt.{CellAt}
use Rattle.file_release.specs.page_store.Pages.{Pages}
use Rattle.file_release.specs.declared.reader.OwnPages.{OwnPages}
use Rattle.file_release.specs.Sharing.{IsWithin}
use Rattle.release_list.specs.Listing.{Listing}
use Rattle.release_list.specs.declared.cursor.Cursor.{Cursor}
use Rattle.release_list.specs.declared.list.Entry.{Entry}
use Rattle.release_list.specs.declared.went.Went.{Went}
use Rattle.release_list.specs.declared.went.Went.TheVariants.{Part}

-- no cursor is there, or its cell is one of its file
abbrev pub IsAhead : Pages → Option Cursor → Type 0
IsAhead pages cursor = IfSome cursor (λ c. IsWithin pages c.file (Some c.at))

-- no cursor is there, or it is of the file of one of the entries
abbrev pub IsOfEntry : List Entry → Option Cursor → Type 0
IsOfEntry entries cursor = IfSome cursor (λ c. (entry : Entry) × Contains entries entry
    × (entry.at ≡ c.file))

-- no cursor is there, or a step left the entry of a file as it was, and it is of that file
abbrev pub IsLeftAt : CellAt → Went → Option Cursor → Type 0
IsLeftAt file went cursor = IfSome cursor (λ c. (went ≡ Part) × (c.file ≡ file))

-- a list of what is to be let go of; where the next step goes on; what is known of the clone's file
-- that reads through the file that loses something there; and for how many more entries there is
-- room
pub record Deferral : Type 0 where
  pub list : Listing
  pub cursor : Option Cursor
  pub known : Option OwnPages
  pub room : ℕ
