-- The rows of a directory by the homes of its pages.
use Rattle.std.specs.Prelude.{◌≡◌, ℕ, List, [], Option, Some, IfSome, slice_get}
use Rattle.std.specs.List.{flat_map}
use Rattle.std.specs.Option.{option_and_then, option_map_or}
use Rattle.directory_pages.specs.domain_base.declared.place.Home.{Home}
use Rattle.directory_pages.specs.page_store.Pages.{Pages}
use Rattle.directory_pages.specs.RowPage.{IsDirPage, rows_of}
use Rattle.directory_pages.specs.declared.row.Row.{Row}

-- the rows of the page at a home; if there is no home, or no page stands there, none
abbrev pub rows_at : Pages → Option Home → List Row
rows_at pages home = option_map_or rows_of (option_and_then pages home) []

-- the rows of the pages at homes, page after page
abbrev pub rows_of_homes : Pages → List (Option Home) → List Row
rows_of_homes pages homes = flat_map (rows_at pages) homes

-- what stands at a home is a directory page
abbrev pub IsRowsAt : Pages → Option Home → Type 0
IsRowsAt pages home = IfSome (option_and_then pages home) IsDirPage

-- a page of rows stands at each of these homes
abbrev pub AreRowPages : Pages → List (Option Home) → Type 0
AreRowPages pages homes = (number : ℕ) (home : Option Home) → slice_get homes number ≡ Some home
    → IsRowsAt pages home
