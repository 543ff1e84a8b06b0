-- Where paths lead by the rows of directories, whatever has them.
use Rattle.std.specs.Prelude.{◌≡◌, ◌++◌, ℕ, List, [], ◌∷◌, Option, Some, Contains, map, slice_get, if◌then◌else◌}
use Rattle.std.specs.Option.{option_and_then}
use Rattle.directory_pages.specs.domain_base.declared.place.Kind.{Kind}
use Rattle.directory_pages.specs.domain_base.declared.place.Tag.{Tag}
use Rattle.directory_pages.specs.page_store.Bitfiles.{same_tag}
use Rattle.directory_pages.specs.Rows.{found}
use Rattle.directory_pages.specs.declared.row.Row.{Row}
use Rattle.directory_rows.specs.Directory.{NamesOnce}
use Rattle.fileset_values.specs.Orders.{Path}
use Rattle.directory_rows.specs.declared.led.DirectoryRows.{DirectoryRows}
use Rattle.directory_rows.specs.declared.led.Led.{Led}

-- the rows of each tag; of what is no directory none
abbrev pub RowsBy : Type 0
RowsBy = Tag → List Row

-- the tag and kind to which a path leads, by one row after another
abbrev pub led_by : RowsBy → Tag × Kind → Path → Option (Tag × Kind)
led_by rows from [] = Some from
led_by rows from (name ∷ path) =
    option_and_then (λ row. led_by rows row path) (found name (rows from.0))

-- the rows of a directory in a list
abbrev pub rows_by : List DirectoryRows → RowsBy
rows_by [] tag = []
rows_by (one ∷ more) tag = if same_tag one.dir tag then one.rows else rows_by more tag

-- no name stands twice in a directory
abbrev pub HaveNamesOnce : RowsBy → Type 0
HaveNamesOnce rows = (tag : Tag) → NamesOnce (rows tag)

-- a list has each path from a start on that leads somewhere, and what it leads to, and no other
pub record AreAllLed (rows : RowsBy) (from : Tag × Kind) (list : List Led) : Type 0 where
  pub each : (led : Led) → Contains list led
      → led_by rows from led.path ≡ Some (led.tag, led.kind)
  pub all : (path : Path) (tag : Tag) (of : Kind) → led_by rows from path ≡ Some (tag, of)
      → Contains list (record { path = path; tag = tag; kind = of })

-- what a row of the directory at a path names
abbrev pub below : Path → Row → Led
below path row = record { path = path ++ row.name ∷ []; tag = row.tag; kind = row.kind }

-- what stands in one of the list came to its end
abbrev pub AddsBelow : RowsBy → ℕ → List Led → List Led → Type 0
AddsBelow rows at old new = (led : Led) → slice_get old at ≡ Some led
    → new ≡ old ++ map (below led.path) (rows led.tag)
