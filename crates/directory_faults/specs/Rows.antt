-- The rows of a fileset's directories.
use Rattle.std.specs.Prelude.{◌≡◌, ◌↔◌, ◌+◌, ◌<◌, ◌++◌, ℕ, List, [], ◌∷◌, Some, Contains, slice_get}
use Rattle.fileset_shapes.specs.domain_base.declared.place.Kind.TheVariants.{Directory}
use Rattle.fileset_shapes.specs.page_store.Pages.{Pages}
use Rattle.fileset_shapes.specs.directory_pages.RowPage.{IsDirPage, rows_of}
use Rattle.fileset_shapes.specs.directory_pages.declared.row.Row.{Row}
use Rattle.fileset_shapes.specs.fileset_table.Table.{Table}
use Rattle.fileset_shapes.specs.domain_layout.DirectoryRules.{IsEarlier, IsRow, RowPlace}
use Rattle.fileset_shapes.specs.domain_layout.Reached.{Frame, IsWithin}
use Rattle.directory_faults.specs.declared.there.FileThere.{FileThere}
use Rattle.directory_faults.specs.declared.rows.PageAt.{PageAt}
use Rattle.directory_faults.specs.declared.rows.RowThere.{RowThere}

-- the place of a row as the definition of the layout has it
abbrev pub place_of : RowThere → RowPlace
place_of r = record { dir = r.at.dir; page = r.at.page; place = r.place }

-- rows that stand on a page one after the other, from a place on
abbrev pub rows_placed : PageAt → ℕ → List Row → List RowThere
rows_placed at place [] = []
rows_placed at place (row ∷ rows) =
    (record { at = at; place = place; row = row }) ∷ rows_placed at (place + 1) rows

-- rows in the order of their pages and places, as far as they are of one directory
abbrev pub AreInOrder : List RowThere → Type 0
AreInOrder rows = (i j : ℕ) (one other : RowThere) → slice_get rows i ≡ Some one
    → slice_get rows j ≡ Some other → i < j → one.at.dir ≡ other.at.dir
    → IsEarlier (place_of one) (place_of other)

-- all rows of a kind, each once and in order
pub record AreRows (is : RowThere → Type 0) (rows : List RowThere) : Type 0 where
  pub each : (r : RowThere) → Contains rows r ↔ is r
  pub order : AreInOrder rows

-- they were put after others
pub record Adds (is : RowThere → Type 0) (old new : List RowThere) : Type 0 where
  pub more : List RowThere
  pub behind : new ≡ old ++ more
  pub are : AreRows is more

-- a row of the page that stands there, if it is one of rows on its volume
pub record IsRowAt (pages : Pages) (frame : Frame) (at : PageAt) (r : RowThere) : Type 0 where
  pub at_is : r.at ≡ at
  pub within : IsWithin frame at.home
  pub bytes : List ℕ
  pub there : pages at.home ≡ Some bytes
  pub good : IsDirPage bytes
  pub is : slice_get (rows_of bytes) r.place ≡ Some r.row

-- a row of the page with a number of a directory
pub record IsRowOn (pages : Pages) (frame : Frame) (file : FileThere) (page : ℕ) (r : RowThere)
    : Type 0 where
  pub page_is : r.at.page ≡ page
  pub dir : r.at.dir ≡ file.tag
  pub listed : slice_get file.seen.homes.items page ≡ Some (Some r.at.home)
  pub is : IsRowAt pages frame r.at r

-- of one of its pages before a number
abbrev pub IsRowOnPages : Pages → Frame → FileThere → ℕ → RowThere → Type 0
IsRowOnPages pages frame file number r =
    (r.at.page < number) × IsRowOn pages frame file r.at.page r

-- of a directory
abbrev pub IsRowOf : Pages → Frame → FileThere → RowThere → Type 0
IsRowOf pages frame file r =
    (file.seen.is.kind ≡ Directory) × IsRowOn pages frame file r.at.page r

-- a row of the fileset in a slot
abbrev pub IsRowIn : Pages → Frame → Table → ℕ → RowThere → Type 0
IsRowIn pages frame table number r = IsRow pages frame table number (place_of r) r.row r.at.home

-- a list has each row of the fileset in a slot, once and in order
abbrev pub AreRowsIn : Pages → Frame → Table → ℕ → List RowThere → Type 0
AreRowsIn pages frame table number = AreRows (IsRowIn pages frame table number)
