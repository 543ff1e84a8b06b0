-- Rows of the list of faults, as the program has them.
use Rattle.std.specs.Prelude.{◌↔◌, ℕ, List, map, Contains}
use Rattle.slot_files.specs.domain_base.declared.place.Home.{Home}
use Rattle.slot_files.specs.domain_layout.Faults.{AreInOrder, FaultRow}
use Rattle.domain_faults.specs.declared.rows.FaultRow.{FaultRow as Told}
use Rattle.domain_faults.specs.declared.rows.Rule.{Rule}
use Rattle.domain_faults.specs.declared.rows.Rule.TheVariants.{Table, Cells, Tags, Extents, Bitmaps, Directories, Indexes}

-- the code of each rule, as the format has them
abbrev pub code_of : Rule → ℕ
code_of Table = 4
code_of Cells = 5
code_of Tags = 6
code_of Extents = 7
code_of Bitmaps = 8
code_of Directories = 9
code_of Indexes = 10

-- a row of the program as the definitions have it
abbrev pub row_there : Told → FaultRow
row_there row = record { code = code_of row.rule; home = row.home }

abbrev pub rows_there : List Told → List FaultRow
rows_there rows = map row_there rows

-- a row with this code for each home of a set
abbrev pub row_of : ℕ → ℕ × Home → FaultRow
row_of code entry = record { code = code; home = entry.1 }

-- a row with this code for each home
abbrev pub rows_of : ℕ → List (ℕ × Home) → List FaultRow
rows_of code homes = map (row_of code) homes

-- a list has all rows of a kind and no others, each once and in order
pub record AreRowsOf (is : FaultRow → Type 0) (rows : List FaultRow) : Type 0 where
  pub each : (row : FaultRow) → Contains rows row ↔ is row
  pub order : AreInOrder rows
