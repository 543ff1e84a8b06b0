-- The table of one volume: its pages, and which of their cells are free.
use Rattle.std.specs.Prelude.{◌≡◌, ℕ, ◌+◌, ◌*◌, ◌<◌, ◌≤◌, Bool, true, false, ◌&&◌, ◌==◌, nat_lt, List, [], ◌++◌, length, take, Contains, refl}
use Rattle.std.specs.List.{IsDistinct, list_any}
use Rattle.std.specs.Coded.{Coded, code_by, coded×, coded_ℕ, coded_bool, coded_list}
use Rattle.metadata_cells.specs.CellPage.{is_free_in}
use Rattle.free_cells.specs.declared.volume.FreeCell.{FreeCell}

-- the pages of a volume's table in their order, and which of its cells are free
pub record KeptTable : Type 0 where
  pub table : List ℕ
  pub free : List FreeCell

-- the pages and free cells as they are now, and as they were when they were last kept; and whether
-- the volume is closed
pub record VolumeTable : Type 0 where
  pub table : List ℕ
  pub free : List FreeCell
  pub is_closed : Bool
  pub kept : KeptTable

abbrev cells_code : Coded (List FreeCell)
cells_code =
    coded_list
    (code_by (ℕ × ℕ) (coded× coded_ℕ coded_ℕ) (λ f. (f.page, f.cell))
    (λ p. record { page = p.0; cell = p.1 }) (λ _. refl))

abbrev kept_code : Coded KeptTable
kept_code =
    code_by (List ℕ × List FreeCell) (coded× (coded_list coded_ℕ) cells_code)
    (λ k. (k.table, k.free)) (λ p. record { table = p.0; free = p.1 }) (λ _. refl)

abbrev pub volume_code : Coded VolumeTable
volume_code =
    code_by (List ℕ × (List FreeCell × (Bool × KeptTable)))
    (coded× (coded_list coded_ℕ) (coded× cells_code (coded× coded_bool kept_code)))
    (λ v. (v.table, (v.free, (v.is_closed, v.kept))))
    (λ p. record { table = p.0; free = p.1.0; is_closed = p.1.1.0; kept = p.1.1.1 })
    (λ _. refl)

-- no page and no free cell was kept
abbrev pub nothing_kept : KeptTable
nothing_kept = record { table = []; free = [] }

-- no page, and so no cell
abbrev pub no_table : VolumeTable
no_table = record { table = []; free = []; is_closed = false; kept = nothing_kept }

-- what the volume holds now is kept
abbrev pub with_kept : VolumeTable → VolumeTable
with_kept v = record v { kept = record { table = v.table; free = v.free } }

-- the table and the free cells are the kept ones
abbrev pub as_kept : VolumeTable → VolumeTable
as_kept v = record v { table = v.kept.table; free = v.kept.free }

-- two free cells of a volume are one
abbrev pub same_cell : FreeCell → FreeCell → Bool
same_cell a b = (a.page == b.page) && (a.cell == b.cell)

-- a cell is one of these free ones
abbrev pub is_among : List FreeCell → FreeCell → Bool
is_among free f = list_any (same_cell f) free

-- a free cell of the page with this number
abbrev pub is_free_there : ℕ → List ℕ → FreeCell → Bool
is_free_there number page f = (f.page == number) && (nat_lt f.cell 28 && is_free_in page f.cell)

-- a cell of one of the table's pages
abbrev pub IsOn : List ℕ → FreeCell → Type 0
IsOn table f = Contains table f.page × (f.cell < 28)

-- each free cell is one of a page of the table
abbrev pub AreOn : VolumeTable → Type 0
AreOn v = (f : FreeCell) → is_among v.free f ≡ true → IsOn v.table f

-- the volume has this table, this mark, these free cells, and this was kept
pub record VolumeIs (table : List ℕ) (is_closed : Bool) (free : FreeCell → Bool) (kept : KeptTable)
    (v : VolumeTable) : Type 0 where
  pub pages : v.table ≡ table
  pub mark : v.is_closed ≡ is_closed
  pub cells : (f : FreeCell) → is_among v.free f ≡ free f
  pub keeps : v.kept ≡ kept

-- the kept cells that are still free, and after them those that came later
abbrev pub free_now : List FreeCell → ℕ → List FreeCell → List FreeCell
free_now kept live fresh = take live kept ++ fresh

-- what is always so: no free cell stands twice, of those that are free now or were; and there is
-- room for each cell of the table to be free, and for the free ones to be kept
pub record IsSound (table : List ℕ) (pages : ℕ) (kept : List FreeCell) (live : ℕ)
    (fresh : List FreeCell) (room fresh_room : ℕ) : Type 0 where
  pub within : pages ≤ length table
  pub among : live ≤ length kept
  pub apart : IsDistinct same_cell (free_now kept live fresh)
  pub kept_apart : IsDistinct same_cell kept
  pub enough : 28 * length table ≤ room
  pub fresh_enough : 28 * length table ≤ fresh_room
  pub fits : live + length fresh ≤ room
