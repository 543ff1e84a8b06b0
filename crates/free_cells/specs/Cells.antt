-- The free cells of a domain's volumes.
use Rattle.std.specs.Prelude.{◌≡◌, ℕ, Bool, not, ◌&&◌, ◌||◌, ◌==◌, nat_lt, List, [], ◌∷◌, ◌++◌, slice_index_or, if◌then◌else◌, map}
use Rattle.metadata_cells.specs.domain_base.declared.place.CellAt.{CellAt}
use Rattle.metadata_cells.specs.domain_base.declared.place.Home.{Home}
use Rattle.metadata_cells.specs.page_store.Pages.{same_home}
use Rattle.metadata_cells.specs.CellPage.{home_of, is_free_in}
use Rattle.metadata_cells.specs.Chain.{is_at}
use Rattle.free_cells.specs.VolumeTable.{KeptTable, VolumeTable, as_kept, no_table, is_among, with_kept}

-- each volume's table, that of volume k at place k - 1
abbrev pub Cells : Type 0
Cells = List VolumeTable

-- what stands in the table of a volume; no table for volume 0, or for one that is not there
abbrev pub volume_of : Cells → ℕ → VolumeTable
volume_of cells vol = slice_index_or (no_table ∷ cells) vol no_table

-- the pages of the volume's table in their order
abbrev pub table_of : Cells → ℕ → List ℕ
table_of cells vol = (volume_of cells vol).table

-- no cell of the volume is handed out
abbrev pub is_closed : Cells → ℕ → Bool
is_closed cells vol = (volume_of cells vol).is_closed

-- the cell is free, on a volume that is closed or not
abbrev pub is_free : Cells → CellAt → Bool
is_free cells at =
    is_among (volume_of cells at.vol).free (record { page = at.page; cell = at.cell })

-- the cell is free, and its volume is not closed
abbrev pub can_take : Cells → CellAt → Bool
can_take cells at = is_free cells at && not (is_closed cells at.vol)

-- the volume's table and free cells as they were kept last
abbrev pub kept_of : Cells → ℕ → KeptTable
kept_of cells vol = (volume_of cells vol).kept

-- the volumes have these tables, these marks, these free cells, and these tables and free cells
-- that were kept
pub record Holds (table : ℕ → List ℕ) (closed : ℕ → Bool) (free : CellAt → Bool)
    (kept : ℕ → KeptTable) (now : Cells) : Type 0 where
  pub tables : (vol : ℕ) → table_of now vol ≡ table vol
  pub marks : (vol : ℕ) → is_closed now vol ≡ closed vol
  pub cells : (at : CellAt) → is_free now at ≡ free at
  pub keeps : (vol : ℕ) → kept_of now vol ≡ kept vol

-- what each volume holds now is kept
abbrev pub all_kept : Cells → Cells
all_kept = map with_kept

-- each volume's table and free cells are the kept ones
abbrev pub taken_back : Cells → Cells
taken_back = map as_kept

-- the tables with this page after the others of its volume
abbrev pub with_page_last : Home → Cells → ℕ → List ℕ
with_page_last home cells vol =
    if vol == home.vol then table_of cells vol ++ home.page ∷ [] else table_of cells vol

-- a cell of the page that stands there
abbrev pub is_on : Home → CellAt → Bool
is_on home at = same_home (home_of at) home && nat_lt at.cell 28

-- a cell is free no more, and all else is as it was
abbrev pub TakesCell : CellAt → Cells → Cells → Type 0
TakesCell at old new =
    Holds (table_of old) (is_closed old) (λ q. not (is_at at q) && is_free old q) (kept_of old) new

-- a cell is free, and all else is as it was
abbrev pub FreesCell : CellAt → Cells → Cells → Type 0
FreesCell at old new =
    Holds (table_of old) (is_closed old) (λ q. is_at at q || is_free old q) (kept_of old) new

-- the page stands after the others of its volume's table, and its cells of the kind of a free one
-- are free
abbrev pub JoinsPage : Home → List ℕ → Cells → Cells → Type 0
JoinsPage home page old new =
    Holds (with_page_last home old) (is_closed old)
    (λ at. is_free old at || (is_on home at && is_free_in page at.cell)) (kept_of old) new

-- a page with every cell free stands after the others of its volume's table
abbrev pub JoinsEmptyPage : Home → Cells → Cells → Type 0
JoinsEmptyPage home old new =
    Holds (with_page_last home old) (is_closed old) (λ at. is_free old at || is_on home at)
    (kept_of old) new
