-- The free cells of a domain, as far as its tables of cells were read.
use Rattle.std.specs.Prelude.{◌≡◌, ◌↔◌, ◌<◌, ◌≤◌, ℕ, true, false, List, [], length, slice_index, take, Contains, IsSomeAnd}
use Rattle.standing_laws.specs.domain_base.declared.place.CellAt.{CellAt}
use Rattle.standing_laws.specs.page_store.Pages.{Pages}
use Rattle.standing_laws.specs.log_ring.Homes.{IsMember, member_of}
use Rattle.standing_laws.specs.metadata_cells.CellPage.{home_of, is_free_in}
use Rattle.standing_laws.specs.free_cells.Belong.{Belong}
use Rattle.standing_laws.specs.free_cells.Cells.{Cells, is_closed, is_free, table_of}
use Rattle.standing_laws.specs.domain_layout.Layout.{IsCellTable, IsPageAt}
use Rattle.standing_laws.specs.domain_layout.Reached.{Frame, first_cells}

-- the pages of a table of cells of a volume
abbrev pub AreTablePages : Pages → ℕ → List ℕ → Type 0
AreTablePages pages vol table =
    (place : ℕ) → place < length table
    → IsSomeAnd (pages (record { vol = vol; page = slice_index table place }))
    (IsPageAt table place)

-- a cell of the kind of a free one, on a page of its volume's table
pub record IsFreeOn (cells : Cells) (pages : Pages) (at : CellAt) : Type 0 where
  pub table : Contains (table_of cells at.vol) at.page
  pub within : at.cell < 28
  pub free : IsSomeAnd (pages (home_of at)) (λ page. is_free_in page at.cell ≡ true)

-- the free cells are those of the pages of the tables
pub record AreRead (cells : Cells) (pages : Pages) : Type 0 where
  pub belong : Belong cells pages
  pub free : (at : CellAt) → (is_free cells at ≡ true) ↔ IsFreeOn cells pages at

-- the first `count` pages of a volume's table were read, and no others
pub record ReadsTable (pages : Pages) (vol count : ℕ) (table : List ℕ) (old new : Cells) : Type 0
  where
    pub read : AreRead new pages
    pub here : table_of new vol ≡ take count table
    pub others : (other : ℕ) → ¬ other ≡ vol → table_of new other ≡ table_of old other
    pub marks : (other : ℕ) → is_closed new other ≡ is_closed old other

-- a member's table was read; it is closed if and only if the member is
pub record IsTableRead (pages : Pages) (frame : Frame) (vol : ℕ) (cells : Cells) : Type 0 where
  pub table : IsCellTable pages vol (first_cells frame vol) (table_of cells vol)
  pub closed : (is_closed cells vol ≡ true) ↔ ¬ (member_of frame.anchor vol).state ≡ 1

-- the tables of the members below a volume were read, and none of the others
pub record AreReadBelow (pages : Pages) (frame : Frame) (number : ℕ) (cells : Cells) : Type 0 where
  pub read : AreRead cells pages
  pub members : (vol : ℕ) → vol < number → IsMember frame.anchor vol
      → IsTableRead pages frame vol cells
  pub others : (vol : ℕ) → ¬ IsMember frame.anchor vol → table_of cells vol ≡ []
  pub later : (vol : ℕ) → number ≤ vol → (table_of cells vol ≡ []) × (is_closed cells vol ≡ false)
