-- Chains of cells, over any function from home to page.
use Rattle.std.specs.Prelude.{◌≡◌, ◌+◌, ◌*◌, ◌^◌, ◌⊎◌, ◌==◌, ◌&&◌, ◌++◌, [], ◌∷◌, ℕ, Bool, true, false, List, map, Some, None, Contains}
use Rattle.std.specs.List.{flat_map, AllByRecursion}
use Rattle.page_store.specs.domain_base.declared.place.CellAt.{CellAt}
use Rattle.page_store.specs.Pages.{Pages}
use Rattle.cell_records.specs.declared.record.Record.{Record}
use Rattle.metadata_cells.specs.declared.head.CellHead.{CellHead}
use Rattle.metadata_cells.specs.declared.head.CellKind.{CellKind}
use Rattle.metadata_cells.specs.declared.head.CellKind.TheVariants.{Primary, Chain, Quota}
use Rattle.metadata_cells.specs.Cell.{Cell, HasHead, IsCell}
use Rattle.metadata_cells.specs.CellPage.{cell_at}

-- a cell in use stands there, with these records
pub record StandsAt (pages : Pages) (at : CellAt) (cell : Cell) : Type 0 where
  pub bytes : List ℕ
  pub there : cell_at pages at ≡ Some bytes
  pub is : IsCell bytes cell

-- a cell in use with this head stands there, whatever its records are
pub record HasHeadAt (pages : Pages) (at : CellAt) (head : CellHead) : Type 0 where
  pub bytes : List ℕ
  pub there : cell_at pages at ≡ Some bytes
  pub size : ℕ
  pub is : HasHead bytes head size

-- the kinds of cells that a cell may lead to: a file's first cell and a chain cell to a chain cell,
-- a quota cell to a quota cell
abbrev pub may_follow : CellKind → CellKind → Bool
may_follow Primary Chain = true
may_follow Chain Chain = true
may_follow Quota Quota = true
may_follow _ _ = false

-- a cell and its place
pub record PlacedCell : Type 0 where
  pub at : CellAt
  pub cell : Cell

abbrev pub places : List PlacedCell → List CellAt
places cells = map (λ (c : PlacedCell). c.at) cells

-- a number for each cell
abbrev pub key_of : CellAt → ℕ
key_of at = (at.vol * 2 ^ 32 + at.page) * 256 + at.cell

-- the cells that were passed from a place on, and the one that was come to: each stands where the
-- one before it leads, and none was passed twice
pub data Path (pages : Pages) (start : CellAt) : List PlacedCell → PlacedCell → Type 0 where
  begins : (cell : Cell) → StandsAt pages start cell
      → Path pages start [] (record { at = start; cell = cell })
  goes_on : (passed : List PlacedCell) (last : PlacedCell) (at : CellAt) (cell : Cell)
      → Path pages start passed last → last.cell.head.next ≡ Some at
      → ¬ Contains (places (passed ++ last ∷ [])) at
      → StandsAt pages at cell → may_follow last.cell.head.kind cell.head.kind ≡ true
      → Path pages start (passed ++ last ∷ []) (record { at = at; cell = cell })

-- a chain: a path that ends where no cell is next
pub record IsChain (pages : Pages) (start : CellAt) (cells : List PlacedCell) : Type 0 where
  pub passed : List PlacedCell
  pub last : PlacedCell
  pub path : Path pages start passed last
  pub ends : last.cell.head.next ≡ None
  pub all : cells ≡ passed ++ last ∷ []

-- the cells that come after a head: each stands where the one before it leads, and may follow it,
-- and the last leads to none
abbrev pub Follow : Pages → CellHead → List PlacedCell → Type 0
Follow pages head [] = head.next ≡ None
Follow pages head (c ∷ cs) = (head.next ≡ Some c.at)
    × (may_follow head.kind c.cell.head.kind ≡ true) × StandsAt pages c.at c.cell
    × Follow pages c.cell.head cs

-- no two of the cells stand at one place
abbrev pub AreDistinct : List PlacedCell → Type 0
AreDistinct [] = Unit {0}
AreDistinct (c ∷ cs) = (¬ Contains (places cs) c.at) × AreDistinct cs

-- a cell, and those that follow it: so a chain is said cell by cell
pub record AreLinked (pages : Pages) (first : PlacedCell) (rest : List PlacedCell) : Type 0 where
  pub stands : StandsAt pages first.at first.cell
  pub follow : Follow pages first.cell.head rest
  pub distinct : AreDistinct (first ∷ rest)

-- such cells from a place on
abbrev pub LinksFrom : Pages → CellAt → List PlacedCell → Type 0
LinksFrom pages start [] = ⊥
LinksFrom pages start (first ∷ rest) = (first.at ≡ start) × AreLinked pages first rest

-- the records of a chain, in its order
abbrev pub records_of : List PlacedCell → List Record
records_of cells = flat_map (λ (c : PlacedCell). c.cell.records) cells

-- a next address that is wrong: it leads back, or to no cell in use that may follow
abbrev pub LeadsAstray : Pages → List PlacedCell → PlacedCell → CellAt → Type 0
LeadsAstray pages passed last at =
    Contains (places (passed ++ last ∷ [])) at
    ⊎ ((head : CellHead) → HasHeadAt pages at head
    → may_follow last.cell.head.kind head.kind ≡ false)

-- where the chain from a place on is broken: at that place, if no cell stands there; at a cell
-- whose next address is wrong; or at a cell that one leads to and whose records are not well formed
pub data IsBroken (pages : Pages) (start : CellAt) : CellAt → Type 0 where
  no_cell : ((cell : Cell) → ¬ StandsAt pages start cell) → IsBroken pages start start
  astray : (passed : List PlacedCell) (last : PlacedCell) (at : CellAt)
      → Path pages start passed last → last.cell.head.next ≡ Some at
      → LeadsAstray pages passed last at → IsBroken pages start last.at
  bad_cell : (passed : List PlacedCell) (last : PlacedCell) (at : CellAt) (head : CellHead)
      → Path pages start passed last → last.cell.head.next ≡ Some at
      → ¬ Contains (places (passed ++ last ∷ [])) at → HasHeadAt pages at head
      → may_follow last.cell.head.kind head.kind ≡ true
      → ((cell : Cell) → ¬ StandsAt pages at cell) → IsBroken pages start at

-- what a change of some cells leaves: every other cell has its bytes
abbrev pub LeavesOthers : (CellAt → Bool) → Pages → Pages → Type 0
LeavesOthers changed old new = (at : CellAt) → changed at ≡ false → cell_at new at ≡ cell_at old at

-- a cell is this one
abbrev pub is_at : CellAt → CellAt → Bool
is_at a b = (a.vol == b.vol) && ((a.page == b.page) && (a.cell == b.cell))

-- none of these cells is among the changed ones
abbrev pub AreApart : (CellAt → Bool) → List PlacedCell → Type 0
AreApart changed cells = AllByRecursion (λ (c : PlacedCell). changed c.at ≡ false) cells
