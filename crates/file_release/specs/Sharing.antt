-- A file, and the clone's file that reads through it if there is one.
use Rattle.std.specs.Prelude.{◌≡◌, ◌≤◌, ℕ, List, [], ◌∷◌, Option, Some, None, Contains, IfSome}
use Rattle.std.specs.List.{AllByRecursion}
use Rattle.fileset_files.specs.domain_base.declared.place.CellAt.{CellAt}
use Rattle.fileset_files.specs.domain_base.declared.place.Home.{Home}
use Rattle.fileset_files.specs.page_store.Pages.{Pages}
use Rattle.fileset_files.specs.metadata_cells.Chain.{PlacedCell, places}
use Rattle.fileset_files.specs.extent_maps.declared.run.PagePlace.TheVariants.{Absent, At}
use Rattle.fileset_files.specs.extent_maps.Runs.{place_of}
use Rattle.fileset_files.specs.free_cells.Cells.{Cells}
use Rattle.fileset_files.specs.free_space.Spaces.{Spaces}
use Rattle.fileset_files.specs.file_chains.FileChanges.{AreOnTables}
use Rattle.fileset_files.specs.file_chains.Files.{IsFile, places_of}
use Rattle.fileset_files.specs.Files.{AreApart}
use Rattle.fileset_files.specs.Together.{IsHeldApart}
use Rattle.file_release.specs.declared.reader.OwnPages.{OwnPages}
use Rattle.file_release.specs.declared.reader.Reader.{Reader}

-- the chain of the file that reads through another, and no cell if there is none
abbrev pub IsReader : Pages → Option Reader → List PlacedCell → Type 0
IsReader pages None own = own ≡ []
IsReader pages (Some reader) own = IsFile pages reader.at own

-- how many pages were frozen for it
abbrev pub frozen_of : Option Reader → ℕ
frozen_of None = 0
frozen_of (Some reader) = reader.frozen

-- the chains of a file and of its reader stand on their volumes' tables and share no cell; each
-- home of the file is held and none of cells, and that of no other page of the two
pub record AreSharing (start : CellAt) (reader : Option Reader) (space : Spaces) (cells : Cells)
    (pages : Pages) (chain own : List PlacedCell) : Type 0 where
  pub file : IsFile pages start chain
  pub reads : IsReader pages reader own
  pub on_tables : AreOnTables cells chain
  pub own_on_tables : AreOnTables cells own
  pub apart : AreApart chain own
  pub held : (page : ℕ) (home : Home) → places_of chain page ≡ At home
      → IsHeldApart space cells home
  pub once : (p q : ℕ) (home : Home) → places_of chain p ≡ At home → places_of chain q ≡ At home
      → p ≡ q
  pub not_own : (p q : ℕ) (home : Home) → places_of chain p ≡ At home
      → ¬ places_of own q ≡ At home

-- some chains do
abbrev pub HasSharing : CellAt → Option Reader → Spaces → Cells → Pages → Type 0
HasSharing start reader space cells pages = (chain : List PlacedCell) × (own : List PlacedCell)
    × AreSharing start reader space cells pages chain own

-- a cell says where some page stands
pub record HasPages (c : PlacedCell) : Type 0 where
  pub page : ℕ
  pub there : ¬ places_of (c ∷ []) page ≡ Absent

-- each cell of a chain but the first does
abbrev pub LaterHavePages : List PlacedCell → Type 0
LaterHavePages [] = Unit {0}
LaterHavePages (first ∷ rest) = AllByRecursion HasPages rest

-- a chain has let go of all its pages from one on, and of all cells after its first that say of no
-- page where it stands
pub record IsReleased (from : ℕ) (chain : List PlacedCell) : Type 0 where
  pub absent : (page : ℕ) → from ≤ page → places_of chain page ≡ Absent
  pub later : LaterHavePages chain

-- no place is given, or that of a cell of the file that begins there
abbrev pub IsWithin : Pages → CellAt → Option CellAt → Type 0
IsWithin pages start place = (chain : List PlacedCell) → IsFile pages start chain
    → IfSome place (Contains (places chain))

-- nothing is known, or where each page of the file stands that begins at a cell
abbrev pub IsKnown : Pages → Option OwnPages → Type 0
IsKnown pages known = IfSome known (λ k. (chain : List PlacedCell) → IsFile pages k.at chain
    → (page : ℕ) → place_of k.map page ≡ places_of chain page)
