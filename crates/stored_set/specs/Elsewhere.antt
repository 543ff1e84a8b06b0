-- What a change elsewhere leaves of a fileset's files and indexes.
use Rattle.std.specs.Prelude.{◌≡◌, ℕ, true, List, Contains, IfSome}
use Rattle.std.specs.List.{AllByRecursion}
use Rattle.index_pages.specs.domain_base.declared.place.Home.{Home}
use Rattle.index_pages.specs.domain_base.declared.place.Tag.{Tag}
use Rattle.index_pages.specs.page_store.Pages.{Pages}
use Rattle.index_pages.specs.metadata_cells.CellPage.{cell_at}
use Rattle.index_pages.specs.metadata_cells.Chain.{PlacedCell}
use Rattle.index_pages.specs.tag_dirs.Directory.{has_home}
use Rattle.index_pages.specs.tag_dirs.declared.dir.TagPlace.{TagPlace}
use Rattle.index_pages.specs.extent_maps.declared.run.PagePlace.TheVariants.{At}
use Rattle.index_pages.specs.free_cells.Cells.{Cells}
use Rattle.index_pages.specs.free_space.Spaces.{Spaces}
use Rattle.index_pages.specs.file_chains.Allocated.{AreAllocated}
use Rattle.index_pages.specs.fileset_files.Files.{Chains, place_at}
use Rattle.index_pages.specs.fileset_files.Together.{AreFilesOnTables, IsHeldApart}
use Rattle.stored_set.specs.Standing.{Indexes}

-- a page has the bytes that it had, is used, does not wait, and is none of cells
pub record Stays (space : Spaces) (cells : Cells) (old new : Pages) (home : Home) : Type 0 where
  pub same : new home ≡ old home
  pub apart : IsHeldApart space cells home

-- each page of the tag directory, of a file and of an index stays, and each cell of a file has the
-- bytes that it had, on a page of its volume's table; free cells and free space belong together
pub record AllStay (places : List TagPlace) (space : Spaces) (cells : Cells) (old new : Pages)
    (chains : Chains) (indexes : Indexes) : Type 0 where
  pub allocated : AreAllocated space cells new
  pub on_tables : AreFilesOnTables cells chains
  pub cells_stay : (tag : Tag) → IfSome (chains tag)
      (AllByRecursion (λ (c : PlacedCell). cell_at new c.at ≡ cell_at old c.at))
  pub tags : (home : Home) → has_home places home ≡ true → Stays space cells old new home
  pub pages : (tag : Tag) (page : ℕ) (home : Home) → place_at chains tag page ≡ At home
      → Stays space cells old new home
  pub index_pages : (tag : Tag) (home : Home) → Contains (indexes tag) home
      → Stays space cells old new home
