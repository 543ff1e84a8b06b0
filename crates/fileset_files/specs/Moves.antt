-- What a file changes when one of its pages gets another home.
use Rattle.std.specs.Prelude.{◌≡◌, ℕ, List, IsSome}
use Rattle.file_chains.specs.domain_base.declared.place.Home.{Home}
use Rattle.file_chains.specs.domain_base.declared.place.Tag.{Tag}
use Rattle.file_chains.specs.page_store.declared.fault.StoreFault.{StoreFault}
use Rattle.file_chains.specs.page_store.declared.fault.StoreFault.TheVariants.{NoPage}
use Rattle.file_chains.specs.metadata_cells.Chain.{PlacedCell}
use Rattle.tag_dirs.specs.declared.dir.TagPlace.{TagPlace}
use Rattle.file_chains.specs.extent_maps.declared.run.PagePlace.{PagePlace}
use Rattle.file_chains.specs.extent_maps.declared.run.PagePlace.TheVariants.{At}
use Rattle.file_chains.specs.extent_maps.Runs.{home_at}
use Rattle.file_chains.specs.free_cells.Cells.{Cells}
use Rattle.file_chains.specs.free_space.Spaces.{Spaces}
use Rattle.file_chains.specs.Allocated.{FindsNone}
use Rattle.file_chains.specs.MapChanges.{HolderIsFull}
use Rattle.fileset_files.specs.Changes.{IsLive}
use Rattle.fileset_files.specs.Files.{Chains, place_at}
use Rattle.fileset_files.specs.Together.{IsFilePage}

-- a live tag's file has a home for that page, and the other home is held as a file's may be, and of
-- none yet
pub record MayMove (tag : Tag) (page : ℕ) (home : Home) (places : List TagPlace) (space : Spaces)
    (cells : Cells) (chains : Chains) : Type 0 where
  pub live : IsLive tag chains
  pub there : IsSome (home_at (place_at chains tag page))
  pub file_page : IsFilePage space cells places home
  pub unused : (t : Tag) (p : ℕ) → ¬ place_at chains t p ≡ At home

-- the record of the chain that has the page cannot have it at that place, no cell is free, and no
-- page for more, which is a miss; or memory was short
pub record MovesNone (page : ℕ) (place : PagePlace) (chain : List PlacedCell)
    (space space_now : Spaces) (cells : Cells) (fault : StoreFault) : Type 0 where
  pub none : FindsNone space space_now cells fault
  pub full : fault ≡ NoPage → HolderIsFull page place chain
