-- What a file that gets a page changes.
use Rattle.std.specs.Prelude.{◌≡◌, ◌⊎◌, ◌<◌, ℕ, false, List, IsSomeAnd}
use Rattle.std.specs.Option.{option_and_then}
use Rattle.file_chains.specs.domain_base.declared.place.CellAt.{CellAt}
use Rattle.file_chains.specs.domain_base.declared.place.Home.{Home}
use Rattle.file_chains.specs.domain_base.declared.place.Tag.{Tag}
use Rattle.file_chains.specs.domain_base.declared.version.Version.{Version}
use Rattle.file_chains.specs.page_store.Pages.{Pages}
use Rattle.file_chains.specs.page_store.declared.fault.StoreFault.{StoreFault}
use Rattle.file_chains.specs.page_store.declared.fault.StoreFault.TheVariants.{NoPage, OutOfMemory}
use Rattle.file_chains.specs.metadata_cells.Chain.{PlacedCell}
use Rattle.tag_dirs.specs.declared.dir.TagPlace.{TagPlace}
use Rattle.file_chains.specs.extent_maps.declared.run.PagePlace.{PagePlace}
use Rattle.file_chains.specs.extent_maps.declared.run.PagePlace.TheVariants.{Absent, At}
use Rattle.file_chains.specs.free_cells.Cells.{Cells, can_take}
use Rattle.file_chains.specs.free_space.VolumeSpace.{with_page, without_page}
use Rattle.file_chains.specs.free_space.Spaces.{CanTake, Spaces, change_volume, missed}
use Rattle.file_chains.specs.Allocated.{FindsNone}
use Rattle.file_chains.specs.MapChanges.{ChangesOnTables, NoneTakes, TakesIfFull}
use Rattle.fileset_files.specs.Changes.{with_chain}
use Rattle.fileset_files.specs.Files.{Chains, keep_of, of_live, place_at}
use Rattle.fileset_files.specs.Together.{AreTogether}

-- a live tag's file keeps that page, and does not have it
pub record MayGrow (tag : Tag) (page : ℕ) (chains : Chains) : Type 0 where
  pub kept : IsSomeAnd (option_and_then (of_live keep_of) (chains tag)) (λ keep. page < keep)
  pub absent : place_at chains tag page ≡ Absent

-- a free page is taken for the file with that chain, of the preferred volume if that has one, and
-- a cell too if no record of the chain can have the page there
pub record TakesHome (prefer page : ℕ) (home : Home) (chain : List PlacedCell)
    (space space_now : Spaces) (cells cells_now : Cells) (old : Pages) : Type 0 where
  pub free : CanTake space home.vol home.page
  pub preferred : (p : ℕ) → CanTake space prefer p → home.vol ≡ prefer
  pub taken : TakesIfFull page (At home) chain prefer
      (change_volume (with_page home.page) space home.vol) space_now cells cells_now old

-- a page is free, but no cell, which no record of the chain can do without, and no other page
pub record LacksCell (page : ℕ) (chain : List PlacedCell) (space : Spaces) (cells : Cells)
    : Type 0 where
  pub home : Home
  pub free : CanTake space home.vol home.page
  pub none_takes : NoneTakes page (At home) chain
  pub no_cell : (q : CellAt) → can_take cells q ≡ false
  pub no_other : (vol p : ℕ)
      → ¬ CanTake (change_volume (with_page home.page) space home.vol) vol p

-- the file with that chain can get no page, which is a miss; or memory was short
abbrev pub GetsNone : ℕ → List PlacedCell → Spaces → Spaces → Cells → StoreFault → Type 0
GetsNone page chain space space_now cells NoPage =
    (((vol p : ℕ) → ¬ CanTake space vol p) ⊎ LacksCell page chain space cells)
    × (space_now ≡ missed space)
GetsNone page chain space space_now cells OutOfMemory = space_now ≡ space

-- the page at the home is given back, because no cell was found for it or memory was short
pub record IsGivenBack (home : Home) (space space_now : Spaces) (cells : Cells) (fault : StoreFault)
    : Type 0 where
  pub between : Spaces
  pub none : FindsNone space between cells fault
  pub given : space_now ≡ change_volume (without_page home.page) between home.vol

-- the tag's file has one page at another place, and all else as it was; all other files are as they
-- were, and all belongs together again
pub record ChangesFile (fileset : ℕ) (places : List TagPlace) (tag : Tag) (page : ℕ)
    (place : PagePlace) (version : Version) (chains : Chains) (space_now : Spaces)
    (cells cells_now : Cells) (old new : Pages) (chain : List PlacedCell) : Type 0 where
  pub start : CellAt
  pub change : ChangesOnTables start page place chain version cells cells_now old new
  pub together : AreTogether fileset places space_now cells_now new
      (with_chain tag (λ _. change.changes.after) chains)
