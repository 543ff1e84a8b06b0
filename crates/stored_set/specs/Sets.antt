-- The files of a fileset as a set of files and directories.
use Rattle.std.specs.Prelude.{◌≡◌, ◌+◌, ◌*◌, ℕ, List, Option, Some, None, IsSomeAnd}
use Rattle.std.specs.Option.{option_and_then}
use Rattle.index_pages.specs.domain_base.Limits.{page_bytes}
use Rattle.index_pages.specs.domain_base.declared.place.Home.{Home}
use Rattle.index_pages.specs.domain_base.declared.place.Tag.{Tag}
use Rattle.index_pages.specs.domain_base.declared.version.Version.{Version}
use Rattle.index_pages.specs.page_store.Bitfiles.{Bitfiles}
use Rattle.index_pages.specs.page_store.Pages.{Pages, with_page}
use Rattle.index_pages.specs.page_store.declared.fault.StoreFault.{StoreFault}
use Rattle.index_pages.specs.metadata_cells.Chain.{PlacedCell}
use Rattle.index_pages.specs.tag_dirs.declared.dir.TagPlace.{TagPlace}
use Rattle.index_pages.specs.extent_maps.declared.run.PagePlace.TheVariants.{At}
use Rattle.index_pages.specs.free_cells.Cells.{Cells}
use Rattle.index_pages.specs.free_space.VolumeSpace.{with_page as space_with}
use Rattle.index_pages.specs.free_space.Spaces.{CanTake, Spaces, change_volume}
use Rattle.index_pages.specs.file_chains.FileChanges.{LeavesOtherCells}
use Rattle.index_pages.specs.file_chains.MapChanges.{LeavesOffTables}
use Rattle.index_pages.specs.fileset_files.declared.attributes.Attributes.{Attributes}
use Rattle.index_pages.specs.fileset_files.Changes.{ChangesBeside, ChangesFirst, says_attributes, with_chain, with_first}
use Rattle.index_pages.specs.fileset_files.Files.{Chains, attributes_of, of_live}
use Rattle.index_pages.specs.fileset_files.Pages.{ChangesFile, GetsNone, TakesHome}
use Rattle.index_pages.specs.fileset_files.declared.indexing.IndexPlace.{IndexPlace}
use Rattle.index_pages.specs.fileset_files.Index.{says_index}
use Rattle.index_pages.specs.fileset_files.Shown.{index_of}
use Rattle.index_pages.specs.fileset_files.State.{states_of}
use Rattle.index_pages.specs.fileset_files.Together.{AreTogether}
use Rattle.index_pages.specs.Changes.{DropsIndex, InsertsIndexPage, PutsIndexPage}
use Rattle.stored_set.specs.Standing.{AreTagsOnVolumes, Indexes, StandsShown}
use Rattle.stored_set.specs.Whole.{AreWholeDirectories, HaveNoIndex}

-- files that belong together are shown as this set, wherever their indexes stand, each directory is
-- whole, no file has an index, and the pages of tags stand on volumes that there may be
pub record StandsAsSet (fileset : ℕ) (places : List TagPlace) (space : Spaces) (cells : Cells)
    (pages : Pages) (files : Bitfiles) : Type 0 where
  pub chains : Chains
  pub indexes : Indexes
  pub stands : StandsShown fileset places space cells pages chains indexes files
  pub whole : AreWholeDirectories (states_of chains) files
  pub bare : HaveNoIndex files
  pub low : AreTagsOnVolumes places

-- they are shown as some set
abbrev pub HasSet : ℕ → List TagPlace → Spaces → Cells → Pages → Type 0
HasSet fileset places space cells pages =
    (files : Bitfiles) × StandsAsSet fileset places space cells pages files

-- what a directory is with this number of pages
abbrev pub long : ℕ → Attributes → Attributes
long count was = record was { size = page_bytes * count }

-- the files in which the tag's, which was this, has that length
abbrev pub with_length : ℕ → Attributes → Tag → Chains → Chains
with_length count was tag chains =
    with_chain tag (with_first (says_attributes (long count was))) chains

-- the directory with that chain, which says so already, gets a home for the page, which is taken
-- for it: no cell of another file and no page off the tables changes; then the bytes are put there,
-- and nothing else changes
pub record GetsPage (fileset : ℕ) (places : List TagPlace) (tag : Tag) (page : ℕ) (bytes : List ℕ)
    (prefer : ℕ) (version : Version) (chains : Chains) (space space_now : Spaces)
    (cells cells_now : Cells) (old new : Pages) (chain : List PlacedCell) : Type 0 where
  pub home : Home
  pub taken : TakesHome prefer page home chain space space_now cells cells_now old
  pub between : Pages
  pub given : ChangesFile fileset places tag page (At home) version chains space_now cells cells_now
      old between chain
  pub others : LeavesOtherCells cells chain old between
  pub elsewhere : LeavesOffTables cells_now old between
  pub put : new ≡ with_page home bytes between

-- the tag's directory says that it is longer by a page, and then gets that
pub record AddsPage (fileset : ℕ) (places : List TagPlace) (tag : Tag) (page : ℕ) (bytes : List ℕ)
    (prefer : ℕ) (version : Version) (chains : Chains) (space space_now : Spaces)
    (cells cells_now : Cells) (old new : Pages) (was : Attributes) : Type 0 where
  pub said : Pages
  pub first : ChangesFirst (chains tag) old said
  pub together : AreTogether fileset places space cells said
      (with_length (page + 1) was tag chains)
  pub gets : IsSomeAnd (with_length (page + 1) was tag chains tag)
      (GetsPage fileset places tag page bytes prefer version (with_length (page + 1) was tag chains)
      space space_now cells cells_now said new)

-- what the tag's file or directory is, if it is not to be removed
abbrev pub attributes_at : Chains → Tag → Option Attributes
attributes_at chains tag = option_and_then (of_live attributes_of) (chains tag)

-- the tag's directory can get no page, which is a miss; or memory was short
abbrev pub AddsNone : Tag → ℕ → Chains → Spaces → Spaces → Cells → StoreFault → Type 0
AddsNone tag page chains space space_now cells fault = IsSomeAnd (attributes_at chains tag)
    (λ was. IsSomeAnd (with_length (page + 1) was tag chains tag)
    (λ chain. GetsNone page chain space space_now cells fault))

-- the first cell of the tag's directory says where its index begins and how many entries that has,
-- and nothing else anew: all belongs together again
pub record SaysIndex (fileset : ℕ) (places : List TagPlace) (space : Spaces) (cells : Cells)
    (tag : Tag) (chains : Chains) (old said : Pages) : Type 0 where
  pub index : IndexPlace
  pub first : ChangesFirst (chains tag) old said
  pub together : AreTogether fileset places space cells said
      (with_chain tag (with_first (says_index (Some index))) chains)

-- the first cell of the tag's directory says anew how many entries its index has, and then the page
-- of a number is another one there
pub record WritesIndexPage (fileset : ℕ) (places : List TagPlace) (space : Spaces) (cells : Cells)
    (tag : Tag) (page : ℕ) (bytes : List ℕ) (chains : Chains) (homes : List Home)
    (old new : Pages) : Type 0 where
  pub said : Pages
  pub says : SaysIndex fileset places space cells tag chains old said
  pub same : option_and_then index_of (chains tag) ≡ Some says.index.first
  pub puts : PutsIndexPage (Some says.index.first) page bytes said new homes

-- a free page is taken for the index of the tag's directory, of the preferred volume if that has
-- one; the first cell says where the index begins then and how many entries it has, and then the
-- page is put in there
pub record AddsIndexPage (fileset : ℕ) (places : List TagPlace) (cells : Cells) (tag : Tag)
    (number : ℕ) (bytes : List ℕ) (prefer : ℕ) (chains : Chains) (homes : List Home)
    (space space_now : Spaces) (old new : Pages) : Type 0 where
  pub home : Home
  pub free : CanTake space home.vol home.page
  pub preferred : (p : ℕ) → CanTake space prefer p → home.vol ≡ prefer
  pub taken : space_now ≡ change_volume (space_with home.page) space home.vol
  pub said : Pages
  pub says : SaysIndex fileset places space_now cells tag chains old said
  pub inserts : InsertsIndexPage says.index.first home number bytes said new homes

-- the files in which the tag's first cell names no index, if it named one that begins there
abbrev pub without_index_from : Option Home → Tag → Chains → Chains
without_index_from None tag chains = chains
without_index_from (Some first) tag chains = with_chain tag (with_first (says_index None)) chains

-- the files in which the tag's first cell names no index, wherever that index begins
abbrev pub without_index : Tag → Chains → Chains
without_index tag chains =
    without_index_from (option_and_then index_of (chains tag)) tag chains

-- the first cell of a chain and the page of its tag change, and then the pages of its index are
-- given back, which wait until the log has passed the group
pub record GivesIndexBack (group : ℕ) (places : List TagPlace) (chain : Option (List PlacedCell))
    (homes : List Home) (space space_now : Spaces) (old new : Pages) : Type 0 where
  pub said : Pages
  pub beside : ChangesBeside places chain old said
  pub drops : DropsIndex group space space_now said new homes
