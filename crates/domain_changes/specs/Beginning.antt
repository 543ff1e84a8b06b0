-- A fileset that begins in a slot of a domain's memory, step by step.
use Rattle.std.specs.Prelude.{◌≡◌, ◌⊎◌, ◌≤◌, ◌∷◌, ℕ, false, List, [], None, IsSomeAnd}
use Rattle.domain_memory.specs.domain_base.declared.place.CellAt.{CellAt}
use Rattle.domain_memory.specs.domain_base.declared.place.Home.{Home}
use Rattle.domain_memory.specs.domain_base.declared.place.Kind.TheVariants.{Directory}
use Rattle.domain_memory.specs.page_store.declared.fault.StoreFault.{StoreFault}
use Rattle.domain_memory.specs.page_store.declared.fault.StoreFault.TheVariants.{NoPage, OutOfMemory}
use Rattle.domain_memory.specs.tag_dirs.TagPage.{IsNewPage}
use Rattle.domain_memory.specs.tag_dirs.declared.dir.TagPlace.{TagPlace}
use Rattle.domain_memory.specs.free_cells.Cells.{Cells, can_take}
use Rattle.domain_memory.specs.free_space.Spaces.{CanTake, Spaces, change_volume}
use Rattle.domain_memory.specs.free_space.VolumeSpace.{with_page}
use Rattle.domain_memory.specs.file_chains.FileChanges.{LeavesOtherCells}
use Rattle.domain_memory.specs.file_chains.MapChanges.{TakesOne}
use Rattle.domain_memory.specs.fileset_files.Creation.{Creates, LeavesBeside, new_file, root_tag}
use Rattle.domain_memory.specs.fileset_files.Together.{AreTogether}
use Rattle.domain_memory.specs.fileset_files.declared.bitfiles.Bitfiles.{Bitfiles}
use Rattle.domain_memory.specs.fileset_table.declared.slot.FilesetEntry.{FilesetEntry}
use Rattle.domain_memory.specs.staged_pages.Store.{before_of, pages_of}
use Rattle.domain_memory.specs.standing_laws.NewFileset.{no_chains}
use Rattle.domain_memory.specs.declared.memory.DomainMemory.{DomainMemory}

-- what the table has of a new fileset
abbrev pub new_entry : List ℕ → Home → FilesetEntry
new_entry name first_tag = record {
  name = name;
  first_tag = first_tag;
  files_limit = 0;
  blocks_limit = 0;
  quota = None;
}

-- a page that was free is the first page of a tag directory that never had an entry in use, and
-- nothing else changes
pub record BeginsTags (number : ℕ) (home : Home) (files : Bitfiles) (old new : DomainMemory)
    : Type 0 where
  pub of_slot : files.fileset ≡ number
  pub tags : files.tags ≡ record { index = 0; home = home } ∷ []
  pub low : 1 ≤ home.vol
  pub free : CanTake old.space home.vol home.page
  pub space : new.space ≡ change_volume (with_page home.page) old.space home.vol
  pub fresh : IsSomeAnd (pages_of new.pages home) (IsNewPage 0)
  pub others : (h : Home) → ¬ h ≡ home → pages_of new.pages h ≡ pages_of old.pages h
  pub before : before_of new.pages ≡ before_of old.pages
  pub same : new ≡ record old { pages = new.pages; space = new.space }

-- the root of a fileset without a file is made, with all that the call says of pages, free space
-- and cells
pub record MakesRoot (number : ℕ) (places : List TagPlace) (prefer : ℕ) (old new : DomainMemory)
    : Type 0 where
  pub creates : AreTogether number places old.space old.cells (pages_of old.pages) no_chains
      → Creates number places root_tag old.frame.version (new_file Directory 0 0 old.table.made)
      no_chains new.space old.cells new.cells (pages_of old.pages) (pages_of new.pages)
  pub taken : TakesOne prefer old.space new.space old.cells new.cells (pages_of old.pages)
  pub others : LeavesOtherCells old.cells [] (pages_of old.pages) (pages_of new.pages)
  pub elsewhere : LeavesBeside new.cells places (pages_of old.pages) (pages_of new.pages)

-- one page can be taken, and besides it neither a page nor a cell
pub record LacksCell (space : Spaces) (cells : Cells) : Type 0 where
  pub home : Home
  pub free : CanTake space home.vol home.page
  pub no_other : (vol p : ℕ)
      → ¬ CanTake (change_volume (with_page home.page) space home.vol) vol p
  pub no_cell : (at : CellAt) → can_take cells at ≡ false

-- no fileset begins for want of a page; or memory was short
abbrev pub BeginsNone : Spaces → Cells → StoreFault → Type 0
BeginsNone space cells NoPage = ((vol p : ℕ) → ¬ CanTake space vol p) ⊎ LacksCell space cells
BeginsNone space cells OutOfMemory = Unit {0}
