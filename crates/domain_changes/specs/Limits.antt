-- An owner's limits, set in the fileset of a slot of a domain's memory, step by step.
use Rattle.std.specs.Prelude.{◌≡◌, ◌⊎◌, ℕ, false, List, IfSome}
use Rattle.domain_memory.specs.domain_base.declared.place.CellAt.{CellAt}
use Rattle.domain_memory.specs.page_store.declared.fault.StoreFault.{StoreFault}
use Rattle.domain_memory.specs.page_store.declared.fault.StoreFault.TheVariants.{NoPage, OutOfMemory}
use Rattle.domain_memory.specs.metadata_cells.Chain.{PlacedCell}
use Rattle.domain_memory.specs.free_cells.Cells.{Cells, can_take}
use Rattle.domain_memory.specs.free_space.Spaces.{CanTake, Spaces}
use Rattle.domain_memory.specs.file_chains.Allocated.{AreAllocated}
use Rattle.domain_memory.specs.file_chains.FileChanges.{LeavesOtherCells}
use Rattle.domain_memory.specs.file_chains.MapChanges.{LeavesOffTables}
use Rattle.domain_memory.specs.fileset_model.Usage.{with_limits}
use Rattle.domain_memory.specs.fileset_values.declared.command.Owner.{Owner}
use Rattle.domain_memory.specs.fileset_values.declared.command.Owner.TheVariants as owner
use Rattle.domain_memory.specs.fileset_model.declared.fileset.Limits.{Limits}
use Rattle.domain_memory.specs.fileset_table.declared.slot.FilesetEntry.{FilesetEntry}
use Rattle.domain_memory.specs.fileset_table.declared.slot.SlotItem.TheVariants as slot
use Rattle.domain_memory.specs.quota_book.Book.{Book}
use Rattle.domain_memory.specs.quota_book.QuotaCells.{touched}
use Rattle.domain_memory.specs.release_steps.QuotaChain.{IsQuotaChain, SetsLimits, TakesIfUntouched, said_in}
use Rattle.domain_memory.specs.staged_pages.Store.{before_of, pages_of}
use Rattle.domain_memory.specs.standing_laws.BoundedFileset.{entry_bounded}
use Rattle.domain_memory.specs.standing_laws.SetsQuota.{entry_limited}
use Rattle.domain_memory.specs.declared.memory.DomainMemory.{DomainMemory}
use Rattle.domain_changes.specs.Table.{HasOriginal, PutsSlot}

-- those of the whole fileset are in its slot
pub record BoundsInSlot (number : ℕ) (limits : Limits) (old new : DomainMemory) : Type 0 where
  pub entry : FilesetEntry
  pub has : HasOriginal old number entry
  pub puts : PutsSlot number (slot.Original (entry_bounded limits entry)) old new

-- those of a user or a group are in the chain of quota cells that the slot named, or in one that
-- begins so, with all that the call says of pages, free space and cells
pub record SetsInChain (number prefer : ℕ) (who : Owner) (limits : Limits) (entry : FilesetEntry)
    (start : CellAt) (old mid : DomainMemory) : Type 0 where
  pub begins : IfSome entry.quota (λ at. start ≡ at)
  pub sets : (chain : List PlacedCell) → IsQuotaChain (pages_of old.pages) entry.quota chain
      → SetsLimits number who limits start chain old.cells mid.cells (pages_of old.pages)
      (pages_of mid.pages)
  pub taken : (chain : List PlacedCell) → IsQuotaChain (pages_of old.pages) entry.quota chain
      → TakesIfUntouched (touched (said_in chain) who) prefer old.space mid.space old.cells
      mid.cells (pages_of old.pages)
  pub others : (chain : List PlacedCell) → IsQuotaChain (pages_of old.pages) entry.quota chain
      → LeavesOtherCells old.cells chain (pages_of old.pages) (pages_of mid.pages)
  pub elsewhere : LeavesOffTables mid.cells (pages_of old.pages) (pages_of mid.pages)
  pub allocated : AreAllocated mid.space mid.cells (pages_of mid.pages)
  pub before : before_of mid.pages ≡ before_of old.pages
  pub same : mid ≡ record old { pages = mid.pages; space = mid.space; cells = mid.cells }

-- and the slot names it
pub record SetsOwner (number prefer : ℕ) (who : Owner) (limits : Limits) (old new : DomainMemory)
    : Type 0 where
  pub entry : FilesetEntry
  pub has : HasOriginal old number entry
  pub start : CellAt
  pub mid : DomainMemory
  pub sets : SetsInChain number prefer who limits entry start old mid
  pub puts : PutsSlot number (slot.Original (entry_limited start entry)) mid new

-- the limits are set in the domain's pages
abbrev pub SetsInPages : ℕ → ℕ → Owner → Limits → DomainMemory → DomainMemory → Type 0
SetsInPages number prefer who limits old new =
    ((who ≡ owner.Fileset) × BoundsInSlot number limits old new)
    ⊎ ((¬ who ≡ owner.Fileset) × SetsOwner number prefer who limits old new)

-- no cell can be taken, and no page for more of them; or memory was short
abbrev pub LimitsNone : Spaces → Cells → StoreFault → Type 0
LimitsNone space cells NoPage = ((at : CellAt) → can_take cells at ≡ false)
    × ((vol p : ℕ) → ¬ CanTake space vol p)
LimitsNone space cells OutOfMemory = Unit {0}

-- a book has the limits, and all else of it is as it was
abbrev pub SetsLimitsIn : Owner → Limits → Book → Book → Type 0
SetsLimitsIn who limits old new = new ≡ record old { limits = with_limits old.limits who limits }
