-- What the call on a fileset's quota cells says of a domain's memory.
use Rattle.std.proofs.Common.{◌≡◌, ℕ, List, Option, Result, Ok, Err, IfErr, IfOk, IfSome, OnErr, OnOk}
use Rattle.domain_memory.specs.domain_base.declared.place.CellAt.{CellAt}
use Rattle.domain_memory.specs.page_store.Pages.{Pages}
use Rattle.domain_memory.specs.page_store.declared.fault.StoreFault.{StoreFault}
use Rattle.domain_memory.specs.metadata_cells.Chain.{PlacedCell}
use Rattle.domain_memory.specs.free_cells.Cells.{Cells}
use Rattle.domain_memory.specs.free_space.Spaces.{Spaces}
use Rattle.domain_memory.specs.file_chains.Allocated.{AreAllocated, FindsNone}
use Rattle.domain_memory.specs.file_chains.FileChanges.{LeavesOtherCells}
use Rattle.domain_memory.specs.file_chains.MapChanges.{LeavesOffTables}
use Rattle.domain_memory.specs.fileset_values.declared.command.Owner.{Owner}
use Rattle.domain_memory.specs.fileset_model.declared.fileset.Limits.{Limits}
use Rattle.domain_memory.specs.fileset_table.declared.slot.FilesetEntry.{FilesetEntry}
use Rattle.domain_memory.specs.quota_book.QuotaCells.{touched}
use Rattle.domain_memory.specs.release_steps.QuotaChain.{IsQuotaChain, SetsLimits, TakesIfUntouched, said_in}
use Rattle.domain_memory.specs.staged_pages.Store.{before_of, pages_of}
use Rattle.domain_memory.specs.declared.memory.DomainMemory.{DomainMemory}
use Rattle.domain_changes.specs.Limits.{SetsInChain}
use Rattle.domain_changes.proofs.KeptTaken.{KeptBoth, none_kept, over_both}
use Rattle.domain_changes.proofs.LimitsSet.{untouched_kept}

-- what was kept stays, whichever end it has
pub quota_call_kept : {X : Type 0} (o : Option ℕ) (prefer : ℕ) (space space_now : Spaces) (cells cells_now : Cells) (old : Pages) (r : Result X StoreFault) → OnOk r (TakesIfUntouched o prefer space space_now cells cells_now old) → IfErr r (FindsNone space space_now cells) → OnErr r (cells_now ≡ cells)
    → KeptBoth space space_now cells cells_now
quota_call_kept o prefer space space_now cells cells_now old (Ok x) taken none same = over_both space space_now cells cells_now (untouched_kept o prefer space space_now cells cells_now old taken)
quota_call_kept o prefer space space_now cells cells_now old (Err fault) taken none same = none_kept space space_now cells cells_now fault none same

module _ (number prefer : ℕ) (who : Owner) (limits : Limits) (entry : FilesetEntry) (old new : DomainMemory) (same : new ≡ record old { pages = new.pages; space = new.space; cells = new.cells }) where
  abbrev ForChain : (List PlacedCell → Type 0) → Type 0
  ForChain P = (chain : List PlacedCell) → IsQuotaChain (pages_of old.pages) entry.quota chain → P chain

  pub sets_chain : (r : Result CellAt StoreFault) → IfSome entry.quota (λ at. IfOk r (λ start. start ≡ at)) → ForChain (λ chain. IfOk r (λ start. SetsLimits number who limits start chain old.cells new.cells (pages_of old.pages) (pages_of new.pages)))
      → ForChain (λ chain. OnOk r (TakesIfUntouched (touched (said_in chain) who) prefer old.space new.space old.cells new.cells (pages_of old.pages))) → ForChain (λ chain. LeavesOtherCells old.cells chain (pages_of old.pages) (pages_of new.pages))
      → LeavesOffTables new.cells (pages_of old.pages) (pages_of new.pages) → AreAllocated new.space new.cells (pages_of new.pages) → before_of new.pages ≡ before_of old.pages → IfOk r (λ start. SetsInChain number prefer who limits entry start old new)
  sets_chain (Ok start) begins sets taken others elsewhere allocated before = record {
    begins = begins;
    sets = sets;
    taken = taken;
    others = others;
    elsewhere = elsewhere;
    allocated = allocated;
    before = before;
    same = same;
  }
  sets_chain (Err fault) begins sets taken others elsewhere allocated before = tt
