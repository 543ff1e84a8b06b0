-- An owner's limits, set in one of the chains of a domain.
use Rattle.std.specs.Prelude.{◌≡◌, ℕ, List, [], Option, Some, None, IfSome}
use Rattle.release_list.specs.domain_base.declared.place.CellAt.{CellAt}
use Rattle.release_list.specs.metadata_cells.Chain.{PlacedCell}
use Rattle.release_list.specs.file_chains.Allocated.{AreAllocated}
use Rattle.release_list.specs.file_chains.FileChanges.{LeavesOtherCells}
use Rattle.quota_book.specs.fileset_values.declared.command.Owner.{Owner}
use Rattle.quota_book.specs.fileset_model.declared.fileset.Limits.{Limits}
use Rattle.quota_book.specs.QuotaCells.{touched}
use Rattle.release_list.specs.Standing.{Files, with_file}
use Rattle.release_list.specs.Steps.{Now}
use Rattle.release_steps.specs.QuotaChain.{IsQuotaChain, SetsLimits, TakesIfUntouched, said_in}

-- the chain that begins there is one of a domain's; if there is no first cell, there is no chain
abbrev pub IsChainIn : Files → Option CellAt → List PlacedCell → Type 0
IsChainIn files None chain = chain ≡ []
IsChainIn files (Some at) chain = files at ≡ Some chain

-- an owner's limits are set in the chain of quota cells that begins there, or in one that begins
-- so: all that the call says of cells, of free space and of free cells; and the chain is one of the
-- domain's then. Pages that are none of cells may be others
pub record SetsIn (fileset prefer : ℕ) (who : Owner) (limits : Limits) (first : Option CellAt)
    (old new : Now) : Type 0 where
  pub chain : List PlacedCell
  pub is : IsQuotaChain old.pages first chain
  pub among : IsChainIn old.files first chain
  pub start : CellAt
  pub begins : IfSome first (λ at. start ≡ at)
  pub sets : SetsLimits fileset who limits start chain old.cells new.cells old.pages new.pages
  pub taken : TakesIfUntouched (touched (said_in chain) who) prefer old.space new.space old.cells
      new.cells old.pages
  pub others : LeavesOtherCells old.cells chain old.pages new.pages
  pub allocated : AreAllocated new.space new.cells new.pages
  pub files : new.files ≡ with_file start (Some sets.after) old.files
  pub list : new.list ≡ old.list
