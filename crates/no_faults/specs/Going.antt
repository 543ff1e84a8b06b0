-- Whether what is being removed names first quota cells of its own, by what is read of cells.
use Rattle.std.specs.Prelude.{◌≡◌, ℕ, Some, slice_get}
use Rattle.std.specs.Option.{option_and_then}
use Rattle.domain_memory.specs.domain_base.declared.place.CellAt.{CellAt}
use Rattle.domain_memory.specs.page_store.Pages.{Pages}
use Rattle.domain_memory.specs.metadata_cells.Chain.{HasHeadAt}
use Rattle.domain_memory.specs.metadata_cells.declared.head.CellHead.{CellHead}
use Rattle.domain_memory.specs.metadata_cells.declared.head.CellKind.TheVariants.{Quota}
use Rattle.cell_faults.specs.cell_chains.Links.{IsInUse}
use Rattle.cell_faults.specs.cell_chains.declared.links.CellLinks.{CellLinks}
use Rattle.cell_faults.specs.cell_chains.Heads.{IsLedTo}
use Rattle.domain_memory.specs.fileset_table.Table.{Table}
use Rattle.domain_memory.specs.domain_layout.TagRules.{quota_of}
use Rattle.domain_memory.specs.domain_standing.Chains.{IsRemoved}

-- a quota cell of a fileset is read there, to which no cell of quotas leads
pub record IsFirstRead (pages : Pages) (links : CellLinks) (number : ℕ) (at : CellAt) : Type 0 where
  pub head : CellHead
  pub has : HasHeadAt pages at head
  pub kind : head.kind ≡ Quota
  pub fileset : head.fileset ≡ Some number
  pub used : IsInUse links at
  pub alone : ¬ IsLedTo links at

-- if what is being removed in a slot names quota cells, their first is read so
abbrev pub NamesFirst : Pages → CellLinks → Table → ℕ → Type 0
NamesFirst pages links table number = (at : CellAt) → IsRemoved (slice_get table.slots number)
    → option_and_then quota_of (slice_get table.slots number) ≡ Some at
    → IsFirstRead pages links number at
