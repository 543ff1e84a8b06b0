-- Quota cells that slots name.
use Rattle.std.specs.Prelude.{◌≡◌, ◌⊎◌, ℕ, Option, Some, slice_get}
use Rattle.std.specs.Option.{option_and_then}
use Rattle.cell_faults.specs.domain_base.declared.place.CellAt.{CellAt}
use Rattle.cell_faults.specs.domain_base.declared.place.Home.{Home}
use Rattle.cell_faults.specs.page_store.Pages.{Pages}
use Rattle.cell_faults.specs.metadata_cells.CellPage.{home_of}
use Rattle.cell_faults.specs.metadata_cells.declared.head.CellKind.TheVariants.{Quota}
use Rattle.cell_faults.specs.fileset_table.Table.{Table, entry_of}
use Rattle.cell_faults.specs.fileset_table.declared.slot.FilesetEntry.{FilesetEntry}
use Rattle.cell_faults.specs.fileset_table.declared.slot.SlotItem.{SlotItem}
use Rattle.cell_faults.specs.domain_layout.Reached.{Frame}
use Rattle.cell_faults.specs.domain_layout.TagRules.{HasWrongNumber, HasWrongQuota, IsUnnamedQuota, quota_of}
use Rattle.cell_faults.specs.cell_chains.Members.{IsIn}
use Rattle.cell_faults.specs.cell_chains.declared.links.CellLink.{CellLink}
use Rattle.cell_faults.specs.cell_chains.declared.set.CellSet.{CellSet}

-- what is in a slot has it for its first quota cell
abbrev pub NamesQuota : Table → ℕ → CellAt → Type 0
NamesQuota table number at = (item : SlotItem) × (slice_get table.slots number ≡ Some item)
    × (quota_of item ≡ Some at)

-- what is in some slot has
abbrev pub IsQuotaNamed : Table → CellAt → Type 0
IsQuotaNamed table at = (number : ℕ) × NamesQuota table number at

-- a quota cell that is not among those to which one of quotas leads, and not among those named
abbrev pub IsQuotaAlone : CellSet → CellSet → CellAt → CellLink → Type 0
IsQuotaAlone led named at link = (link.kind ≡ Quota) × (¬ IsIn led at) × ¬ IsIn named at

-- some quota cell on a page is named by nothing
abbrev pub HasUnnamedQuota : Pages → Frame → Table → Home → Type 0
HasUnnamedQuota pages frame table home =
    (at : CellAt) × (home_of at ≡ home) × IsUnnamedQuota pages frame table at

-- the first quota cell of an original or a clone, if it names one
abbrev pub own_quota : SlotItem → Option CellAt
own_quota item = option_and_then (λ (entry : FilesetEntry). entry.quota) (entry_of item)

-- what is in a slot has a wrong number or a wrong quota cell
abbrev pub IsWrongIn : Pages → Frame → Table → ℕ → Type 0
IsWrongIn pages frame table number = (item : SlotItem)
    × (slice_get table.slots number ≡ Some item)
    × (HasWrongNumber table item ⊎ HasWrongQuota pages frame number item)
