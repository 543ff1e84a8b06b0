-- A domain as it is read of pages without a fault: what is kept in memory is what the pages say.
use Rattle.std.specs.Prelude.{◌≡◌, ℕ, false, List, [], None, Some, slice_get}
use Rattle.std.specs.Option.{option_and_then}
use Rattle.domain_memory.specs.domain_base.declared.place.CellAt.{CellAt}
use Rattle.domain_memory.specs.domain_base.declared.place.Tag.{Tag}
use Rattle.domain_memory.specs.page_store.Pages.{Pages}
use Rattle.domain_memory.specs.metadata_cells.Cell.{Cell}
use Rattle.domain_memory.specs.metadata_cells.Chain.{StandsAt}
use Rattle.domain_memory.specs.tag_dirs.Directory.{cell_of}
use Rattle.domain_memory.specs.tag_dirs.declared.dir.TagPlace.{TagPlace}
use Rattle.domain_memory.specs.fileset_table.Table.{Table}
use Rattle.domain_memory.specs.domain_standing.Space.{IsSpaceOf}
use Rattle.domain_memory.specs.domain_layout.CellRules.{LeadsTo, say_removed}
use Rattle.domain_memory.specs.domain_layout.Faults.{HasNoFault}
use Rattle.domain_memory.specs.domain_layout.Reached.{Frame}
use Rattle.domain_memory.specs.domain_layout.TagRules.{IsQuotaOf, quota_of}
use Rattle.domain_memory.specs.domain_standing.Chains.{IsRemoved}
use Rattle.domain_memory.specs.domain_standing.Domain.{DomainNow, item_in, layout_of}
use Rattle.domain_memory.specs.domain_standing.Tables.{StandTables}
use Rattle.domain_memory.specs.domain_standing.Sources.{HaveNoSource}
use Rattle.no_faults.specs.ToDo.{ListsToDo}

-- ** What no rule asks, beside that no file reads through another one

-- each file that a tag names stays
abbrev pub TagsStay : Pages → (ℕ → List TagPlace) → Type 0
TagsStay pages tags = (number : ℕ) (tag : Tag) (at : CellAt) (cell : Cell)
    → cell_of pages (tags number) tag ≡ Some at → StandsAt pages at cell
    → say_removed cell.records ≡ false

-- the first of a fileset's quota cells stands there: no other one leads to it
pub record IsFirstQuota (pages : Pages) (frame : Frame) (number : ℕ) (at : CellAt) : Type 0 where
  pub is : IsQuotaOf pages frame number at
  pub first : (other : CellAt) → ¬ LeadsTo pages frame other at

-- so it does where what is being removed names quota cells
abbrev pub HaveQuotasToGo : Pages → Frame → Table → Type 0
HaveQuotasToGo pages frame table = (number : ℕ) (at : CellAt)
    → IsRemoved (slice_get table.slots number)
    → option_and_then quota_of (slice_get table.slots number) ≡ Some at
    → IsFirstQuota pages frame number at

-- ** All of it

-- the pages have no fault and what no rule asks; tables and free space are as they say, and the
-- list is what first cells say to be left to do
pub record IsReadFrom (d : DomainNow) : Type 0 where
  pub tables : StandTables d
  pub no_fault : HasNoFault d.pages d.frame
  pub space : IsSpaceOf d.pages (layout_of d) d.space
  pub tags : (number : ℕ) → item_in d number ≡ None → d.tags number ≡ []
  pub sources : HaveNoSource d.pages (layout_of d)
  pub stay : TagsStay d.pages d.tags
  pub quotas : HaveQuotasToGo d.pages d.frame d.table
  pub list : ListsToDo d.pages (layout_of d) d.list
