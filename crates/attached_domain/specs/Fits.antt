-- What no rule asks, and the pages of a domain that is attached have.
use Rattle.std.specs.Prelude.{◌≡◌, ℕ, false, slice_get}
use Rattle.no_faults.specs.page_store.Pages.{Pages}
use Rattle.no_faults.specs.domain_layout.CellRules.{of_clone}
use Rattle.no_faults.specs.domain_layout.Layout.{Layout}
use Rattle.no_faults.specs.domain_layout.Owners.{frame_of}
use Rattle.no_faults.specs.filesets_reading.declared.tables.DomainTables.{DomainTables}
use Rattle.no_faults.specs.Attached.{HaveQuotasToGo}
use Rattle.no_faults.specs.domain_standing.Sources.{HaveNoSource}
use Rattle.attached_domain.specs.Signs.{SlotSays}
use Rattle.attached_domain.specs.declared.signs.Sign.TheVariants.{Cut, Removed}

-- there is none of the causes for which a domain without a fault is not attached
pub record Fits (pages : Pages) (layout : Layout) (tables : DomainTables) : Type 0 where
  pub no_clone : (number : ℕ) → of_clone (slice_get layout.table.slots number) ≡ false
  pub sources : HaveNoSource pages layout
  pub quotas : HaveQuotasToGo pages (frame_of layout) layout.table
  pub stay : ¬ SlotSays pages Removed tables
  pub keep : ¬ SlotSays pages Cut tables
