-- A fileset that begins to be removed: its slot says so in the table, and keeps its tag directory
-- and its quota cells.
use Rattle.std.specs.Prelude.{◌≡◌, ℕ, Some, IsSomeAnd}
use Rattle.domain_standing.specs.domain_base.declared.place.Home.{Home}
use Rattle.domain_standing.specs.fileset_table.Page.{IsTablePage}
use Rattle.domain_standing.specs.fileset_table.Table.{with_slot}
use Rattle.domain_standing.specs.fileset_table.declared.slot.FilesetEntry.{FilesetEntry}
use Rattle.domain_standing.specs.fileset_table.declared.slot.SlotItem.TheVariants as slot
use Rattle.domain_standing.specs.Domain.{DomainNow, item_in}

-- an original's slot has what is left of it; the table's page says so, and no other changes
pub record BeginsToGo (number : ℕ) (entry : FilesetEntry) (d now : DomainNow) : Type 0 where
  pub was : item_in d number ≡ Some (slot.Original entry)
  pub table : now.table
      ≡ with_slot number (slot.Removed (Some entry.first_tag) entry.quota) d.table
  pub says : (home : Home) → d.frame.anchor.table ≡ Some home
      → IsSomeAnd (now.pages home) (λ page. IsTablePage page now.table)
  pub others : (home : Home) → ¬ d.frame.anchor.table ≡ Some home → now.pages home ≡ d.pages home
  pub same : now ≡ record d { table = now.table; pages = now.pages; contents = now.contents }
