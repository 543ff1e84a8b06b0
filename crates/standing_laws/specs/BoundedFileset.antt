-- The limits of a whole fileset, set in the slot of an original.
use Rattle.std.specs.Prelude.{◌≡◌, ℕ, Some, IsSomeAnd}
use Rattle.domain_standing.specs.domain_base.declared.place.Home.{Home}
use Rattle.domain_standing.specs.fileset_model.declared.fileset.Limits.{Limits}
use Rattle.domain_standing.specs.fileset_table.Page.{IsTablePage}
use Rattle.domain_standing.specs.fileset_table.Table.{with_slot}
use Rattle.domain_standing.specs.fileset_table.declared.slot.FilesetEntry.{FilesetEntry}
use Rattle.domain_standing.specs.fileset_table.declared.slot.SlotItem.TheVariants as slot
use Rattle.domain_standing.specs.Domain.{DomainNow, item_in}

-- the slot's entry with these limits
abbrev pub entry_bounded : Limits → FilesetEntry → FilesetEntry
entry_bounded limits entry =
    record entry { files_limit = limits.files; blocks_limit = limits.blocks }

-- an original's slot has them; the table's page says so, and no other changes
pub record BoundsFileset (number : ℕ) (entry : FilesetEntry) (limits : Limits) (d now : DomainNow)
    : Type 0 where
  pub was : item_in d number ≡ Some (slot.Original entry)
  pub table : now.table ≡ with_slot number (slot.Original (entry_bounded limits entry)) d.table
  pub says : (home : Home) → d.frame.anchor.table ≡ Some home
      → IsSomeAnd (now.pages home) (λ page. IsTablePage page now.table)
  pub others : (home : Home) → ¬ d.frame.anchor.table ≡ Some home → now.pages home ≡ d.pages home
  pub same : now ≡ record d { table = now.table; pages = now.pages; contents = now.contents }
