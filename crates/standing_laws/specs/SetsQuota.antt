-- An owner's limits, set in the fileset of a slot, as a change of a domain that stands.
use Rattle.std.specs.Prelude.{◌≡◌, ℕ, Some, IsSomeAnd, Contains, if◌then◌else◌}
use Rattle.domain_standing.specs.domain_base.declared.place.CellAt.{CellAt}
use Rattle.domain_standing.specs.domain_base.declared.place.Home.{Home}
use Rattle.domain_standing.specs.free_cells.Cells.{table_of}
use Rattle.domain_standing.specs.fileset_model.Usage.{with_limits}
use Rattle.domain_standing.specs.fileset_values.declared.command.Owner.{Owner}
use Rattle.domain_standing.specs.fileset_values.declared.command.Owner.TheVariants as owner
use Rattle.domain_standing.specs.fileset_model.declared.fileset.FilesetSlot.{FilesetSlot}
use Rattle.domain_standing.specs.fileset_model.declared.fileset.Limits.{Limits}
use Rattle.domain_standing.specs.fileset_table.Page.{IsTablePage}
use Rattle.domain_standing.specs.fileset_table.Table.{with_slot}
use Rattle.domain_standing.specs.fileset_table.declared.slot.FilesetEntry.{FilesetEntry}
use Rattle.domain_standing.specs.fileset_table.declared.slot.SlotItem.TheVariants as slot
use Rattle.domain_standing.specs.quota_book.Owners.{same_owner}
use Rattle.domain_standing.specs.release_list.Standing.{Files}
use Rattle.domain_standing.specs.release_steps.Setting.{SetsIn}
use Rattle.domain_standing.specs.domain_layout.Shape.{FilesetShape}
use Rattle.domain_standing.specs.Domain.{DomainNow, all_of, item_in}

-- limits are set in the chain that the slot of an original names, or in one that begins so, which
-- the slot names then; of pages that are none of cells, the table's alone is written
pub record SetsQuota (number : ℕ) (d now : DomainNow) (files files_now : Files) : Type 0 where
  pub entry : FilesetEntry
  pub original : item_in d number ≡ Some (slot.Original entry)
  pub prefer : ℕ
  pub who : Owner
  pub limits : Limits
  pub named : ¬ who ≡ owner.Fileset
  pub sets : SetsIn number prefer who limits entry.quota (all_of d files) (all_of now files_now)
  pub table : now.table
      ≡ with_slot number (slot.Original (record entry { quota = Some sets.start })) d.table
  pub says : IsSomeAnd d.frame.anchor.table
      (λ home. IsSomeAnd (now.pages home) (λ page. IsTablePage page now.table))
  pub elsewhere : (home : Home) → ¬ Contains (table_of now.cells home.vol) home.page
      → ¬ d.frame.anchor.table ≡ Some home → now.pages home ≡ d.pages home
  pub frame : now.frame ≡ d.frame
  pub tags : now.tags ≡ d.tags

-- a shape, and a fileset, with these limits of an owner
abbrev pub shape_limited : Owner → Limits → FilesetShape → FilesetShape
shape_limited who limits shape = record shape {
  limits = λ other. if same_owner other who then limits else shape.limits other;
}

-- a fileset with these limits of an owner
abbrev pub fileset_limited : Owner → Limits → FilesetSlot → FilesetSlot
fileset_limited who limits fileset = record fileset {
  tree = record fileset.tree { limits = with_limits fileset.tree.limits who limits };
}

-- the slot's entry then: it names the chain
abbrev pub entry_limited : CellAt → FilesetEntry → FilesetEntry
entry_limited start entry = record entry { quota = Some start }
