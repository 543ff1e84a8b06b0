-- Cells in use that were read, and what stands in them.
use Rattle.std.proofs.Common.{◌≡◌, ◌∙◌, ◌↔◌, Bool, true, IsTrue, Some, refl, sym, subst}
use Rattle.cell_faults.specs.domain_base.declared.place.CellAt.{CellAt}
use Rattle.cell_faults.specs.page_store.Pages.{Pages}
use Rattle.cell_faults.specs.cell_records.declared.record.Record.{Record}
use Rattle.cell_faults.specs.metadata_cells.Cell.{Cell, record_of}
use Rattle.cell_faults.specs.metadata_cells.Chain.{StandsAt}
use Rattle.cell_faults.proofs.OfMetadataCells.Unique.{one_stands}
use Rattle.cell_faults.specs.fileset_table.Table.{Table}
use Rattle.cell_faults.specs.domain_layout.CellRules.{IsUsed, next_in, say_removed}
use Rattle.cell_faults.specs.domain_layout.Reached.{Frame}
use Rattle.cell_faults.specs.domain_layout.TagRules.{IsLate}
use Rattle.cell_faults.specs.cell_chains.Links.{IsInUse}
use Rattle.cell_faults.specs.cell_chains.declared.links.CellLink.{CellLink}
use Rattle.cell_faults.specs.cell_chains.declared.links.CellLinks.{CellLinks}
use Rattle.cell_faults.specs.Links.{AreLinks}
use Rattle.cell_faults.proofs.Walks.{is_link}
use Rattle.tag_faults.specs.Late.{HasLateNumber}
use Rattle.tag_faults.specs.Roots.{IsRemovedAt}

module _ (pages : Pages) (frame : Frame) (links : CellLinks) (are : AreLinks pages frame links) (at : CellAt) where
  pub used_link : (cell : Cell) → IsUsed pages frame at cell → IsInUse links at
  used_link cell is =
      let link : CellLink = record { kind = cell.head.kind; next = next_in is.stands.bytes } in
      (link, (are at link).1 (record { place = is.place; bytes = is.stands.bytes; there = is.stands.there; kind = is.stands.is.head.kind; next = refl }))

  pub used_by : (cell : Cell) → IsInUse links at → StandsAt pages at cell → IsUsed pages frame at cell
  used_by cell (link, has) stands = record { place = (is_link pages frame links are at link has).place; stands = stands }

  -- whether a cell says that its file is to be removed
  pub removed_by : (cell : Cell) (removed : Bool) → IsInUse links at → StandsAt pages at cell → removed ≡ say_removed cell.records → IsTrue removed ↔ IsRemovedAt pages frame at
  removed_by cell removed has stands says = (
    λ yes. (cell, used_by cell has stands, sym says ∙ yes),
    λ (other, is, said). says ∙ subst (λ (c : Cell). say_removed c.records ≡ true) (sym (one_stands pages at cell other stands is.stands)) said,
  )

  -- whether its attributes have a number of a clone that was not made
  pub late_by : (table : Table) (cell : Cell) (late : Bool) → IsInUse links at → StandsAt pages at cell → IsTrue late ↔ ((value : Record) × (record_of 1 cell.records ≡ Some value) × IsLate table.made value)
      → IsTrue late ↔ HasLateNumber pages frame table at
  late_by table cell late has stands told = (
    λ is. (cell, used_by cell has stands, told.0 is),
    λ (other, is, found). told.1 (subst (λ (c : Cell). (value : Record) × (record_of 1 c.records ≡ Some value) × IsLate table.made value) (sym (one_stands pages at cell other stands is.stands)) found),
  )
