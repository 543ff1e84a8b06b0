-- The fileset of one slot of a domain, and what a change elsewhere leaves of its bytes.
use Rattle.std.specs.Prelude.{◌≡◌, ℕ, Some}
use Rattle.domain_standing.specs.fileset_model.declared.fileset.FilesetSlot.{FilesetSlot}
use Rattle.domain_standing.specs.fileset_table.declared.slot.FilesetEntry.{FilesetEntry}
use Rattle.domain_standing.specs.fileset_table.declared.slot.SlotItem.TheVariants as slot
use Rattle.domain_standing.specs.stored_set.Sets.{StandsAsSet}
use Rattle.domain_standing.specs.domain_layout.Filled.{Fills}
use Rattle.domain_standing.specs.domain_layout.Shape.{FilesetShape, IsOriginal, Shapes}
use Rattle.domain_standing.specs.domain_layout.Agreeing.{AgreeOnShape}
use Rattle.domain_standing.specs.Domain.{DomainNow, item_in}

-- an original in a slot stands for this fileset: its pages have this shape, which is filled so, and
-- its files stand as the set that the shape shows
pub record StandsSlot (d : DomainNow) (number : ℕ) (entry : FilesetEntry) (shape : FilesetShape)
    (fileset : FilesetSlot) : Type 0 where
  pub is : IsOriginal d.pages number entry shape
  pub filled : Fills d.contents shape fileset
  pub set : StandsAsSet number (d.tags number) d.space d.cells d.pages shape.shown

-- the same bytes stand at each home at which a file of another slot has a page
abbrev pub AgreeOnOthers : ℕ → DomainNow → DomainNow → Shapes → Type 0
AgreeOnOthers number d now shapes = (other : ℕ) (entry : FilesetEntry) (shape : FilesetShape)
    → ¬ other ≡ number → item_in d other ≡ Some (slot.Original entry)
    → shapes entry.name ≡ Some shape → AgreeOnShape d.contents now.contents shape
