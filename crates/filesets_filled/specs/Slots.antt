-- The filesets that were filled, slot by slot.
use Rattle.std.specs.Prelude.{◌≡◌, ◌<◌, ℕ, Option, Some, None, IfSome, IsSome, IsSomeAnd, slice_get}
use Rattle.std.specs.FinMap.{insert}
use Rattle.fileset_shapes.specs.disk_label.declared.anchor.Anchor.{Anchor}
use Rattle.fileset_shapes.specs.page_store.Pages.{Pages}
use Rattle.fileset_shapes.specs.domain_base.declared.version.Version.{Version}
use Rattle.fileset_shapes.specs.domain_layout.Faults.{HasNoFault}
use Rattle.fileset_shapes.specs.domain_layout.Filled.{AreFilled, Fills}
use Rattle.fileset_shapes.specs.domain_layout.Layout.{IsLayout, Layout}
use Rattle.fileset_shapes.specs.domain_layout.Owners.{frame_of}
use Rattle.fileset_shapes.specs.domain_layout.Reached.{Frame}
use Rattle.fileset_shapes.specs.domain_layout.Read.{contents_of}
use Rattle.fileset_shapes.specs.domain_layout.Shape.{FilesetShape, IsShapeOf, Shapes}
use Rattle.fileset_shapes.specs.fileset_model.Filesets.{FilesetMap}
use Rattle.fileset_shapes.specs.fileset_values.Orders.{Name}
use Rattle.fileset_shapes.specs.fileset_table.Table.{Table, entry_of}
use Rattle.fileset_shapes.specs.fileset_table.declared.slot.FilesetEntry.{FilesetEntry}
use Rattle.fileset_shapes.specs.fileset_table.declared.slot.SlotItem.{SlotItem}
use Rattle.fileset_shapes.specs.filesets_reading.Good.{IsNamed, frame_at}
use Rattle.fileset_shapes.specs.Found.{HasAllPages}
use Rattle.filesets_filled.specs.declared.slots.NamedFileset.{NamedFileset}

-- what is in a slot has a shape, and this is its fileset
pub record FillsItem (pages : Pages) (table : Table) (number : ℕ) (item : SlotItem)
    (entry : FilesetEntry) (found : NamedFileset) : Type 0 where
  pub name : found.name ≡ entry.name
  pub shape : FilesetShape
  pub is : IsShapeOf pages table number item (Some shape)
  pub fills : Fills (contents_of pages) shape found.slot

abbrev pub FillsEntry : Pages → Table → ℕ → SlotItem → Option FilesetEntry → Option NamedFileset
    → Type 0
FillsEntry pages table number item None found = found ≡ None
FillsEntry pages table number item (Some entry) found =
    IsSomeAnd found (FillsItem pages table number item entry)

-- the fileset in a slot, and none where it has none
abbrev pub FillsSlot : Pages → Table → ℕ → Option NamedFileset → Type 0
FillsSlot pages table number found = (item : SlotItem) → slice_get table.slots number ≡ Some item
    → FillsEntry pages table number item (entry_of item) found

-- all filesets with one more
abbrev pub with_found : Option NamedFileset → FilesetMap → FilesetMap
with_found None all = all
with_found (Some found) all = insert all found.name found.slot

-- the filesets in all slots below a number
pub record AreFilledUpTo (pages : Pages) (table : Table) (count : ℕ) (all : FilesetMap) : Type 0
  where
    pub shapes : Shapes
    pub each : (number : ℕ) (item : SlotItem) → number < count
        → slice_get table.slots number ≡ Some item → IfSome (entry_of item)
        (λ entry. IsShapeOf pages table number item (shapes entry.name))
    pub only : (name : Name) → IsSome (shapes name)
        → (number : ℕ) × (item : SlotItem) × (number < count)
        × (slice_get table.slots number ≡ Some item)
        × IsSomeAnd (entry_of item) (λ entry. entry.name ≡ name)
    pub filled : AreFilled (contents_of pages) shapes all

-- pages are laid out as a domain's are
pub record IsLaidOut (pages : Pages) (frame : Frame) : Type 0 where
  pub layout : Layout
  pub is : frame_of layout ≡ frame
  pub laid : IsLayout pages layout

-- an anchor names a fileset table, and the pages of its domain break no rule; those of its files are
-- all there
pub record IsGoodDomain (pages : Pages) (anchor : Anchor) (version : Version) : Type 0 where
  pub named : IsNamed anchor version
  pub no_fault : HasNoFault pages (frame_at anchor version)
  pub all : HasAllPages pages (frame_at anchor version)
