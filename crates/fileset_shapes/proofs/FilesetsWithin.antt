-- Pages that agree on the pages of members have the same filesets, if no rule is broken.
use Rattle.std.proofs.Common.{◌≡◌, ◌∙◌, ◌≤◌, ◌^◌, ℕ, List, [], Option, Some, None, IfSome, IsSome, IsSomeAnd, refl, sym, ap, subst}
use Rattle.std.specs.Prelude.{slice_get, unwrap_or}
use Rattle.std.specs.Option.{option_and_then}
use Rattle.filesets_reading.specs.domain_base.declared.place.Home.{Home}
use Rattle.filesets_reading.specs.domain_base.declared.place.Tag.{Tag}
use Rattle.filesets_reading.specs.page_store.Pages.{Pages}
use Rattle.filesets_reading.specs.fileset_model.Filesets.{FilesetMap}
use Rattle.filesets_reading.specs.fileset_values.Orders.{Name}
use Rattle.filesets_reading.specs.fileset_table.Page.{IsTablePage}
use Rattle.filesets_reading.specs.fileset_table.Table.{Table, entry_of}
use Rattle.filesets_reading.specs.fileset_table.declared.slot.FilesetEntry.{FilesetEntry}
use Rattle.filesets_reading.specs.fileset_table.declared.slot.SlotItem.{SlotItem}
use Rattle.filesets_reading.specs.fileset_table.declared.slot.SlotItem.TheVariants as slots
use Rattle.filesets_reading.proofs.OfFilesetTable.Unique.{table_unique}
use Rattle.filesets_reading.specs.domain_layout.Faults.{HasNoFault}
use Rattle.filesets_reading.specs.domain_layout.Layout.{IsLayout, Layout}
use Rattle.filesets_reading.specs.domain_layout.Owners.{frame_of}
use Rattle.filesets_reading.specs.domain_layout.Reached.{MayBe}
use Rattle.filesets_reading.specs.domain_layout.Read.{ReadsFrom, contents_of}
use Rattle.filesets_reading.specs.domain_layout.Seen.{SeenFile}
use Rattle.filesets_reading.specs.domain_layout.Shape.{AreShapesOf, FilesetShape, HasFileset, HaveShapes, IsClone, IsOriginal, IsShapeOf, Shapes}
use Rattle.filesets_reading.specs.domain_layout.Agreeing.{AgreeOn}
use Rattle.filesets_reading.specs.domain_layout.Metadata.{AgreeOnMetadata}
use Rattle.filesets_reading.proofs.OfDomainLayout.FilledAlike.{filled_at_homes}
use Rattle.filesets_reading.proofs.OfDomainLayout.OnePage.{HasOne, one_of, some_same}
use Rattle.filesets_reading.proofs.OfDomainLayout.ShapesAlike.{same_shapes}
use Rattle.fileset_shapes.specs.Files.{IsWhole}
use Rattle.fileset_shapes.specs.Found.{HasAllPages}
use Rattle.fileset_shapes.proofs.ShapeFacts.{clone_there, original_there}
use Rattle.fileset_shapes.specs.Within.{AgreeWithin, IsInside}

module _ (one other : Pages) (layout : Layout) (inside : IsInside (frame_of layout)) (agree : AgreeWithin one other (frame_of layout)) (laid : IsLayout one layout) (none : HasNoFault one (frame_of layout)) (all : HasAllPages one (frame_of layout)) where
  whole : IsWhole one layout
  whole = record { laid = laid; no_fault = none; small = inside.small; all = all }

  -- ---- each page of a file may stand where it does

  clone_may : (number of clone : ℕ) (entry : FilesetEntry) → slice_get layout.table.slots number ≡ Some (slots.Clone of clone entry) → (shape : FilesetShape)
      → IsShapeOf one layout.table number (slots.Clone of clone entry) (Some shape) → (tag : Tag) (seen : SeenFile) → shape.files tag ≡ Some seen → (page : ℕ) (home : Home) → seen.homes page ≡ Some home → MayBe (frame_of layout) home
  clone_may number of clone entry there shape is tag seen at = by_item (slice_get layout.table.slots of) refl is
    where
      by_entry : (item : SlotItem) → slice_get layout.table.slots of ≡ Some item → (o : Option FilesetEntry) → entry_of item ≡ o → IsSomeAnd o (λ original. IsClone one number of entry original clone shape)
          → (page : ℕ) (home : Home) → seen.homes page ≡ Some home → MayBe (frame_of layout) home
      by_entry item behind None fileset is = absurd is
      by_entry item behind (Some original) fileset is = (clone_there one layout whole number of clone entry original there item behind fileset shape is tag seen at).may

      by_item : (o : Option SlotItem) → slice_get layout.table.slots of ≡ o → IsSomeAnd (option_and_then entry_of o) (λ original. IsClone one number of entry original clone shape)
          → (page : ℕ) (home : Home) → seen.homes page ≡ Some home → MayBe (frame_of layout) home
      by_item None behind is = absurd is
      by_item (Some item) behind is = by_entry item behind (entry_of item) refl is

  shape_may : (number : ℕ) (item : SlotItem) → slice_get layout.table.slots number ≡ Some item → (shape : FilesetShape) → IsShapeOf one layout.table number item (Some shape)
      → (tag : Tag) (seen : SeenFile) → shape.files tag ≡ Some seen → (page : ℕ) (home : Home) → seen.homes page ≡ Some home → MayBe (frame_of layout) home
  shape_may number slots.Free there shape is tag seen at = absurd (let e : Some shape ≡ None = is in absurd (cc))
  shape_may number (slots.Removed first_tag quota) there shape is tag seen at = absurd (let e : Some shape ≡ None = is in absurd (cc))
  shape_may number (slots.Original entry) there shape is tag seen at = (original_there one layout whole number entry there shape is tag seen at).may
  shape_may number (slots.Clone of clone entry) there shape is tag seen at = clone_may number of clone entry there shape is tag seen at

  -- ---- shapes

  module _ (shapes : Shapes) (are : AreShapesOf one layout.table shapes) where
    pub home_may : (name : Name) (shape : FilesetShape) → shapes name ≡ Some shape → (tag : Tag) (seen : SeenFile) → shape.files tag ≡ Some seen → (page : ℕ) (home : Home) → seen.homes page ≡ Some home → MayBe (frame_of layout) home
    home_may name shape there =
        let fileset : HasFileset layout.table name = are.only name (subst IsSome (sym there) refl) in
        let entry : HasOne (entry_of fileset.item) (λ e. e.name ≡ name) = one_of (entry_of fileset.item) (λ (e : FilesetEntry). e.name ≡ name) fileset.named in
        let is : IsShapeOf one layout.table fileset.number fileset.item (shapes entry.value.name) =
        subst (λ o. IfSome o (λ (e : FilesetEntry). IsShapeOf one layout.table fileset.number fileset.item (shapes e.name))) entry.there (are.each fileset.number fileset.item fileset.there) in
        shape_may fileset.number fileset.item fileset.there shape
        (subst (IsShapeOf one layout.table fileset.number fileset.item) (ap shapes entry.is ∙ there) is)

    metadata : AgreeOnMetadata one other layout shapes
    metadata = record {
      table = λ home at. agree home (inside.table home at);
      cells = λ vol member passed at reached may. agree at may.0;
      tags = λ number first has passed at reached may. agree at may.0;
      indexes = λ at first has passed onto reached may. agree onto may.0;
      directories = λ name shape there tag seen page home sees kind at. agree home (home_may name shape there tag seen sees page home at).0;
    }

    contents : AgreeOn (contents_of one) (contents_of other) shapes
    contents name shape there tag seen sees page home at = ap (λ o. unwrap_or o []) (agree home (home_may name shape there tag seen sees page home at).0)

  reads : (home : Home) (filesets : FilesetMap) → layout.anchor.table ≡ Some home → ReadsFrom one home filesets → ReadsFrom other home filesets
  reads home filesets at from =
      let said = one_of layout.anchor.table (λ h. IsSomeAnd (one h) (λ page. IsTablePage page layout.table)) laid.table in
      let homes : said.value ≡ home = some_same said.value home (sym said.there ∙ at) in
      let here : HasOne (one home) (λ page. IsTablePage page layout.table) = one_of (one home) (λ page. IsTablePage page layout.table) (subst (λ h. IsSomeAnd (one h) (λ page. IsTablePage page layout.table)) homes said.is) in
      let also : IsTablePage here.value from.shaped.table = subst (λ o. IsSomeAnd o (λ page. IsTablePage page from.shaped.table)) here.there from.shaped.there in
      let same : from.shaped.table ≡ layout.table = table_unique here.value from.shaped.table layout.table also here.is in
      let are : AreShapesOf one layout.table from.shapes = subst (λ table. AreShapesOf one table from.shapes) same from.shaped.are in
      record {
        shapes = from.shapes;
        shaped = same_shapes one other layout home from.shapes laid none at from.shaped (metadata from.shapes are);
        filled = filled_at_homes (contents_of one) (contents_of other) from.shapes filesets (contents from.shapes are) from.filled;
      }

pub filesets_within : (one other : Pages) (layout : Layout) (home : Home) (all : FilesetMap) → IsInside (frame_of layout) → AgreeWithin one other (frame_of layout) → IsLayout one layout → HasNoFault one (frame_of layout)
    → HasAllPages one (frame_of layout) → layout.anchor.table ≡ Some home → ReadsFrom one home all → ReadsFrom other home all
filesets_within one other layout home filesets inside agree laid none all at from = reads one other layout inside agree laid none all home filesets at from
