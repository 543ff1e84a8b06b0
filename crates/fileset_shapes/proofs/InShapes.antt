-- What a shape has at a tag the fileset has.
use Rattle.std.proofs.Common.{◌≡◌, ◌∙◌, inl, inr, ℕ, Bool, true, false, List, Option, Some, None, IsSome, IsSomeAnd, IfSome, slice_get, refl, sym, ap, subst}
use Rattle.std.specs.Option.{option_and_then}
use Rattle.filesets_reading.specs.domain_base.declared.place.Tag.{Tag}
use Rattle.filesets_reading.specs.page_store.Pages.{Pages}
use Rattle.filesets_reading.specs.metadata_cells.Chain.{PlacedCell}
use Rattle.filesets_reading.specs.fileset_files.Files.{is_removed}
use Rattle.filesets_reading.specs.fileset_values.Orders.{Name}
use Rattle.filesets_reading.specs.fileset_table.Table.{Table, entry_of}
use Rattle.filesets_reading.specs.fileset_table.declared.slot.FilesetEntry.{FilesetEntry}
use Rattle.filesets_reading.specs.fileset_table.declared.slot.SlotItem.{SlotItem}
use Rattle.filesets_reading.specs.fileset_table.declared.slot.SlotItem.TheVariants as slots
use Rattle.filesets_reading.specs.domain_layout.DirectoryRules.{Has, IsInClone}
use Rattle.filesets_reading.proofs.OfDomainLayout.There.{is_not_there, is_there}
use Rattle.filesets_reading.specs.domain_layout.Seen.{IsOfClone, IsOwnUnless, SeenFile, seen_in, seen_through}
use Rattle.filesets_reading.specs.domain_layout.Shape.{AreShapesOf, FilesetShape, IsClone, IsOriginal, IsShapeOf, Shapes}
use Rattle.filesets_reading.proofs.OfDomainLayout.OnePage.{HasOne, one_of}
use Rattle.fileset_shapes.proofs.OriginalFiles.{none_some}

-- the file of some cells
pub record HasSome (pages : Pages) (table : Table) (tag : Tag) (seen : SeenFile) : Type 0 where
  pub number : ℕ
  pub cells : List PlacedCell
  pub has : Has pages table number tag cells seen

module _ (pages : Pages) (table : Table) (tag : Tag) (seen : SeenFile) where
  original_has : (number : ℕ) (entry : FilesetEntry) → slice_get table.slots number ≡ Some (slots.Original entry) → (shape : FilesetShape) → IsOriginal pages number entry shape → shape.files tag ≡ Some seen → HasSome pages table tag seen
  original_has number entry slot shape is sees = by_chain (is.chains tag) refl (sym (is.files tag) ∙ sees)
    where
      by_chain : (o : Option (List PlacedCell)) → is.chains tag ≡ o → option_and_then seen_in o ≡ Some seen → HasSome pages table tag seen
      by_chain None at sees = none_some seen sees
      by_chain (Some cells) at sees = record {
        number = number;
        cells = cells;
        has = record {
          item = slots.Original entry;
          there = slot;
          is = record { there = is_there pages number entry is.chains is.has tag cells at; is = sees };
        };
      }

  clone_has : (number of clone : ℕ) (entry original : FilesetEntry) → slice_get table.slots number ≡ Some (slots.Clone of clone entry) → (item : SlotItem) → slice_get table.slots of ≡ Some item → entry_of item ≡ Some original
      → (shape : FilesetShape) → IsClone pages number of entry original clone shape → shape.files tag ≡ Some seen → HasSome pages table tag seen
  clone_has number of clone entry original slot item behind fileset shape is sees = by_own (is.chains tag) refl (subst (IsOfClone pages clone (is.chains tag) (is.behind tag)) sees (is.files tag))
    where
      by_removed : (cells : List PlacedCell) → is.chains tag ≡ Some cells → (b : Bool) → is_removed cells ≡ b → IsOwnUnless b pages cells (Some seen) → HasSome pages table tag seen
      by_removed cells at true gone own = none_some seen (sym own)
      by_removed cells at false live own = record {
        number = number;
        cells = cells;
        has = record {
          item = slots.Clone of clone entry;
          there = slot;
          is = subst (λ o. IsSomeAnd o (λ (e : FilesetEntry). IsInClone pages entry e clone tag cells seen)) (sym (ap (option_and_then entry_of) behind ∙ fileset))
              (record { is = inl (is_there pages number entry is.chains is.has tag cells at, live, own) });
        };
      }

      by_behind : is.chains tag ≡ None → (o : Option (List PlacedCell)) → is.behind tag ≡ o → Some seen ≡ option_and_then (seen_through clone) o → HasSome pages table tag seen
      by_behind none None at sees = none_some seen (sym sees)
      by_behind none (Some cells) at sees = record {
        number = number;
        cells = cells;
        has = record {
          item = slots.Clone of clone entry;
          there = slot;
          is = subst (λ o. IsSomeAnd o (λ (e : FilesetEntry). IsInClone pages entry e clone tag cells seen)) (sym (ap (option_and_then entry_of) behind ∙ fileset))
              (record { is = inr (is_not_there pages number entry is.chains is.has tag none, is_there pages of original is.behind is.has_behind tag cells at, sym sees) });
        };
      }

      by_own : (o : Option (List PlacedCell)) → is.chains tag ≡ o → IsOfClone pages clone o (is.behind tag) (Some seen) → HasSome pages table tag seen
      by_own None none sees = by_behind none (is.behind tag) refl sees
      by_own (Some cells) at own = by_removed cells at (is_removed cells) refl own

  shape_has : (number : ℕ) (item : SlotItem) → slice_get table.slots number ≡ Some item → (shape : FilesetShape) → IsShapeOf pages table number item (Some shape) → shape.files tag ≡ Some seen → HasSome pages table tag seen
  shape_has number slots.Free slot shape is sees = none_some shape (sym is)
  shape_has number (slots.Removed first_tag quota) slot shape is sees = none_some shape (sym is)
  shape_has number (slots.Original entry) slot shape is sees = original_has number entry slot shape is sees
  shape_has number (slots.Clone of clone entry) slot shape is sees = by_item (slice_get table.slots of) refl is
    where
      by_entry : (item : SlotItem) → slice_get table.slots of ≡ Some item → (o : Option FilesetEntry) → entry_of item ≡ o → IsSomeAnd o (λ original. IsClone pages number of entry original clone shape) → HasSome pages table tag seen
      by_entry item behind None fileset is = absurd is
      by_entry item behind (Some original) fileset is = clone_has number of clone entry original slot item behind fileset shape is sees

      by_item : (o : Option SlotItem) → slice_get table.slots of ≡ o → IsSomeAnd (option_and_then entry_of o) (λ original. IsClone pages number of entry original clone shape) → HasSome pages table tag seen
      by_item None behind is = absurd is
      by_item (Some item) behind is = by_entry item behind (entry_of item) refl is

  -- what a shape of the table has, a fileset of the table has
  pub in_shapes : (shapes : Shapes) → AreShapesOf pages table shapes → (name : Name) (shape : FilesetShape) → shapes name ≡ Some shape → shape.files tag ≡ Some seen → HasSome pages table tag seen
  in_shapes shapes are name shape there sees =
      let of = are.only name (subst IsSome (sym there) refl) in
      let entry : HasOne (entry_of of.item) (λ (e : FilesetEntry). e.name ≡ name) = one_of (entry_of of.item) (λ (e : FilesetEntry). e.name ≡ name) of.named in
      let is : IsShapeOf pages table of.number of.item (shapes entry.value.name) = subst (λ o. IfSome o (λ (e : FilesetEntry). IsShapeOf pages table of.number of.item (shapes e.name))) entry.there (are.each of.number of.item of.there) in
      shape_has of.number of.item of.there shape (subst (IsShapeOf pages table of.number of.item) (ap shapes entry.is ∙ there) is) sees
