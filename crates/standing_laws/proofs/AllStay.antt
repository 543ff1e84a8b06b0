-- A domain stands for the same filesets where each original stands for the one for which it stood.
use Rattle.std.proofs.Common.{◌≡◌, ◌∙◌, ℕ, true, false, Option, Some, None, IfSome, IsSomeAnd, is_some, slice_get, refl, sym, ap, subst}
use Rattle.std.specs.FinMap.{get}
use Rattle.domain_standing.specs.fileset_model.Filesets.{FilesetMap}
use Rattle.domain_standing.specs.fileset_values.Orders.{Name}
use Rattle.domain_standing.specs.fileset_model.declared.fileset.FilesetSlot.{FilesetSlot}
use Rattle.domain_standing.specs.fileset_table.Table.{Table, entry_of}
use Rattle.domain_standing.specs.fileset_table.declared.slot.FilesetEntry.{FilesetEntry}
use Rattle.domain_standing.specs.fileset_table.declared.slot.SlotItem.{SlotItem}
use Rattle.domain_standing.specs.fileset_table.declared.slot.SlotItem.TheVariants as slot
use Rattle.domain_standing.specs.domain_layout.CellRules.{of_clone}
use Rattle.domain_standing.specs.domain_layout.Filled.{AreFilled, FillsThere}
use Rattle.domain_standing.specs.domain_layout.Shape.{AreShapesOf, FilesetShape, HasFileset, IsOriginal, IsShapeOf}
use Rattle.domain_standing.specs.Domain.{DomainNow, item_in}
use Rattle.domain_standing.specs.stored_set.Sets.{StandsAsSet}
use Rattle.domain_standing.specs.Slots.{StandSlots}
use Rattle.standing_laws.specs.Slots.{StandsSlot}
use Rattle.standing_laws.proofs.FilesetPut.{StoodIn, stood_in}

true_not_false : true ≡ false → ⊥
true_not_false e = cc

some_is : {X : Type 0} {x y : X} → Some x ≡ Some y → x ≡ y
some_is e = cc

module _ (d now : DomainNow) (all : FilesetMap) (slots : StandSlots d all) (table : now.table ≡ d.table)
    (stay : (n : ℕ) (entry : FilesetEntry) (shape : FilesetShape) (fileset : FilesetSlot) → item_in d n ≡ Some (slot.Original entry) → StandsSlot d n entry shape fileset → StandsSlot now n entry shape fileset) where
  stood : (n : ℕ) (entry : FilesetEntry) → item_in d n ≡ Some (slot.Original entry) → StoodIn d all slots n entry
  stood n entry there = stood_in d all slots n entry there

  slot_now : (n : ℕ) (entry : FilesetEntry) (there : item_in d n ≡ Some (slot.Original entry)) → StandsSlot now n entry (stood n entry there).shape_was (stood n entry there).fileset_was
  slot_now n entry there = stay n entry (stood n entry there).shape_was (stood n entry there).fileset_was there (stood n entry there).stood

  each_now : (n : ℕ) (item : SlotItem) → slice_get d.table.slots n ≡ Some item → IfSome (entry_of item) (λ entry. IsShapeOf d.pages d.table n item (slots.shapes entry.name)) → IfSome (entry_of item) (λ entry. IsShapeOf now.pages d.table n item (slots.shapes entry.name))
  each_now n slot.Free there is = is
  each_now n (slot.Original entry) there is = subst (λ o. IsSomeAnd o (IsOriginal now.pages n entry)) (sym (stood n entry there).shaped) (slot_now n entry there).is
  each_now n (slot.Clone of clone entry) there is = absurd (true_not_false (ap of_clone (sym there) ∙ slots.no_clone n))
  each_now n (slot.Removed first_tag quota) there is = is

  filled_now : AreFilled now.contents slots.shapes all
  filled_now name = by_shape (slots.shapes name) refl (slots.filled name)
    where
      by_item : (shape : FilesetShape) (n : ℕ) (item : SlotItem) → slice_get d.table.slots n ≡ Some item → IsSomeAnd (entry_of item) (λ entry. entry.name ≡ name) → FillsThere now.contents (slots.shapes name) (get all name)
      by_item shape n slot.Free there named = absurd named
      by_item shape n (slot.Original entry) there named =
          let it = stood n entry there in
          subst (λ (x : Name). FillsThere now.contents (slots.shapes x) (get all x)) named
          (subst (λ o. FillsThere now.contents o (get all entry.name)) (sym it.shaped) (subst (FillsThere now.contents (Some it.shape_was)) (sym it.filled) (slot_now n entry there).filled))
      by_item shape n (slot.Clone of clone entry) there named = absurd (true_not_false (ap of_clone (sym there) ∙ slots.no_clone n))
      by_item shape n (slot.Removed first_tag quota) there named = absurd named

      by_slot : (shape : FilesetShape) → HasFileset d.table name → FillsThere now.contents (slots.shapes name) (get all name)
      by_slot shape h = by_item shape h.number h.item h.there h.named

      by_shape : (o : Option FilesetShape) → slots.shapes name ≡ o → FillsThere d.contents (slots.shapes name) (get all name) → FillsThere now.contents (slots.shapes name) (get all name)
      by_shape None is fills = subst (λ o. FillsThere now.contents o (get all name)) (sym is) (subst (λ o. FillsThere d.contents o (get all name)) is fills)
      by_shape (Some shape) is fills = by_slot shape (slots.are.only name (ap is_some is))

  shapes_now : AreShapesOf now.pages d.table slots.shapes
  shapes_now = record { each = λ n item there. each_now n item there (slots.are.each n item there); only = slots.are.only }

  pub all_stay : StandSlots now all
  all_stay = record {
    shapes = slots.shapes;
    are = subst (λ (t : Table). AreShapesOf now.pages t slots.shapes) (sym table) shapes_now;
    filled = filled_now;
    sets = λ n entry shape there some.
        let was : item_in d n ≡ Some (slot.Original entry) = ap (λ (t : Table). slice_get t.slots n) (sym table) ∙ there in
        let it = stood n entry was in
        subst (λ (s : FilesetShape). StandsAsSet n (now.tags n) now.space now.cells now.pages s.shown) (some_is (sym it.shaped ∙ some)) (slot_now n entry was).set;
    no_clone = λ n. ap (λ (t : Table). of_clone (slice_get t.slots n)) table ∙ slots.no_clone n;
  }
