-- The filesets for which a domain stands are the same after steps.
use Rattle.std.proofs.Common.{◌≡◌, ◌∙◌, ℕ, true, false, Some, IfSome, IsSomeAnd, is_some, slice_get, sym, ap, subst}
use Rattle.standing_laws.specs.fileset_model.Filesets.{FilesetMap}
use Rattle.standing_laws.specs.fileset_table.Table.{Table, entry_of}
use Rattle.standing_laws.specs.fileset_table.declared.slot.FilesetEntry.{FilesetEntry}
use Rattle.standing_laws.specs.fileset_table.declared.slot.SlotItem.{SlotItem}
use Rattle.standing_laws.specs.fileset_table.declared.slot.SlotItem.TheVariants as slot
use Rattle.standing_laws.specs.release_list.Standing.{Files}
use Rattle.standing_laws.specs.domain_layout.CellRules.{of_clone}
use Rattle.standing_laws.specs.domain_layout.Shape.{AreShapesOf, FilesetShape, HasFileset, IsOriginal, IsShapeOf}
use Rattle.standing_laws.specs.domain_layout.Agreeing.{AgreeOn, AgreeOnShape}
use Rattle.standing_laws.proofs.OfDomainLayout.FilledAlike.{filled_at_homes}
use Rattle.standing_laws.specs.domain_standing.Chains.{IndexesAt}
use Rattle.standing_laws.specs.domain_standing.Domain.{DomainNow, item_in}
use Rattle.standing_laws.specs.domain_standing.Slots.{StandSlots}
use Rattle.standing_laws.specs.domain_standing.Sources.{StandAlone}
use Rattle.standing_laws.specs.Leads.{StandsBelow}
use Rattle.standing_laws.specs.Slots.{StandsSlot}
use Rattle.standing_laws.proofs.FilesetPut.{StoodIn, stood_in}
use Rattle.standing_laws.specs.stored_set.Sets.{StandsAsSet}
use Rattle.release_laws.specs.Released.{Releases}
use Rattle.release_laws.specs.Trimmed.{TrimsFiles}
use Rattle.release_laws.proofs.SlotOver.{agree as agree_on, slot_over}

true_not_false : true ≡ false → ⊥
true_not_false e = cc

module _ (group count : ℕ) (d now : DomainNow) (files files_now : Files) (indexes : IndexesAt) (below : StandsBelow d files indexes) (after : StandsBelow now files_now indexes) (alone : StandAlone d) (r : Releases group count d now files files_now) (trims : TrimsFiles d files) (all : FilesetMap) (slots : StandSlots d all) where
  stood : (n : ℕ) (entry : FilesetEntry) → item_in d n ≡ Some (slot.Original entry) → StoodIn d all slots n entry
  stood n entry there = stood_in d all slots n entry there

  slot_now : (n : ℕ) (entry : FilesetEntry) (there : item_in d n ≡ Some (slot.Original entry)) → StandsSlot now n entry (stood n entry there).shape_was (stood n entry there).fileset_was
  slot_now n entry there = slot_over group count d now files files_now indexes below after alone r trims n entry (stood n entry there).shape_was (stood n entry there).fileset_was there (stood n entry there).stood

  each_now : (n : ℕ) (item : SlotItem) → slice_get d.table.slots n ≡ Some item → IfSome (entry_of item) (λ entry. IsShapeOf d.pages d.table n item (slots.shapes entry.name)) → IfSome (entry_of item) (λ entry. IsShapeOf now.pages d.table n item (slots.shapes entry.name))
  each_now n slot.Free there is = is
  each_now n (slot.Original entry) there is = subst (λ o. IsSomeAnd o (IsOriginal now.pages n entry)) (sym (stood n entry there).shaped) (slot_now n entry there).is
  each_now n (slot.Clone of clone entry) there is = absurd (true_not_false (ap of_clone (sym there) ∙ slots.no_clone n))
  each_now n (slot.Removed first_tag quota) there is = is

  agree : AgreeOn d.contents now.contents slots.shapes
  agree name shape some = by_slot (slots.are.only name (ap is_some some))
    where
      by_item : (n : ℕ) (item : SlotItem) → slice_get d.table.slots n ≡ Some item → IsSomeAnd (entry_of item) (λ entry. entry.name ≡ name) → AgreeOnShape d.contents now.contents shape
      by_item n slot.Free there is_named = absurd is_named
      by_item n (slot.Original entry) there is_named =
          let it = stood n entry there in
          subst (AgreeOnShape d.contents now.contents) (some_is it.shape_was shape (sym it.shaped ∙ ap slots.shapes is_named ∙ some))
          (agree_on group count d now files files_now indexes below after alone r trims n entry it.shape_was it.fileset_was there it.stood)
        where
          some_is : (x y : FilesetShape) → Some x ≡ Some y → x ≡ y
          some_is x y e = cc
      by_item n (slot.Clone of clone entry) there is_named = absurd (true_not_false (ap of_clone (sym there) ∙ slots.no_clone n))
      by_item n (slot.Removed first_tag quota) there is_named = absurd is_named

      by_slot : HasFileset d.table name → AgreeOnShape d.contents now.contents shape
      by_slot h = by_item h.number h.item h.there h.named

  shapes_now : AreShapesOf now.pages d.table slots.shapes
  shapes_now = record { each = λ n item there. each_now n item there (slots.are.each n item there); only = slots.are.only }

  original_was : (n : ℕ) (entry : FilesetEntry) → item_in now n ≡ Some (slot.Original entry) → item_in d n ≡ Some (slot.Original entry)
  original_was n entry there = ap (λ (t : Table). slice_get t.slots n) (sym r.table) ∙ there

  pub slots_over : StandSlots now all
  slots_over = record {
    shapes = slots.shapes;
    are = subst (λ (t : Table). AreShapesOf now.pages t slots.shapes) (sym r.table) shapes_now;
    filled = filled_at_homes d.contents now.contents slots.shapes all agree slots.filled;
    sets = λ n entry shape there some.
        let was = original_was n entry there in
        let it = stood n entry was in
        subst (λ (s : FilesetShape). StandsAsSet n (now.tags n) now.space now.cells now.pages s.shown) (some_is it.shape_was shape (sym it.shaped ∙ some)) (slot_now n entry was).set;
    no_clone = λ n. ap (λ (t : Table). of_clone (slice_get t.slots n)) r.table ∙ slots.no_clone n;
  }
    where
      some_is : (x y : FilesetShape) → Some x ≡ Some y → x ≡ y
      some_is x y e = cc
