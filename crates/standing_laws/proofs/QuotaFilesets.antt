-- A domain stands for its filesets once an owner's limits are set in one of them.
use Rattle.std.proofs.Common.{◌≡◌, ◌∙◌, ◌⊎◌, ℕ, false, List, Option, Some, None, IfSome, IsSome, IsSomeAnd, inl, inr, is_some, refl, sym, ap, subst, arith, ⊎_elim, true≢false}
use Rattle.std.proofs.lemmas.Bool.{cases_lt}
use Rattle.std.specs.FinMap.{get, insert}
use Rattle.domain_standing.specs.domain_base.declared.place.Home.{Home}
use Rattle.domain_standing.proofs.OfFilesetValues.MapLemmas.{get-insert_other, get-insert_same}
use Rattle.domain_standing.specs.fileset_model.Filesets.{FilesetMap}
use Rattle.domain_standing.specs.fileset_values.Orders.{Name, name_cmp-total, name_cmp-IsAntisymmetric}
use Rattle.domain_standing.specs.fileset_model.declared.fileset.FilesetSlot.{FilesetSlot}
use Rattle.domain_standing.specs.fileset_table.Page.{IsTablePage}
use Rattle.domain_standing.specs.fileset_table.Table.{HaveOwnNames, entry_of}
use Rattle.domain_standing.specs.fileset_table.declared.slot.FilesetEntry.{FilesetEntry}
use Rattle.domain_standing.specs.fileset_table.declared.slot.SlotItem.{SlotItem}
use Rattle.domain_standing.specs.fileset_table.declared.slot.SlotItem.TheVariants as slot
use Rattle.domain_standing.specs.stored_set.Sets.{StandsAsSet}
use Rattle.domain_standing.specs.release_list.Standing.{Files}
use Rattle.domain_standing.proofs.OfReleaseList.Spread.{some_same}
use Rattle.domain_standing.specs.domain_layout.CellRules.{of_clone}
use Rattle.domain_standing.specs.domain_layout.Filled.{FillsThere}
use Rattle.domain_standing.specs.domain_layout.Shape.{FilesetShape, HasFileset, IsOriginal, IsShapeOf, Shapes}
use Rattle.domain_standing.specs.domain_layout.Agreeing.{AgreeOn}
use Rattle.domain_standing.specs.Chains.{IndexesAt}
use Rattle.domain_standing.specs.Domain.{DomainNow, item_in}
use Rattle.domain_standing.specs.Slots.{StandSlots}
use Rattle.standing_laws.specs.Leads.{StandsBelow}
use Rattle.standing_laws.specs.SetsQuota.{SetsQuota, entry_limited, fileset_limited, shape_limited}
use Rattle.standing_laws.specs.Slots.{StandsSlot}
use Rattle.standing_laws.proofs.FilesetPut.{StoodIn, name_decided, one_name, one_slot, stood_in}
use Rattle.standing_laws.proofs.QuotaLimits.{slot_limited}
use Rattle.standing_laws.proofs.QuotaSets.{slot_stays}
use Rattle.standing_laws.proofs.QuotaSlots.{item_mine, item_other, number_or_not}

module _ (number : ℕ) (d now : DomainNow) (files files_now : Files) (indexes : IndexesAt) (below : StandsBelow d files indexes) (s : SetsQuota number d now files files_now) where
  abbrev entry_now : FilesetEntry
  entry_now = entry_limited s.sets.start s.entry

  own_names : HaveOwnNames d.table.slots
  own_names = by_home d.frame.anchor.table below.tables.laid.table
    where
      by_page : (o : Option (List ℕ)) → IsSomeAnd o (λ page. IsTablePage page d.table) → HaveOwnNames d.table.slots
      by_page None is = absurd is
      by_page (Some page) is = is.good.together.names

      by_home : (o : Option Home) → IsSomeAnd o (λ home. IsSomeAnd (d.pages home) (λ page. IsTablePage page d.table)) → HaveOwnNames d.table.slots
      by_home None is = absurd is
      by_home (Some home) is = by_page (d.pages home) is

  -- another slot has another name
  other_name : (n : ℕ) (entry : FilesetEntry) → ¬ n ≡ number → item_in d n ≡ Some (slot.Original entry) → ¬ s.entry.name ≡ entry.name
  other_name n entry differ at same = ⊎_elim
      (λ less. one_slot d.table.slots own_names n number entry s.entry less at s.original (sym same))
      (λ more. ⊎_elim
      (λ less. one_slot d.table.slots own_names number n s.entry entry less s.original at same)
      (λ also. differ (omega (arith, more, also)))
      (cases_lt number n))
      (cases_lt n number)

  either : (n : ℕ) → (n ≡ number) ⊎ (¬ n ≡ number)
  either = number_or_not number d now files files_now indexes below s

  mine : item_in now number ≡ Some (slot.Original entry_now)
  mine = item_mine number d now files files_now indexes below s

  others : (n : ℕ) → ¬ n ≡ number → item_in now n ≡ item_in d n
  others = item_other number d now files files_now indexes below s

  module _ (all : FilesetMap) (slots : StandSlots d all) (agree : AgreeOn d.contents now.contents slots.shapes) (fileset : FilesetSlot) (is_fileset : get all s.entry.name ≡ Some fileset) where
    own_was : StoodIn d all slots number s.entry
    own_was = stood_in d all slots number s.entry s.original

    abbrev shape : FilesetShape
    shape = shape_limited s.who s.limits own_was.shape_was

    abbrev limited : FilesetSlot
    limited = fileset_limited s.who s.limits fileset

    own : StandsSlot now number entry_now shape limited
    own = subst (λ (f : FilesetSlot). StandsSlot now number entry_now shape (fileset_limited s.who s.limits f)) (some_same own_was.fileset_was fileset (sym own_was.filled ∙ is_fileset))
        (slot_limited number d now files files_now indexes below s own_was.shape_was own_was.fileset_was own_was.stood (agree s.entry.name own_was.shape_was own_was.shaped))

    -- ---- the shapes with that one

    abbrev shape_if : (name : Name) → Option FilesetShape → (s.entry.name ≡ name) ⊎ ¬ s.entry.name ≡ name → Option FilesetShape
    shape_if name was (inl same) = Some shape
    shape_if name was (inr differ) = was

    abbrev shapes_now : Shapes
    shapes_now name = shape_if name (slots.shapes name) (name_decided s.entry.name name)

    put_same : (name : Name) → s.entry.name ≡ name → shapes_now name ≡ Some shape
    put_same name same = by_name (name_decided s.entry.name name)
      where
        by_name : (e : (s.entry.name ≡ name) ⊎ ¬ s.entry.name ≡ name) → shape_if name (slots.shapes name) e ≡ Some shape
        by_name (inl is) = refl
        by_name (inr differ) = absurd (differ same)

    put_other : (name : Name) → ¬ s.entry.name ≡ name → shapes_now name ≡ slots.shapes name
    put_other name differ = by_name (name_decided s.entry.name name)
      where
        by_name : (e : (s.entry.name ≡ name) ⊎ ¬ s.entry.name ≡ name) → shape_if name (slots.shapes name) e ≡ slots.shapes name
        by_name (inl is) = absurd (differ is)
        by_name (inr other) = refl

    -- ---- another slot

    module _ (n : ℕ) (entry : FilesetEntry) (differ : ¬ n ≡ number) (at : item_in d n ≡ Some (slot.Original entry)) where
      there : StoodIn d all slots n entry
      there = stood_in d all slots n entry at

      stays : StandsSlot now n entry there.shape_was there.fileset_was
      stays = slot_stays number d now files files_now indexes below s n entry there.shape_was there.fileset_was at there.stood differ (agree entry.name there.shape_was there.shaped)

      shaped_still : shapes_now entry.name ≡ Some there.shape_was
      shaped_still = put_other entry.name (other_name n entry differ at) ∙ there.shaped

      shape_stays : IsSomeAnd (shapes_now entry.name) (IsOriginal now.pages n entry)
      shape_stays = subst (λ o. IsSomeAnd o (IsOriginal now.pages n entry)) (sym shaped_still) stays.is

      filled_still : FillsThere now.contents (slots.shapes entry.name) (get all entry.name)
      filled_still = subst (λ o. FillsThere now.contents o (get all entry.name)) (sym there.shaped) (subst (FillsThere now.contents (Some there.shape_was)) (sym there.filled) stays.filled)

      set_stays : (sh : FilesetShape) → shapes_now entry.name ≡ Some sh → StandsAsSet n (now.tags n) now.space now.cells now.pages sh.shown
      set_stays sh is = subst (λ (x : FilesetShape). StandsAsSet n (now.tags n) now.space now.cells now.pages x.shown) (some_same there.shape_was sh (sym shaped_still ∙ is)) stays.set

    -- ---- all slots

    its_entry : (n : ℕ) (item : SlotItem) → n ≡ number → item_in now n ≡ Some item → slot.Original entry_now ≡ item
    its_entry n item same at = some_same (slot.Original entry_now) item (sym mine ∙ ap (item_in now) (sym same) ∙ at)

    its_entry_was : (n : ℕ) (item : SlotItem) → n ≡ number → item_in d n ≡ Some item → slot.Original s.entry ≡ item
    its_entry_was n item same at = some_same (slot.Original s.entry) item (sym s.original ∙ ap (item_in d) (sym same) ∙ at)

    own_shape : IsSomeAnd (shapes_now entry_now.name) (IsOriginal now.pages number entry_now)
    own_shape = subst (λ o. IsSomeAnd o (IsOriginal now.pages number entry_now)) (sym (put_same s.entry.name refl)) own.is

    no_clone : (n of clone : ℕ) (entry : FilesetEntry) → ¬ item_in d n ≡ Some (slot.Clone of clone entry)
    no_clone n of clone entry at = true≢false (sym (ap of_clone at) ∙ slots.no_clone n)

    each_other : (n : ℕ) (item : SlotItem) → ¬ n ≡ number → item_in d n ≡ Some item → IfSome (entry_of item) (λ entry. IsShapeOf now.pages now.table n item (shapes_now entry.name))
    each_other n slot.Free differ at = tt
    each_other n (slot.Removed first_tag quota) differ at = tt
    each_other n (slot.Clone of clone entry) differ at = absurd (no_clone n of clone entry at)
    each_other n (slot.Original entry) differ at = shape_stays n entry differ at

    each_now : (n : ℕ) (item : SlotItem) → item_in now n ≡ Some item → IfSome (entry_of item) (λ entry. IsShapeOf now.pages now.table n item (shapes_now entry.name))
    each_now n item at = ⊎_elim
        (λ same.
        subst (λ (x : SlotItem). IfSome (entry_of x) (λ entry. IsShapeOf now.pages now.table n x (shapes_now entry.name))) (its_entry n item same at)
        (subst (λ (k : ℕ). IfSome (entry_of (slot.Original entry_now)) (λ entry. IsShapeOf now.pages now.table k (slot.Original entry_now) (shapes_now entry.name))) (sym same) own_shape))
        (λ differ. each_other n item differ (sym (others n differ) ∙ at))
        (either n)

    only_now : (name : Name) → IsSome (shapes_now name) → HasFileset now.table name
    only_now name some = ⊎_elim
        (λ same. record { number = number; item = slot.Original entry_now; there = mine; named = same })
        (λ differ.
        let has = slots.are.only name (ap is_some (sym (put_other name differ)) ∙ some) in
        record {
          number = has.number;
          item = has.item;
          there = others has.number (λ same. differ (subst (λ (x : SlotItem). IsSomeAnd (entry_of x) (λ entry. entry.name ≡ name)) (sym (its_entry_was has.number has.item same has.there)) has.named)) ∙ has.there;
          named = has.named;
        })
        (name_decided s.entry.name name)

    -- ---- their filesets

    named_still : (name : Name) → ¬ s.entry.name ≡ name → (n : ℕ) (item : SlotItem) → item_in d n ≡ Some item → IsSomeAnd (entry_of item) (λ entry. entry.name ≡ name) → FillsThere now.contents (slots.shapes name) (get all name)
    named_still name differ n slot.Free at named = absurd named
    named_still name differ n (slot.Removed first_tag quota) at named = absurd named
    named_still name differ n (slot.Clone of clone entry) at named = absurd (no_clone n of clone entry at)
    named_still name differ n (slot.Original entry) at named =
        subst (λ (x : Name). FillsThere now.contents (slots.shapes x) (get all x)) named (filled_still n entry (λ same. differ (one_name s.entry entry (its_entry_was n (slot.Original entry) same at) ∙ named)) at)

    filled_other : (name : Name) → ¬ s.entry.name ≡ name → FillsThere now.contents (slots.shapes name) (get all name)
    filled_other name differ = by_shape (slots.shapes name) refl
      where
        by_shape : (o : Option FilesetShape) → slots.shapes name ≡ o → FillsThere now.contents (slots.shapes name) (get all name)
        by_shape None none = subst (λ o. FillsThere now.contents o (get all name)) (sym none) (subst (λ o. FillsThere d.contents o (get all name)) none (slots.filled name))
        by_shape (Some sh) some = let has = slots.are.only name (ap is_some some) in named_still name differ has.number has.item has.there has.named

    filled_now : (name : Name) → FillsThere now.contents (shapes_now name) (get (insert all s.entry.name limited) name)
    filled_now name = ⊎_elim
        (λ same.
        subst (λ (x : Name). FillsThere now.contents (shapes_now x) (get (insert all s.entry.name limited) x)) same
        (subst (λ o. FillsThere now.contents o (get (insert all s.entry.name limited) s.entry.name)) (sym (put_same s.entry.name refl))
        (subst (FillsThere now.contents (Some shape)) (sym (get-insert_same name_cmp-total name_cmp-IsAntisymmetric all s.entry.name limited)) own.filled)))
        (λ differ.
        subst (λ o. FillsThere now.contents o (get (insert all s.entry.name limited) name)) (sym (put_other name differ))
        (subst (FillsThere now.contents (slots.shapes name)) (sym (get-insert_other name_cmp-total name_cmp-IsAntisymmetric all s.entry.name limited name (λ same. differ (sym same)))) (filled_other name differ)))
        (name_decided s.entry.name name)

    -- ---- their sets

    sets_now : (n : ℕ) (entry : FilesetEntry) (sh : FilesetShape) → item_in now n ≡ Some (slot.Original entry) → shapes_now entry.name ≡ Some sh → StandsAsSet n (now.tags n) now.space now.cells now.pages sh.shown
    sets_now n entry sh at is = ⊎_elim
        (λ same. subst (λ (k : ℕ). StandsAsSet k (now.tags k) now.space now.cells now.pages sh.shown) (sym same)
        (subst (λ (x : FilesetShape). StandsAsSet number (now.tags number) now.space now.cells now.pages x.shown)
        (some_same shape sh (sym (put_same entry.name (one_name entry_now entry (its_entry n (slot.Original entry) same at))) ∙ is)) own.set))
        (λ differ. set_stays n entry differ (sym (others n differ) ∙ at) sh is)
        (either n)

    no_clone_now : (n : ℕ) → of_clone (item_in now n) ≡ false
    no_clone_now n = ⊎_elim
        (λ same. ap (λ (k : ℕ). of_clone (item_in now k)) same ∙ ap of_clone mine)
        (λ differ. ap of_clone (others n differ) ∙ slots.no_clone n)
        (either n)

    pub slots_limited : StandSlots now (insert all s.entry.name limited)
    slots_limited = record {
      shapes = shapes_now;
      are = record { each = each_now; only = only_now };
      filled = filled_now;
      sets = sets_now;
      no_clone = no_clone_now;
    }
