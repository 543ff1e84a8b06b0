-- The filesets of a domain once one slot has another one, or a new one.
use Rattle.std.proofs.Common.{◌≡◌, ◌∙◌, ◌⊎◌, inl, inr, ⊎_elim, ℕ, zero, suc, ◌<◌, nat_eq, true, false, ◌&&◌, List, [], ◌∷◌, drop, Option, Some, None, IfSome, IsSome, IsSomeAnd, is_some, slice_get, refl, sym, ap, subst, arith, eqb-true, true≢false}
use Rattle.std.proofs.lemmas.Bool.{cases_Bool, cases_lt, eq-eqb}
use Rattle.std.specs.FinMap.{get, insert}
use Rattle.std.specs.List.{AllByRecursion, IsDistinct}
use Rattle.domain_standing.specs.domain_base.declared.place.Home.{Home}
use Rattle.domain_standing.proofs.OfFilesetValues.MapLemmas.{get-insert_other, get-insert_same}
use Rattle.domain_standing.specs.fileset_model.Filesets.{FilesetMap}
use Rattle.domain_standing.specs.fileset_values.Orders.{Name, name_cmp-total, name_cmp-IsAntisymmetric}
use Rattle.domain_standing.specs.fileset_model.Paths.{same_name}
use Rattle.domain_standing.specs.fileset_model.declared.fileset.FilesetSlot.{FilesetSlot}
use Rattle.domain_standing.specs.fileset_table.Page.{IsTablePage}
use Rattle.domain_standing.specs.fileset_table.Table.{HaveOwnNames, entry_of, share_name}
use Rattle.domain_standing.specs.fileset_table.declared.slot.FilesetEntry.{FilesetEntry}
use Rattle.domain_standing.specs.fileset_table.declared.slot.SlotItem.{SlotItem}
use Rattle.domain_standing.specs.fileset_table.declared.slot.SlotItem.TheVariants as slot
use Rattle.domain_standing.specs.stored_set.Sets.{StandsAsSet}
use Rattle.domain_standing.specs.release_list.Standing.{Files}
use Rattle.domain_standing.proofs.OfReleaseList.Spread.{none_not, some_same}
use Rattle.domain_standing.specs.domain_layout.CellRules.{of_clone}
use Rattle.domain_standing.specs.domain_layout.Filled.{FillsThere}
use Rattle.domain_standing.specs.domain_layout.Shape.{FilesetShape, HasFileset, IsOriginal, IsShapeOf, Shapes}
use Rattle.domain_standing.proofs.OfDomainLayout.Reached.{same_number}
use Rattle.domain_standing.specs.Chains.{IndexesAt}
use Rattle.domain_standing.specs.Domain.{DomainNow, item_in}
use Rattle.domain_standing.specs.Slots.{StandSlots}
use Rattle.domain_standing.specs.Tables.{StandTables}
use Rattle.standing_laws.specs.Leads.{StandsBelow}
use Rattle.standing_laws.specs.Slots.{StandsSlot}
use Rattle.standing_laws.specs.SlotsStay.{PutsFileset}

-- ---- names

pub name_decided : (one other : Name) → (one ≡ other) ⊎ ¬ one ≡ other
name_decided [] [] = inl refl
name_decided [] (y ∷ ys) = inr (λ e. absurd (cc))
name_decided (x ∷ xs) [] = inr (λ e. absurd (cc))
name_decided (x ∷ xs) (y ∷ ys) = ⊎_elim
    (λ first. ⊎_elim (λ rest. inl (λ i. first i ∷ rest i)) (λ other. inr (λ e. other (ap (λ (zs : Name). drop 1 zs) e))) (name_decided xs ys))
    (λ other. inr (λ e. other (ap first_byte e)))
    (same_number x y)
  where
    first_byte : Name → ℕ
    first_byte [] = 0
    first_byte (z ∷ zs) = z

same_itself : (name : Name) → same_name name name ≡ true
same_itself [] = refl
same_itself (byte ∷ name) = λ i. eq-eqb byte byte refl i && same_itself name i

item_name : SlotItem → Name
item_name (slot.Original entry) = entry.name
item_name _ = []

pub one_name : (a b : FilesetEntry) → slot.Original a ≡ slot.Original b → a.name ≡ b.name
unfolding item_name
one_name a b same = ap item_name same

-- two slots with filesets of one name are one
pub one_slot : (slots : List SlotItem) → HaveOwnNames slots → (i j : ℕ) (a b : FilesetEntry) → i < j → slice_get slots i ≡ Some (slot.Original a) → slice_get slots j ≡ Some (slot.Original b) → ¬ a.name ≡ b.name
unfolding IsDistinct
one_slot [] own i j a b less at at' same = none_not (slot.Original a) at
one_slot (x ∷ slots) own zero zero a b less at at' same = omega (arith, less)
one_slot (x ∷ slots) own (suc i) zero a b less at at' same = omega (arith, less)
one_slot (x ∷ slots) own (suc i) (suc j) a b less at at' same = one_slot slots own.1 i j a b (omega (arith, less)) at at' same
one_slot (x ∷ slots) own zero (suc j) a b less at at' same = true≢false (sym shares ∙ apart slots own.0 j at')
  where
    apart : (ys : List SlotItem) → AllByRecursion (λ y. share_name x y ≡ false) ys → (k : ℕ) → slice_get ys k ≡ Some (slot.Original b) → share_name x (slot.Original b) ≡ false
    apart [] all k at = absurd (none_not (slot.Original b) at)
    apart (y ∷ ys) all zero at = subst (λ z. share_name x z ≡ false) (some_same y (slot.Original b) at) all.0
    apart (y ∷ ys) all (suc k) at = apart ys all.1 k at

    shares : share_name x (slot.Original b) ≡ true
    shares = ap (λ z. share_name z (slot.Original b)) (some_same x (slot.Original a) at) ∙ ap (λ n. same_name b.name n) same ∙ same_itself b.name

-- ---- an original of a domain that stands for filesets

module _ (d : DomainNow) (all : FilesetMap) (slots : StandSlots d all) where
  pub record StoodIn (n : ℕ) (entry : FilesetEntry) : Type 0 where
    pub shape_was : FilesetShape
    pub fileset_was : FilesetSlot
    pub shaped : slots.shapes entry.name ≡ Some shape_was
    pub filled : get all entry.name ≡ Some fileset_was
    pub stood : StandsSlot d n entry shape_was fileset_was

  pub stood_in : (n : ℕ) (entry : FilesetEntry) → slice_get d.table.slots n ≡ Some (slot.Original entry) → StoodIn n entry
  stood_in n entry at = by_shape (slots.shapes entry.name) refl (slots.are.each n (slot.Original entry) at)
    where
      by_fileset : (sh : FilesetShape) → slots.shapes entry.name ≡ Some sh → IsOriginal d.pages n entry sh → (o : Option FilesetSlot) → get all entry.name ≡ o → FillsThere d.contents (Some sh) o → StoodIn n entry
      by_fileset sh is original None there fills = absurd fills
      by_fileset sh is original (Some f) there fills = record {
        shape_was = sh;
        fileset_was = f;
        shaped = is;
        filled = there;
        stood = record { is = original; filled = fills; set = slots.sets n entry sh at is };
      }

      by_shape : (o : Option FilesetShape) → slots.shapes entry.name ≡ o → IsSomeAnd o (IsOriginal d.pages n entry) → StoodIn n entry
      by_shape None is original = absurd original
      by_shape (Some sh) is original = by_fileset sh is original (get all entry.name) refl (subst (λ o. FillsThere d.contents o (get all entry.name)) is (slots.filled entry.name))

  pub each_stands : (n : ℕ) (entry : FilesetEntry) → slice_get d.table.slots n ≡ Some (slot.Original entry) → IsSomeAnd (slots.shapes entry.name) (λ shape. IsSomeAnd (get all entry.name) (StandsSlot d n entry shape))
  each_stands n entry at =
      let it = stood_in n entry at in
      subst (λ o. IsSomeAnd o (λ shape. IsSomeAnd (get all entry.name) (StandsSlot d n entry shape))) (sym it.shaped) (subst (λ o. IsSomeAnd o (StandsSlot d n entry it.shape_was)) (sym it.filled) it.stood)

-- of two slots of a table none have one name
pub own_names : (d : DomainNow) → StandTables d → HaveOwnNames d.table.slots
own_names d tables = by_home d.frame.anchor.table tables.laid.table
  where
    by_page : (o : Option (List ℕ)) → IsSomeAnd o (λ page. IsTablePage page d.table) → HaveOwnNames d.table.slots
    by_page None is = absurd is
    by_page (Some page) is = is.good.together.names

    by_home : (o : Option Home) → IsSomeAnd o (λ home. IsSomeAnd (d.pages home) (λ page. IsTablePage page d.table)) → HaveOwnNames d.table.slots
    by_home None is = absurd is
    by_home (Some home) is = by_page (d.pages home) is

module _ (number : ℕ) (entry0 : FilesetEntry) (d now : DomainNow) (tables : StandTables now) (puts : PutsFileset number entry0 d now) where
  -- another slot has another name
  pub other_name : (n : ℕ) (entry : FilesetEntry) → ¬ n ≡ number → slice_get now.table.slots n ≡ Some (slot.Original entry) → ¬ entry0.name ≡ entry.name
  other_name n entry differ at same = ⊎_elim
      (λ less. one_slot now.table.slots (own_names now tables) n number entry entry0 less at puts.has (sym same))
      (λ more. ⊎_elim
      (λ less. one_slot now.table.slots (own_names now tables) number n entry0 entry less puts.has at same)
      (λ also. differ (omega (arith, more, also)))
      (cases_lt number n))
      (cases_lt n number)

  module _ (all : FilesetMap) (slots : StandSlots d all) (others : (other : ℕ) (its : FilesetEntry) (sh : FilesetShape) (f : FilesetSlot) → ¬ other ≡ number → item_in d other ≡ Some (slot.Original its) → slots.shapes its.name ≡ Some sh → StandsSlot d other its sh f → StandsSlot now other its sh f)
      (shape : FilesetShape) (fileset : FilesetSlot) (own : StandsSlot now number entry0 shape fileset) where
    -- ---- the shapes with that one

    abbrev shape_if : (name : Name) → Option FilesetShape → (entry0.name ≡ name) ⊎ ¬ entry0.name ≡ name → Option FilesetShape
    shape_if name was (inl same) = Some shape
    shape_if name was (inr differ) = was

    abbrev shapes_now : Shapes
    shapes_now name = shape_if name (slots.shapes name) (name_decided entry0.name name)

    put_same : (name : Name) → entry0.name ≡ name → shapes_now name ≡ Some shape
    put_same name same = by_name (name_decided entry0.name name)
      where
        by_name : (e : (entry0.name ≡ name) ⊎ ¬ entry0.name ≡ name) → shape_if name (slots.shapes name) e ≡ Some shape
        by_name (inl is) = refl
        by_name (inr differ) = absurd (differ same)

    put_other : (name : Name) → ¬ entry0.name ≡ name → shapes_now name ≡ slots.shapes name
    put_other name differ = by_name (name_decided entry0.name name)
      where
        by_name : (e : (entry0.name ≡ name) ⊎ ¬ entry0.name ≡ name) → shape_if name (slots.shapes name) e ≡ slots.shapes name
        by_name (inl is) = absurd (differ is)
        by_name (inr other) = refl

    -- ---- another slot

    module _ (n : ℕ) (entry : FilesetEntry) (differ : ¬ n ≡ number) (at : slice_get d.table.slots n ≡ Some (slot.Original entry)) where
      there : StoodIn d all slots n entry
      there = stood_in d all slots n entry at

      stays : StandsSlot now n entry there.shape_was there.fileset_was
      stays = others n entry there.shape_was there.fileset_was differ at there.shaped there.stood

      shaped_still : shapes_now entry.name ≡ Some there.shape_was
      shaped_still = put_other entry.name (other_name n entry differ (puts.others n differ ∙ at)) ∙ there.shaped

      shape_stays : IsSomeAnd (shapes_now entry.name) (IsOriginal now.pages n entry)
      shape_stays = subst (λ o. IsSomeAnd o (IsOriginal now.pages n entry)) (sym shaped_still) stays.is

      filled_still : FillsThere now.contents (slots.shapes entry.name) (get all entry.name)
      filled_still = subst (λ o. FillsThere now.contents o (get all entry.name)) (sym there.shaped) (subst (FillsThere now.contents (Some there.shape_was)) (sym there.filled) stays.filled)

      set_stays : (sh : FilesetShape) → shapes_now entry.name ≡ Some sh → StandsAsSet n (now.tags n) now.space now.cells now.pages sh.shown
      set_stays sh is = subst (λ (x : FilesetShape). StandsAsSet n (now.tags n) now.space now.cells now.pages x.shown) (some_same there.shape_was sh (sym shaped_still ∙ is)) stays.set

    -- ---- all slots

    number_or_not : (n : ℕ) → (n ≡ number) ⊎ (¬ n ≡ number)
    number_or_not n = ⊎_elim
        (λ same. inl (eqb-true n number same))
        (λ apart. inr (λ same. true≢false (sym (eq-eqb n number same) ∙ apart)))
        (cases_Bool (nat_eq n number))

    its_entry : (n : ℕ) (item : SlotItem) → n ≡ number → item_in now n ≡ Some item → slot.Original entry0 ≡ item
    its_entry n item same at = some_same (slot.Original entry0) item (sym puts.has ∙ ap (item_in now) (sym same) ∙ at)

    own_shape : IsSomeAnd (shapes_now entry0.name) (IsOriginal now.pages number entry0)
    own_shape = subst (λ o. IsSomeAnd o (IsOriginal now.pages number entry0)) (sym (put_same entry0.name refl)) own.is

    no_clone : (n of clone : ℕ) (entry : FilesetEntry) → ¬ item_in d n ≡ Some (slot.Clone of clone entry)
    no_clone n of clone entry at = true≢false (sym (ap of_clone at) ∙ slots.no_clone n)

    each_other : (n : ℕ) (item : SlotItem) → ¬ n ≡ number → item_in d n ≡ Some item → IfSome (entry_of item) (λ entry. IsShapeOf now.pages now.table n item (shapes_now entry.name))
    each_other n slot.Free differ at = tt
    each_other n (slot.Removed first_tag quota) differ at = tt
    each_other n (slot.Clone of clone entry) differ at = absurd (no_clone n of clone entry at)
    each_other n (slot.Original entry) differ at = shape_stays n entry differ at

    each_now : (n : ℕ) (item : SlotItem) → item_in now n ≡ Some item → IfSome (entry_of item) (λ entry. IsShapeOf now.pages now.table n item (shapes_now entry.name))
    each_now n item at = ⊎_elim
        (λ same.
        subst (λ (x : SlotItem). IfSome (entry_of x) (λ entry. IsShapeOf now.pages now.table n x (shapes_now entry.name))) (its_entry n item same at)
        (subst (λ (k : ℕ). IfSome (entry_of (slot.Original entry0)) (λ entry. IsShapeOf now.pages now.table k (slot.Original entry0) (shapes_now entry.name))) (sym same) own_shape))
        (λ differ. each_other n item differ (sym (puts.others n differ) ∙ at))
        (number_or_not n)

    -- what stood in the slot has no other name
    had_not : (name : Name) → ¬ entry0.name ≡ name → (item : SlotItem) → item_in d number ≡ Some item → ¬ IsSomeAnd (entry_of item) (λ entry. entry.name ≡ name)
    had_not name differ item at is_named = by_entry (entry_of item) (puts.had item at) is_named
      where
        by_entry : (o : Option FilesetEntry) → IfSome o (λ entry. entry.name ≡ entry0.name) → IsSomeAnd o (λ entry. entry.name ≡ name) → ⊥
        by_entry None had is = is
        by_entry (Some entry) had is = differ (sym had ∙ is)

    only_now : (name : Name) → IsSome (shapes_now name) → HasFileset now.table name
    only_now name some = ⊎_elim
        (λ same. record { number = number; item = slot.Original entry0; there = puts.has; named = same })
        (λ differ. still name differ (slots.are.only name (ap is_some (sym (put_other name differ)) ∙ some)))
        (name_decided entry0.name name)
      where
        still : (name : Name) → ¬ entry0.name ≡ name → HasFileset d.table name → HasFileset now.table name
        still name differ h = ⊎_elim
            (λ same. absurd (had_not name differ h.item (ap (item_in d) (sym same) ∙ h.there) h.named))
            (λ apart. record { number = h.number; item = h.item; there = puts.others h.number apart ∙ h.there; named = h.named })
            (number_or_not h.number)

    -- ---- their filesets

    named_still : (name : Name) → ¬ entry0.name ≡ name → (n : ℕ) (item : SlotItem) → item_in d n ≡ Some item → IsSomeAnd (entry_of item) (λ entry. entry.name ≡ name) → FillsThere now.contents (slots.shapes name) (get all name)
    named_still name differ n slot.Free at is_named = absurd is_named
    named_still name differ n (slot.Removed first_tag quota) at is_named = absurd is_named
    named_still name differ n (slot.Clone of clone entry) at is_named = absurd (no_clone n of clone entry at)
    named_still name differ n (slot.Original entry) at is_named =
        subst (λ (x : Name). FillsThere now.contents (slots.shapes x) (get all x)) is_named
        (filled_still n entry (λ same. had_not name differ (slot.Original entry) (ap (item_in d) (sym same) ∙ at) is_named) at)

    filled_other : (name : Name) → ¬ entry0.name ≡ name → FillsThere now.contents (slots.shapes name) (get all name)
    filled_other name differ = by_shape (slots.shapes name) refl
      where
        by_shape : (o : Option FilesetShape) → slots.shapes name ≡ o → FillsThere now.contents (slots.shapes name) (get all name)
        by_shape None none = subst (λ o. FillsThere now.contents o (get all name)) (sym none) (subst (λ o. FillsThere d.contents o (get all name)) none (slots.filled name))
        by_shape (Some sh) some = let has = slots.are.only name (ap is_some some) in named_still name differ has.number has.item has.there has.named

    filled_now : (name : Name) → FillsThere now.contents (shapes_now name) (get (insert all entry0.name fileset) name)
    filled_now name = ⊎_elim
        (λ same.
        subst (λ (x : Name). FillsThere now.contents (shapes_now x) (get (insert all entry0.name fileset) x)) same
        (subst (λ o. FillsThere now.contents o (get (insert all entry0.name fileset) entry0.name)) (sym (put_same entry0.name refl))
        (subst (FillsThere now.contents (Some shape)) (sym (get-insert_same name_cmp-total name_cmp-IsAntisymmetric all entry0.name fileset)) own.filled)))
        (λ differ.
        subst (λ o. FillsThere now.contents o (get (insert all entry0.name fileset) name)) (sym (put_other name differ))
        (subst (FillsThere now.contents (slots.shapes name)) (sym (get-insert_other name_cmp-total name_cmp-IsAntisymmetric all entry0.name fileset name (λ same. differ (sym same)))) (filled_other name differ)))
        (name_decided entry0.name name)

    -- ---- their sets

    sets_now : (n : ℕ) (entry : FilesetEntry) (sh : FilesetShape) → item_in now n ≡ Some (slot.Original entry) → shapes_now entry.name ≡ Some sh → StandsAsSet n (now.tags n) now.space now.cells now.pages sh.shown
    sets_now n entry sh at is = ⊎_elim
        (λ same. subst (λ (k : ℕ). StandsAsSet k (now.tags k) now.space now.cells now.pages sh.shown) (sym same)
        (subst (λ (x : FilesetShape). StandsAsSet number (now.tags number) now.space now.cells now.pages x.shown)
        (some_same shape sh (sym (put_same entry.name (one_name entry0 entry (its_entry n (slot.Original entry) same at))) ∙ is)) own.set))
        (λ differ. set_stays n entry differ (sym (puts.others n differ) ∙ at) sh is)
        (number_or_not n)

    -- ---- all of it

    pub slots_put : StandSlots now (insert all entry0.name fileset)
    slots_put = record {
      shapes = shapes_now;
      are = record { each = each_now; only = only_now };
      filled = filled_now;
      sets = sets_now;
      no_clone = λ n. ⊎_elim
          (λ same. ap (λ (k : ℕ). of_clone (item_in now k)) same ∙ ap of_clone puts.has)
          (λ differ. ap of_clone (puts.others n differ) ∙ slots.no_clone n)
          (number_or_not n);
    }

pub fileset_put : (number : ℕ) (entry : FilesetEntry) (d now : DomainNow) (files_now : Files) (indexes_now : IndexesAt) (all : FilesetMap) → StandsBelow now files_now indexes_now → PutsFileset number entry d now → StandSlots d all
    → ((other : ℕ) (its : FilesetEntry) (shape : FilesetShape) (fileset : FilesetSlot) → ¬ other ≡ number → item_in d other ≡ Some (slot.Original its) → StandsSlot d other its shape fileset → StandsSlot now other its shape fileset)
    → (shape : FilesetShape) (fileset : FilesetSlot) → StandsSlot now number entry shape fileset → StandSlots now (insert all entry.name fileset)
fileset_put number entry d now files_now indexes_now all after puts slots others shape fileset own =
    slots_put number entry d now after.tables puts all slots (λ other its sh f differ there shaped stood. others other its sh f differ there stood) shape fileset own
