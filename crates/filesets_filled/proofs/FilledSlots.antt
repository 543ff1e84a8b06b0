-- Filesets that are filled slot by slot.
use Rattle.std.proofs.Common.{◌≡◌, ◌∙◌, ◌⊎◌, inl, inr, ⊎_elim, ℕ, zero, suc, ◌+◌, ◌<◌, true, false, ◌&&◌, List, [], ◌∷◌, Option, Some, None, IfSome, IsSomeAnd, is_some, slice_get, refl, sym, ap, subst, arith, true≢false}
use Rattle.std.proofs.lemmas.Bool.{cases_lt, eq-eqb}
use Rattle.std.specs.FinMap as map
use Rattle.std.specs.List.{AllByRecursion, IsDistinct}
use Rattle.std.specs.Option.{option_map_or}
use Rattle.fileset_shapes.specs.page_store.Pages.{Pages}
use Rattle.fileset_shapes.specs.domain_layout.Filled.{Fills, FillsThere}
use Rattle.fileset_shapes.specs.domain_layout.Read.{ReadsFrom, contents_of}
use Rattle.fileset_shapes.specs.domain_layout.Shape.{FilesetShape, IsShapeOf, Shapes}
use Rattle.fileset_shapes.proofs.OfLegalHistories.ValidLemmas.{some_inj, to_some_and}
use Rattle.fileset_shapes.proofs.OfFilesetValues.MapLemmas.{get-insert_other, get-insert_same}
use Rattle.fileset_shapes.specs.fileset_model.Filesets.{FilesetMap}
use Rattle.fileset_shapes.specs.fileset_values.Orders.{Name, name_cmp, name_cmp-total, name_cmp-IsAntisymmetric}
use Rattle.fileset_shapes.specs.fileset_model.Paths.{same_name}
use Rattle.fileset_shapes.specs.fileset_table.Table.{HaveOwnNames, Table, entry_of, has_name, share_name}
use Rattle.fileset_shapes.specs.fileset_table.declared.slot.FilesetEntry.{FilesetEntry}
use Rattle.fileset_shapes.specs.fileset_table.declared.slot.SlotItem.{SlotItem}
use Rattle.filesets_filled.proofs.Decided.{list_decided}
use Rattle.std.proofs.lemmas.Option.{slice_get_within}
use Rattle.fileset_shapes.specs.domain_base.declared.place.Home.{Home}
use Rattle.fileset_shapes.specs.domain_layout.Reached.{Frame}
use Rattle.fileset_shapes.specs.fileset_table.Page.{IsTablePage}
use Rattle.fileset_shapes.specs.filesets_reading.declared.tables.DomainTables.{DomainTables}
use Rattle.fileset_shapes.specs.Shapes.{IsDomain}
use Rattle.filesets_filled.proofs.Says.{all_slots, table_page}
use Rattle.filesets_filled.specs.Slots.{AreFilledUpTo, FillsEntry, FillsItem, FillsSlot, with_found}
use Rattle.filesets_filled.specs.declared.slots.NamedFileset.{NamedFileset}

none_is_some : {P X : Type 0} (x : X) → None ≡ Some x → P
none_is_some x is = absurd (cc)

-- ---- names

same_itself : (name : Name) → same_name name name ≡ true
same_itself [] = refl
same_itself (byte ∷ name) = λ i. eq-eqb byte byte refl i && same_itself name i

-- two slots with filesets of one name are one
one_slot : (slots : List SlotItem) → HaveOwnNames slots → (i j : ℕ) (a b : SlotItem) (e f : FilesetEntry) → i < j → slice_get slots i ≡ Some a → slice_get slots j ≡ Some b → entry_of a ≡ Some e → entry_of b ≡ Some f → ¬ e.name ≡ f.name
unfolding IsDistinct
one_slot [] own i j a b e f less at at' is is' same = none_is_some a at
one_slot (x ∷ slots) own zero zero a b e f less at at' is is' same = omega (arith, less)
one_slot (x ∷ slots) own (suc i) zero a b e f less at at' is is' same = omega (arith, less)
one_slot (x ∷ slots) own (suc i) (suc j) a b e f less at at' is is' same = one_slot slots own.1 i j a b e f (omega (arith, less)) at at' is is' same
one_slot (x ∷ slots) own zero (suc j) a b e f less at at' is is' same =
    let apart = one_of slots own.0 j at' in
    true≢false (sym shares ∙ apart)
  where
    one_of : (ys : List SlotItem) → AllByRecursion (λ y. share_name x y ≡ false) ys → (k : ℕ) → slice_get ys k ≡ Some b → share_name x b ≡ false
    one_of [] all k at = none_is_some b at
    one_of (y ∷ ys) all zero at = subst (λ z. share_name x z ≡ false) (some_inj at) all.0
    one_of (y ∷ ys) all (suc k) at = one_of ys all.1 k at

    shares : share_name x b ≡ true
    shares =
        ap (λ z. share_name z b) (some_inj at)
        ∙ ap (λ (o : Option FilesetEntry). option_map_or (λ (d : FilesetEntry). has_name d.name b) o false) is
        ∙ ap (λ (o : Option FilesetEntry). option_map_or (λ (d : FilesetEntry). same_name d.name e.name) o false) is'
        ∙ ap (λ n. same_name n e.name) (sym same) ∙ same_itself e.name

-- ---- slot after slot

module _ (pages : Pages) (table : Table) (own : HaveOwnNames table.slots) where
  pub filled_first : AreFilledUpTo pages table 0 map.empty
  filled_first = record {
    shapes = λ name. None;
    each = λ number item low. absurd (omega (arith, low));
    only = λ name some. absurd (true≢false (sym some));
    filled = λ name. map.get-empty name_cmp name;
  }

  -- the shape of a name, or what another has
  abbrev shape_if : (name other : Name) → FilesetShape → Option FilesetShape → (name ≡ other) ⊎ ¬ name ≡ other → Option FilesetShape
  shape_if name other shape found (inl same) = Some shape
  shape_if name other shape found (inr differ) = found

  -- these shapes with one more
  abbrev put_shape : Name → FilesetShape → Shapes → Shapes
  put_shape name shape shapes other = shape_if name other shape (shapes other) (list_decided name other)

  put_same : (name other : Name) (shape : FilesetShape) (shapes : Shapes) → name ≡ other → put_shape name shape shapes other ≡ Some shape
  put_same name other shape shapes same = by_name (list_decided name other)
    where
      by_name : (d : (name ≡ other) ⊎ ¬ name ≡ other) → shape_if name other shape (shapes other) d ≡ Some shape
      by_name (inl is) = refl
      by_name (inr differ) = absurd (differ same)

  put_other : (name other : Name) (shape : FilesetShape) (shapes : Shapes) → ¬ name ≡ other → put_shape name shape shapes other ≡ shapes other
  put_other name other shape shapes differ = by_name (list_decided name other)
    where
      by_name : (d : (name ≡ other) ⊎ ¬ name ≡ other) → shape_if name other shape (shapes other) d ≡ shapes other
      by_name (inl is) = absurd (differ is)
      by_name (inr other) = refl

  module _ (count : ℕ) (all : FilesetMap) (are : AreFilledUpTo pages table count all) (item : SlotItem) (there : slice_get table.slots count ≡ Some item) where
    -- a slot below the next one
    before : {P : Type 0} (number : ℕ) (i : SlotItem) → number < count + 1 → slice_get table.slots number ≡ Some i → (number < count → P) → (number ≡ count → item ≡ i → P) → P
    before number i low at early last = ⊎_elim early
        (λ high. let same : number ≡ count = omega (arith, low, high) in last same (some_inj (sym there ∙ ap (slice_get table.slots) (sym same) ∙ at)))
        (cases_lt number count)

    more_none : entry_of item ≡ None → AreFilledUpTo pages table (count + 1) all
    more_none none = record {
      shapes = are.shapes;
      each = λ number i low at. before number i low at (λ early. are.each number i early at)
          (λ same last. subst (λ (o : Option FilesetEntry). IfSome o (λ entry. IsShapeOf pages table number i (are.shapes entry.name))) (sym none ∙ ap entry_of last) tt);
      only = λ name some. let o = are.only name some in (o.0, o.1, omega (arith, o.2), o.3, o.4);
      filled = are.filled;
    }

    module _ (entry : FilesetEntry) (is_entry : entry_of item ≡ Some entry) (found : NamedFileset) (fills : FillsItem pages table count item entry found) where
      abbrev more : Shapes
      more = put_shape entry.name fills.shape are.shapes

      each_more : (number : ℕ) (i : SlotItem) → number < count + 1 → slice_get table.slots number ≡ Some i → IfSome (entry_of i) (λ e. IsShapeOf pages table number i (more e.name))
      each_more number i low at = before number i low at (λ early. by_entry early (entry_of i) refl (are.each number i early at)) last
        where
          by_entry : number < count → (o : Option FilesetEntry) → entry_of i ≡ o → IfSome o (λ e. IsShapeOf pages table number i (are.shapes e.name)) → IfSome o (λ e. IsShapeOf pages table number i (more e.name))
          by_entry early None none is = tt
          by_entry early (Some e) there' is =
              subst (IsShapeOf pages table number i)
              (sym (put_other entry.name e.name fills.shape are.shapes (λ same. one_slot table.slots own number count i item e entry early at there there' is_entry (sym same)))) is

          last : number ≡ count → item ≡ i → IfSome (entry_of i) (λ e. IsShapeOf pages table number i (more e.name))
          last same is =
              subst (λ (x : SlotItem). IfSome (entry_of x) (λ e. IsShapeOf pages table number x (more e.name))) is
              (subst (λ n. IfSome (entry_of item) (λ e. IsShapeOf pages table n item (more e.name))) (sym same)
              (subst (λ (o : Option FilesetEntry). IfSome o (λ e. IsShapeOf pages table count item (more e.name))) (sym is_entry)
              (subst (IsShapeOf pages table count item) (sym (put_same entry.name entry.name fills.shape are.shapes refl)) fills.is)))

      more_some : AreFilledUpTo pages table (count + 1) (map.insert all found.name found.slot)
      more_some = record {
        shapes = more;
        each = each_more;
        only = λ name some. ⊎_elim
            (λ same. (count, item, omega arith, there, to_some_and (λ (e : FilesetEntry). e.name ≡ name) (entry_of item) entry is_entry same))
            (λ differ.
            let o = are.only name (ap is_some (sym (put_other entry.name name fills.shape are.shapes differ)) ∙ some) in
            (o.0, o.1, omega (arith, o.2), o.3, o.4))
            (list_decided entry.name name);
        filled = λ name. ⊎_elim
            (λ same.
            subst (λ o. FillsThere (contents_of pages) o (map.get (map.insert all found.name found.slot) name)) (sym (put_same entry.name name fills.shape are.shapes same))
            (to_some_and (Fills (contents_of pages) fills.shape) (map.get (map.insert all found.name found.slot) name) found.slot
            (ap (map.get (map.insert all found.name found.slot)) (sym (fills.name ∙ same)) ∙ get-insert_same name_cmp-total name_cmp-IsAntisymmetric all found.name found.slot) fills.fills))
            (λ differ.
            subst (λ o. FillsThere (contents_of pages) o (map.get (map.insert all found.name found.slot) name)) (sym (put_other entry.name name fills.shape are.shapes differ))
            (subst (FillsThere (contents_of pages) (are.shapes name)) (sym (get-insert_other name_cmp-total name_cmp-IsAntisymmetric all found.name found.slot name (λ same. differ (sym fills.name ∙ sym same)))) (are.filled name)))
            (list_decided entry.name name);
      }

  -- with what is in the next slot
  pub filled_more : (count : ℕ) (all : FilesetMap) → AreFilledUpTo pages table count all → (item : SlotItem) → slice_get table.slots count ≡ Some item → (found : Option NamedFileset) → FillsSlot pages table count found
      → AreFilledUpTo pages table (count + 1) (with_found found all)
  filled_more count all are item there found fills = by_entry (entry_of item) refl found (fills item there)
    where
      by_entry : (o : Option FilesetEntry) → entry_of item ≡ o → (f : Option NamedFileset) → FillsEntry pages table count item o f → AreFilledUpTo pages table (count + 1) (with_found f all)
      by_entry None none None is = more_none count all are item there none
      by_entry None none (Some f) is = none_is_some f (sym is)
      by_entry (Some entry) some None is = absurd is
      by_entry (Some entry) some (Some f) is = more_some count all are item there entry some f is

-- ---- all slots

pub reads_from : (pages : Pages) (frame : Frame) (tables : DomainTables) → IsDomain pages frame tables → (home : Home) → frame.anchor.table ≡ Some home → (all : FilesetMap) → AreFilledUpTo pages tables.filesets 32 all → ReadsFrom pages home all
reads_from pages frame tables domain home named all are =
    let page = table_page pages frame tables domain in
    let same : page.0 ≡ home = some_inj (sym page.1 ∙ named) in
    record {
      shapes = are.shapes;
      shaped = record {
        table = tables.filesets;
        there = subst (λ (h : Home). IsSomeAnd (pages h) (λ bytes. IsTablePage bytes tables.filesets)) same page.2;
        are = record {
          each = λ number item there.
              let within = slice_get_within tables.filesets.slots number item there in
              are.each number item (omega (arith, within, all_slots pages frame tables domain)) there;
          only = λ name some. let o = are.only name some in record { number = o.0; item = o.1; there = o.3; named = o.4 };
        };
      };
      filled = are.filled;
    }
