-- The shapes of all filesets of a table, by what was read of its slots.
use Rattle.std.proofs.Common.{◌≡◌, ◌∙◌, ℕ, zero, suc, ◌<◌, Bool, true, false, cond, List, [], ◌∷◌, length, Option, Some, None, IfSome, IsSome, IsSomeAnd, slice_get, refl, sym, ap, subst, arith, ⊎_elim}
use Rattle.std.proofs.lemmas.Bool.{cases_order}
use Rattle.std.proofs.lemmas.Slice.Eq.{bytes_eq-Decides}
use Rattle.std.proofs.lemmas.Option.{slice_get_within}
use Rattle.std.specs.List.{AllByRecursion, IsDistinct}
use Rattle.std.specs.Option.{option_map, option_map_or}
use Rattle.filesets_reading.specs.page_store.Pages.{Pages}
use Rattle.filesets_reading.specs.fileset_values.Orders.{Name}
use Rattle.filesets_reading.specs.fileset_model.Paths.{same_name}
use Rattle.filesets_reading.specs.fileset_table.Table.{IsTable, Table, entry_of, has_name, share_name}
use Rattle.filesets_reading.specs.fileset_table.declared.slot.FilesetEntry.{FilesetEntry}
use Rattle.filesets_reading.specs.fileset_table.declared.slot.SlotItem.{SlotItem}
use Rattle.filesets_reading.specs.fileset_table.declared.slot.SlotItem.TheVariants as slot
use Rattle.filesets_reading.specs.domain_layout.Shape.{FilesetShape, HasFileset, IsShapeOf, Shapes}
use Rattle.filesets_reading.proofs.OfDomainLayout.OnePage.{some_same}
use Rattle.fileset_shapes.specs.Found.{SeesFileset, SeesItem, SeesShape}
use Rattle.fileset_shapes.specs.Shapes.{AreShapesSeen, SeesSlots}
use Rattle.fileset_shapes.specs.declared.found.FilesetSeen.{FilesetSeen}
use Rattle.fileset_shapes.proofs.OriginalFiles.{none_some}

no_bool : false ≡ true → ⊥
no_bool is = cc

-- ---- names

-- a slot has a fileset of a name
record IsNamed (name : Name) (item : SlotItem) : Type 0 where
  entry : FilesetEntry
  is : entry_of item ≡ Some entry
  same : entry.name ≡ name

is_named : (name : Name) (item : SlotItem) → has_name name item ≡ true → IsNamed name item
is_named name item has = by_entry (entry_of item) refl has
  where
    by_entry : (o : Option FilesetEntry) → entry_of item ≡ o → option_map_or (λ (e : FilesetEntry). same_name e.name name) o false ≡ true → IsNamed name item
    by_entry None is has = absurd (no_bool has)
    by_entry (Some entry) is has = record { entry = entry; is = is; same = (bytes_eq-Decides entry.name name).0 has }

named_so : (name : Name) (item : SlotItem) (entry : FilesetEntry) → entry_of item ≡ Some entry → entry.name ≡ name → has_name name item ≡ true
named_so name item entry is same = ap (λ o. option_map_or (λ (e : FilesetEntry). same_name e.name name) o false) is ∙ (bytes_eq-Decides entry.name name).1 same

-- the place of the first slot that has the name
abbrev named_at : Name → List SlotItem → Option ℕ
named_at name [] = None
named_at name (item ∷ more) = cond (has_name name item) (Some 0) (option_map suc (named_at name more))

record NamedAt (name : Name) (items : List SlotItem) (k : ℕ) : Type 0 where
  item : SlotItem
  there : slice_get items k ≡ Some item
  has : has_name name item ≡ true

named_there : (name : Name) (items : List SlotItem) (k : ℕ) → named_at name items ≡ Some k → NamedAt name items k
named_there name [] k is = none_some k is
named_there name (item ∷ more) k is = by_test (named_there name more) (has_name name item) refl is
  where
    by_rest : ((j : ℕ) → named_at name more ≡ Some j → NamedAt name more j) → (o : Option ℕ) → named_at name more ≡ o → option_map suc o ≡ Some k → NamedAt name (item ∷ more) k
    by_rest later None at is = none_some k is
    by_rest later (Some j) at is =
        let rest = later j at in
        record { item = rest.item; there = subst (λ n. slice_get (item ∷ more) n ≡ Some rest.item) (some_same (suc j) k is) rest.there; has = rest.has }

    by_test : ((j : ℕ) → named_at name more ≡ Some j → NamedAt name more j) → (b : Bool) → has_name name item ≡ b → cond b (Some 0) (option_map suc (named_at name more)) ≡ Some k → NamedAt name (item ∷ more) k
    by_test later true has is = record { item = item; there = subst (λ n. slice_get (item ∷ more) n ≡ Some item) (some_same 0 k is) refl; has = has }
    by_test later false has is = by_rest later (named_at name more) refl is

named_nowhere : (name : Name) (items : List SlotItem) → named_at name items ≡ None → (k : ℕ) (item : SlotItem) → slice_get items k ≡ Some item → has_name name item ≡ true → ⊥
named_nowhere name [] none k item there has = none_some item there
named_nowhere name (one ∷ more) none k item there has = by_test (named_nowhere name more) (has_name name one) refl none k there
  where
    by_rest : (o : Option ℕ) → option_map suc o ≡ None → o ≡ None
    by_rest None is = refl
    by_rest (Some j) is = none_some (suc j) (sym is)

    by_test : (named_at name more ≡ None → (k : ℕ) (item : SlotItem) → slice_get more k ≡ Some item → has_name name item ≡ true → ⊥) → (b : Bool) → has_name name one ≡ b → cond b (Some 0) (option_map suc (named_at name more)) ≡ None
        → (k : ℕ) → slice_get (one ∷ more) k ≡ Some item → ⊥
    by_test later true is none k there = none_some 0 (sym none)
    by_test later false is none zero there = no_bool (sym is ∙ ap (has_name name) (some_same one item there) ∙ has)
    by_test later false is none (suc k) there = later (by_rest (named_at name more) none) k item there has

-- ---- names once

all_at : (P : SlotItem → Type 0) (items : List SlotItem) → AllByRecursion P items → (k : ℕ) (item : SlotItem) → slice_get items k ≡ Some item → P item
all_at P [] all k item there = none_some item there
all_at P (one ∷ more) all zero item there = subst P (some_same one item there) all.0
all_at P (one ∷ more) all (suc k) item there = all_at P more all.1 k item there

apart : (items : List SlotItem) → IsDistinct share_name items → (j k : ℕ) (one other : SlotItem) → j < k → slice_get items j ≡ Some one → slice_get items k ≡ Some other → share_name one other ≡ false
unfolding IsDistinct
apart [] distinct j k one other less at also = none_some one at
apart (item ∷ more) distinct zero zero one other less at also = absurd (omega (arith, less))
apart (item ∷ more) distinct zero (suc k) one other less at also =
    subst (λ i. share_name i other ≡ false) (some_same item one at) (all_at (λ i. share_name item i ≡ false) more distinct.0 k other also)
apart (item ∷ more) distinct (suc j) zero one other less at also = absurd (omega (arith, less))
apart (item ∷ more) distinct (suc j) (suc k) one other less at also = apart more distinct.1 j k one other (omega (arith, less)) at also

shares : (name : Name) (one other : SlotItem) → has_name name one ≡ true → has_name name other ≡ true → share_name one other ≡ true
shares name one other has also =
    let n = is_named name one has in
    ap (λ o. option_map_or (λ (e : FilesetEntry). has_name e.name other) o false) n.is ∙ ap (λ m. has_name m other) n.same ∙ also

one_place : (items : List SlotItem) → IsDistinct share_name items → (name : Name) (j k : ℕ) (one other : SlotItem) → slice_get items j ≡ Some one → slice_get items k ≡ Some other → has_name name one ≡ true → has_name name other ≡ true → j ≡ k
one_place items distinct name j k one other at also has has_also =
    ⊎_elim (λ same. same)
    (λ differ. ⊎_elim (λ less. absurd (no_bool (sym (apart items distinct j k one other less at also) ∙ shares name one other has has_also)))
    (λ more. absurd (no_bool (sym (apart items distinct k j other one more also at) ∙ shares name other one has_also has))) differ)
    (cases_order j k)

is_there : {X : Type 0} (xs : List X) (k : ℕ) → k < length xs → slice_get xs k ≡ None → ⊥
is_there [] k within none = omega (arith, within)
is_there (x ∷ xs) zero within none = none_some x (sym none)
is_there (x ∷ xs) (suc k) within none = is_there xs k (omega (arith, within)) none

-- ---- the shapes

module _ (pages : Pages) (table : Table) (good : IsTable table) (found : List (Option FilesetSeen)) (sees : SeesSlots pages table found) where
  -- what was read of the fileset in a slot
  record SeenAt (number : ℕ) (item : SlotItem) (entry : FilesetEntry) : Type 0 where
    seen : FilesetSeen
    at : slice_get found number ≡ Some (Some seen)
    is : SeesFileset pages table number item entry seen

  read_there : (number : ℕ) (item : SlotItem) → slice_get table.slots number ≡ Some item → (o : Option FilesetSeen) × (slice_get found number ≡ Some o) × SeesItem pages table number item o
  read_there number item there = by_place (slice_get found number) refl
    where
      by_place : (o : Option (Option FilesetSeen)) → slice_get found number ≡ o → (seen : Option FilesetSeen) × (slice_get found number ≡ Some seen) × SeesItem pages table number item seen
      by_place None none =
          let within = slice_get_within table.slots number item there in
          absurd (is_there found number (omega (arith, within, good.whole, sees.count)) none)
      by_place (Some seen) at = (seen, at, sees.each number seen at item there)

  seen_at : (number : ℕ) (item : SlotItem) → slice_get table.slots number ≡ Some item → (entry : FilesetEntry) → entry_of item ≡ Some entry → SeenAt number item entry
  seen_at number item there entry is = let r = read_there number item there in by_item item r.0 r.1 r.2 is
    where
      by_seen : (item : SlotItem) (o : Option FilesetSeen) → slice_get found number ≡ Some o → IsSomeAnd o (SeesFileset pages table number item entry) → SeenAt number item entry
      by_seen item None at so = absurd so
      by_seen item (Some seen) at so = record { seen = seen; at = at; is = so }

      by_item : (item : SlotItem) (o : Option FilesetSeen) → slice_get found number ≡ Some o → SeesItem pages table number item o → entry_of item ≡ Some entry → SeenAt number item entry
      by_item slot.Free o at so is = none_some entry is
      by_item (slot.Removed first_tag quota) o at so is = none_some entry is
      by_item (slot.Original e) o at so is = by_seen (slot.Original e) o at (subst (λ e'. IsSomeAnd o (SeesFileset pages table number (slot.Original e) e')) (some_same e entry is) so)
      by_item (slot.Clone of clone e) o at so is = by_seen (slot.Clone of clone e) o at (subst (λ e'. IsSomeAnd o (SeesFileset pages table number (slot.Clone of clone e) e')) (some_same e entry is) so)

  seen_by : (name : Name) (k : ℕ) (n : NamedAt name table.slots k) → SeenAt k n.item (is_named name n.item n.has).entry
  seen_by name k n = seen_at k n.item n.there (is_named name n.item n.has).entry (is_named name n.item n.has).is

  shape_by : (name : Name) (o : Option ℕ) → named_at name table.slots ≡ o → Option FilesetShape
  shape_by name None at = None
  shape_by name (Some k) at = Some (seen_by name k (named_there name table.slots k at)).is.shape

  abbrev shapes : Shapes
  shapes name = shape_by name (named_at name table.slots) refl

  -- what is so of the fileset of a name
  record IsRight (number : ℕ) (item : SlotItem) (entry : FilesetEntry) (shape : Option FilesetShape) : Type 0 where
    is : IsShapeOf pages table number item shape
    says : (seen : FilesetSeen) → slice_get found number ≡ Some (Some seen) → IsSomeAnd shape (λ s. SeesShape pages entry s seen)

  right_by : (number : ℕ) (item : SlotItem) → slice_get table.slots number ≡ Some item → (entry : FilesetEntry) → entry_of item ≡ Some entry → (o : Option ℕ) (at : named_at entry.name table.slots ≡ o) → IsRight number item entry (shape_by entry.name o at)
  unfolding shape_by
  right_by number item there entry is None at = absurd (named_nowhere entry.name table.slots at number item there (named_so entry.name item entry is refl))
  right_by number item there entry is (Some k) at =
      let n = named_there entry.name table.slots k at in
      let name = is_named entry.name n.item n.has in
      let place : k ≡ number = one_place table.slots good.together.names entry.name k number n.item item n.there there n.has (named_so entry.name item entry is refl) in
      let same : n.item ≡ item = some_same n.item item (sym n.there ∙ ap (slice_get table.slots) place ∙ there) in
      let entry_same : name.entry ≡ entry = some_same name.entry entry (sym name.is ∙ ap entry_of same ∙ is) in
      let s = seen_by entry.name k n in
      record {
        is = subst (λ i. IsShapeOf pages table number i (Some s.is.shape)) same (subst (λ j. IsShapeOf pages table j n.item (Some s.is.shape)) place s.is.is);
        says = λ seen at_found.
            let seen_same : s.seen ≡ seen = some_same s.seen seen (some_same (Some s.seen) (Some seen) (sym s.at ∙ ap (slice_get found) place ∙ at_found)) in
            subst (λ f. SeesShape pages entry s.is.shape f) seen_same (subst (λ e. SeesShape pages e s.is.shape s.seen) entry_same s.is.sees);
      }

  fileset_of : (name : Name) (o : Option ℕ) (at : named_at name table.slots ≡ o) → IsSome (shape_by name o at) → HasFileset table name
  unfolding shape_by
  fileset_of name None at some = absurd (no_bool some)
  fileset_of name (Some k) at some =
      let n = named_there name table.slots k at in
      let e = is_named name n.item n.has in
      record { number = k; item = n.item; there = n.there; named = subst (λ o. IsSomeAnd o (λ (entry : FilesetEntry). entry.name ≡ name)) (sym e.is) e.same }

  each_shape : (number : ℕ) (item : SlotItem) → slice_get table.slots number ≡ Some item → IfSome (entry_of item) (λ entry. IsShapeOf pages table number item (shapes entry.name))
  each_shape number item there = by_entry (entry_of item) refl
    where
      by_entry : (o : Option FilesetEntry) → entry_of item ≡ o → IfSome o (λ entry. IsShapeOf pages table number item (shapes entry.name))
      by_entry None is = tt
      by_entry (Some entry) is = (right_by number item there entry is (named_at entry.name table.slots) refl).is

  pub all_shapes : (shapes : Shapes) × AreShapesSeen pages table found shapes
  all_shapes = (
    shapes,
    record {
      are = record { each = each_shape; only = λ name some. fileset_of name (named_at name table.slots) refl some };
      sees = λ number item entry seen there is at. (right_by number item there entry is (named_at entry.name table.slots) refl).says seen at;
    },
  )
