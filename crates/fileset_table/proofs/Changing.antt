-- A table in which one fileset has other limits, or begins elsewhere.
use Rattle.std.proofs.Common.{◌≡◌, ◌∙◌, ℕ, zero, suc, Bool, true, false, cond, ◌&&◌, nat_eq, List, [], ◌∷◌, slice_get, slice_set, count_by, Option, Some, None, unwrap_or, refl, sym, ap, subst, arith}
use Rattle.std.proofs.lemmas.Bool.{and_parts}
use Rattle.std.proofs.lemmas.List.Sums.{sum_by-cons}
use Rattle.std.specs.List.{AllByRecursion, IsDistinct, list_all}
use Rattle.std.specs.Option.{option_map_or}
use Rattle.fileset_model.specs.Paths.{same_name}
use Rattle.fileset_table.specs.declared.slot.FilesetEntry.{FilesetEntry}
use Rattle.fileset_table.specs.declared.slot.SlotItem.{SlotItem}
use Rattle.fileset_table.specs.declared.slot.SlotItem.TheVariants.{Free, Original, Clone, Removed}
use Rattle.fileset_table.specs.Table.{IsAllowed, IsSameFileset, IsTable, Table, entry_of, has_name, is_clone_of, is_fileset, is_original, leads_to_original, share_name, share_original, with_slot}
use Rattle.fileset_table.proofs.Tried.{set_is_table}

-- what the rules of a table see of a slot
pub record IsAlike (a b : SlotItem) : Type 0 where
  pub has : (name : List ℕ) → has_name name a ≡ has_name name b
  pub names : (z : SlotItem) → share_name a z ≡ share_name b z
  pub clone : (number : ℕ) → is_clone_of number a ≡ is_clone_of number b
  pub clones : (z : SlotItem) → share_original a z ≡ share_original b z
  pub fileset : is_fileset a ≡ is_fileset b
  pub original : is_original a ≡ is_original b
  pub leads : (slots : List SlotItem) → leads_to_original slots a ≡ leads_to_original slots b

alike : (a b : SlotItem) → IsSameFileset a b → IsAlike a b
alike (Original e) (Original f) same = record {
  has = λ name. ap (λ n. same_name n name) same;
  names = λ z. ap (λ n. has_name n z) same;
  clone = λ number. refl;
  clones = λ z. refl;
  fileset = refl;
  original = refl;
  leads = λ slots. refl;
}
alike (Clone o n e) (Clone p m f) same = record {
  has = λ name. ap (λ n. same_name n name) same.1;
  names = λ z. ap (λ n. has_name n z) same.1;
  clone = λ number. ap (λ k. nat_eq k number) same.0;
  clones = λ z. ap (λ k. is_clone_of k z) same.0;
  fileset = refl;
  original = refl;
  leads = λ slots. ap (λ k. option_map_or is_original (slice_get slots k) false) same.0;
}
alike (Removed t q) (Removed u r) same = record { has = λ name. refl; names = λ z. refl; clone = λ number. refl; clones = λ z. refl; fileset = refl; original = refl; leads = λ slots. refl }
alike Free Free same = absurd same
alike Free (Original f) same = absurd same
alike Free (Clone p m f) same = absurd same
alike Free (Removed u r) same = absurd same
alike (Original e) Free same = absurd same
alike (Original e) (Clone p m f) same = absurd same
alike (Original e) (Removed u r) same = absurd same
alike (Clone o n e) Free same = absurd same
alike (Clone o n e) (Original f) same = absurd same
alike (Clone o n e) (Removed u r) same = absurd same
alike (Removed t q) Free same = absurd same
alike (Removed t q) (Original f) same = absurd same
alike (Removed t q) (Clone p m f) same = absurd same

names_of : (a b z : SlotItem) → IsAlike a b → share_name z a ≡ share_name z b
names_of a b z is = by_entry (entry_of z)
  where
    by_entry : (o : Option FilesetEntry) → option_map_or (λ (f : FilesetEntry). has_name f.name a) o false ≡ option_map_or (λ (f : FilesetEntry). has_name f.name b) o false
    by_entry None = refl
    by_entry (Some f) = is.has f.name

clones_of : (a b z : SlotItem) → IsAlike a b → share_original z a ≡ share_original z b
clones_of a b Free is = refl
clones_of a b (Original e) is = refl
clones_of a b (Clone o n e) is = is.clone o
clones_of a b (Removed t q) is = refl

some_is : (a b : SlotItem) → Some a ≡ Some b → a ≡ b
some_is a b e = ap (λ (o : Option SlotItem). unwrap_or o a) e

module _ (share : SlotItem → SlotItem → Bool) (old item : SlotItem) (before : (z : SlotItem) → share z old ≡ share z item) (after : (z : SlotItem) → share old z ≡ share item z) where
  all_same : (xs : List SlotItem) → AllByRecursion (λ z. share old z ≡ false) xs → AllByRecursion (λ z. share item z ≡ false) xs
  all_same [] all = tt
  all_same (x ∷ xs) all = (sym (after x) ∙ all.0, all_same xs all.1)

  all_put : (y : SlotItem) (xs : List SlotItem) (n : ℕ) → slice_get xs n ≡ Some old → AllByRecursion (λ z. share y z ≡ false) xs → AllByRecursion (λ z. share y z ≡ false) (slice_set xs n item)
  all_put y [] n at all = tt
  all_put y (x ∷ xs) zero at all = (sym (before y) ∙ ap (share y) (sym (some_is x old at)) ∙ all.0, all.1)
  all_put y (x ∷ xs) (suc n) at all = (all.0, all_put y xs n at all.1)

  distinct_still : (xs : List SlotItem) (n : ℕ) → slice_get xs n ≡ Some old → IsDistinct share xs → IsDistinct share (slice_set xs n item)
  unfolding IsDistinct
  distinct_still [] n at distinct = tt
  distinct_still (x ∷ xs) zero at distinct = (all_same xs (subst (λ y. AllByRecursion (λ z. share y z ≡ false) xs) (some_is x old at) distinct.0), distinct.1)
  distinct_still (x ∷ xs) (suc n) at distinct = (all_put x xs n at distinct.0, distinct_still xs n at distinct.1)

abbrev one_if : Bool → ℕ
one_if b = cond b 1 0

as_many : (xs : List SlotItem) (n : ℕ) (old item : SlotItem) → slice_get xs n ≡ Some old → is_fileset old ≡ is_fileset item → count_by is_fileset (slice_set xs n item) ≡ count_by is_fileset xs
as_many [] n old item at same = refl
as_many (x ∷ xs) zero old item at same =
    let a = sum_by-cons (λ y. one_if (is_fileset y)) item xs in
    let b = sum_by-cons (λ y. one_if (is_fileset y)) x xs in
    let c = ap one_if (ap is_fileset (some_is x old at) ∙ same) in
    omega (arith, a, b, c)
as_many (x ∷ xs) (suc n) old item at same =
    let a = sum_by-cons (λ y. one_if (is_fileset y)) x (slice_set xs n item) in
    let b = sum_by-cons (λ y. one_if (is_fileset y)) x xs in
    let c = as_many xs n old item at same in
    omega (arith, a, b, c)

abbrev original_at : List SlotItem → ℕ → Bool
original_at xs k = option_map_or is_original (slice_get xs k) false

originals_still : (xs : List SlotItem) (n k : ℕ) (old item : SlotItem) → slice_get xs n ≡ Some old → is_original old ≡ is_original item → original_at (slice_set xs n item) k ≡ original_at xs k
originals_still [] n k old item at same = refl
originals_still (x ∷ xs) zero zero old item at same = sym same ∙ sym (ap is_original (some_is x old at))
originals_still (x ∷ xs) zero (suc k) old item at same = refl
originals_still (x ∷ xs) (suc n) zero old item at same = refl
originals_still (x ∷ xs) (suc n) (suc k) old item at same = originals_still xs n k old item at same

leads_still : (xs : List SlotItem) (n : ℕ) (old item x : SlotItem) → slice_get xs n ≡ Some old → is_original old ≡ is_original item → leads_to_original (slice_set xs n item) x ≡ leads_to_original xs x
leads_still xs n old item Free at same = refl
leads_still xs n old item (Original e) at same = refl
leads_still xs n old item (Clone o m e) at same = originals_still xs n o old item at same
leads_still xs n old item (Removed t q) at same = refl

and_both : (a b : Bool) → a ≡ true → b ≡ true → (a && b) ≡ true
and_both a b x y = ap (λ c. c && b) x ∙ y

-- the slots of a part of the table lead where they led
all_lead : (all xs : List SlotItem) (n k : ℕ) (old item : SlotItem) → slice_get all n ≡ Some old → slice_get xs k ≡ Some old → IsAlike old item → list_all (leads_to_original all) xs ≡ true
    → list_all (leads_to_original (slice_set all n item)) (slice_set xs k item) ≡ true
all_lead all [] n k old item at there is leads = refl
all_lead all (x ∷ xs) n zero old item at there is leads =
    let l = and_parts (leads_to_original all x) (list_all (leads_to_original all) xs) leads in
    let this : leads_to_original (slice_set all n item) item ≡ true = leads_still all n old item item at is.original ∙ sym (is.leads all) ∙ ap (leads_to_original all) (sym (some_is x old there)) ∙ l.0 in
    and_both (leads_to_original (slice_set all n item) item) (list_all (leads_to_original (slice_set all n item)) xs) this (rest xs l.1)
  where
    rest : (ys : List SlotItem) → list_all (leads_to_original all) ys ≡ true → list_all (leads_to_original (slice_set all n item)) ys ≡ true
    rest [] leads = refl
    rest (y ∷ ys) leads =
        let l = and_parts (leads_to_original all y) (list_all (leads_to_original all) ys) leads in
        and_both (leads_to_original (slice_set all n item) y) (list_all (leads_to_original (slice_set all n item)) ys) (leads_still all n old item y at is.original ∙ l.0) (rest ys l.1)
all_lead all (x ∷ xs) n (suc k) old item at there is leads =
    let l = and_parts (leads_to_original all x) (list_all (leads_to_original all) xs) leads in
    and_both (leads_to_original (slice_set all n item) x) (list_all (leads_to_original (slice_set all n item)) (slice_set xs k item)) (leads_still all n old item x at is.original ∙ l.0)
    (all_lead all xs n k old item at there is l.1)

pub changes : (t : Table) (n : ℕ) (old item : SlotItem) → IsTable t → slice_get t.slots n ≡ Some old → IsSameFileset old item → IsAllowed item → IsTable (with_slot n item t)
changes t n old item was at same allowed =
    let is = alike old item same in
    set_is_table t n item was allowed
    (record {
      few = let few = was.together.few in let m = as_many t.slots n old item at is.fileset in omega (arith, few, m);
      names = distinct_still share_name old item (λ z. names_of old item z is) is.names t.slots n at was.together.names;
      originals = all_lead t.slots t.slots n n old item at at is was.together.originals;
      clones = distinct_still share_original old item (λ z. clones_of old item z is) is.clones t.slots n at was.together.clones;
    })
