-- A table that one fileset joins.
use Rattle.std.proofs.Common.{◌≡◌, ◌∙◌, ℕ, zero, suc, ◌+◌, ◌<◌, ◌≤◌, Bool, true, false, cond, ◌||◌, nat_eq, List, [], ◌∷◌, slice_get, slice_set, count_by, Option, Some, None, refl, sym, ap, arith}
use Rattle.std.proofs.lemmas.Bool.{and_parts, eqb-true, true≢false}
use Rattle.std.proofs.lemmas.Cmp.{nat_eq_equiv, nat_list_eq_equiv}
use Rattle.std.proofs.lemmas.List.Sums.{sum_by-cons}
use Rattle.std.specs.List.{AllByRecursion, IsDistinct, list_all, list_any}
use Rattle.std.specs.Option.{option_map_or}
use Rattle.fileset_model.specs.Paths.{same_name}
use Rattle.fileset_table.specs.declared.slot.FilesetEntry.{FilesetEntry}
use Rattle.fileset_table.specs.declared.slot.SlotItem.{SlotItem}
use Rattle.fileset_table.specs.declared.slot.SlotItem.TheVariants.{Free, Original, Clone, Removed}
use Rattle.fileset_table.specs.Table.{IsAllowed, IsTable, Table, entry_of, has_name, is_clone_of, is_fileset, is_original, leads_to_original, share_name, share_original, with_slot}
use Rattle.fileset_table.proofs.Leaving.{all_lead, get_other, or_parts, set_leads}
use Rattle.fileset_table.proofs.Tried.{set_is_table}

abbrev NoneBefore : (SlotItem → SlotItem → Bool) → SlotItem → List SlotItem → Type 0
NoneBefore share item xs = AllByRecursion (λ x. share x item ≡ false) xs

abbrev NoneAfter : (SlotItem → SlotItem → Bool) → SlotItem → List SlotItem → Type 0
NoneAfter share item xs = AllByRecursion (λ x. share item x ≡ false) xs

put_among : (share : SlotItem → SlotItem → Bool) (item y : SlotItem) (xs : List SlotItem) (n : ℕ) → share y item ≡ false → AllByRecursion (λ x. share y x ≡ false) xs
    → AllByRecursion (λ x. share y x ≡ false) (slice_set xs n item)
put_among share item y [] n this all = tt
put_among share item y (x ∷ xs) zero this all = (this, all.1)
put_among share item y (x ∷ xs) (suc n) this all = (all.0, put_among share item y xs n this all.1)

distinct_put : (share : SlotItem → SlotItem → Bool) (item : SlotItem) (xs : List SlotItem) (n : ℕ) → NoneBefore share item xs → NoneAfter share item xs → IsDistinct share xs → IsDistinct share (slice_set xs n item)
unfolding IsDistinct
distinct_put share item [] n before after distinct = tt
distinct_put share item (x ∷ xs) zero before after distinct = (after.1, distinct.1)
distinct_put share item (x ∷ xs) (suc n) before after distinct = (put_among share item x xs n before.0 distinct.0, distinct_put share item xs n before.1 after.1 distinct.1)

abbrev one_if : Bool → ℕ
one_if b = cond b 1 0

at_most_one : (b : Bool) → one_if b ≤ 1
at_most_one true = omega arith
at_most_one false = omega arith

one_more : (xs : List SlotItem) (n : ℕ) (item : SlotItem) → count_by is_fileset (slice_set xs n item) ≤ count_by is_fileset xs + 1
one_more [] n item = omega arith
one_more (x ∷ xs) zero item =
    let a = sum_by-cons (λ y. one_if (is_fileset y)) item xs in
    let b = sum_by-cons (λ y. one_if (is_fileset y)) x xs in
    let c = at_most_one (is_fileset item) in
    omega (arith, a, b, c)
one_more (x ∷ xs) (suc n) item =
    let a = sum_by-cons (λ y. one_if (is_fileset y)) x (slice_set xs n item) in
    let b = sum_by-cons (λ y. one_if (is_fileset y)) x xs in
    let c = one_more xs n item in
    omega (arith, a, b, c)

-- ---- names

apart_names : (item x : SlotItem) (e : FilesetEntry) → entry_of item ≡ Some e → has_name e.name x ≡ false → (share_name x item ≡ false) × (share_name item x ≡ false)
apart_names item x e is other = (by_entry (entry_of x) other, ap (λ (o : Option FilesetEntry). option_map_or (λ (f : FilesetEntry). has_name f.name x) o false) is ∙ other)
  where
    by_entry : (o : Option FilesetEntry) → option_map_or (λ (f : FilesetEntry). same_name f.name e.name) o false ≡ false → option_map_or (λ (f : FilesetEntry). has_name f.name item) o false ≡ false
    by_entry None other = refl
    by_entry (Some f) other = ap (λ (o : Option FilesetEntry). option_map_or (λ (g : FilesetEntry). same_name g.name f.name) o false) is ∙ nat_list_eq_equiv.symm e.name f.name ∙ other

names_before : (item : SlotItem) (e : FilesetEntry) (xs : List SlotItem) → entry_of item ≡ Some e → list_any (has_name e.name) xs ≡ false → NoneBefore share_name item xs
names_before item e [] is none = tt
names_before item e (x ∷ xs) is none =
    let o = or_parts (has_name e.name x) (list_any (has_name e.name) xs) none in
    ((apart_names item x e is o.0).0, names_before item e xs is o.1)

names_after : (item : SlotItem) (e : FilesetEntry) (xs : List SlotItem) → entry_of item ≡ Some e → list_any (has_name e.name) xs ≡ false → NoneAfter share_name item xs
names_after item e [] is none = tt
names_after item e (x ∷ xs) is none =
    let o = or_parts (has_name e.name x) (list_any (has_name e.name) xs) none in
    ((apart_names item x e is o.0).1, names_after item e xs is o.1)

-- ---- clones

none_clone : (e : FilesetEntry) (x : SlotItem) → share_original x (Original e) ≡ false
none_clone e Free = refl
none_clone e (Original f) = refl
none_clone e (Clone o n f) = refl
none_clone e (Removed t q) = refl

no_clones_before : (e : FilesetEntry) (xs : List SlotItem) → NoneBefore share_original (Original e) xs
no_clones_before e [] = tt
no_clones_before e (x ∷ xs) = (none_clone e x, no_clones_before e xs)

no_clones_after : (e : FilesetEntry) (xs : List SlotItem) → NoneAfter share_original (Original e) xs
no_clones_after e [] = tt
no_clones_after e (x ∷ xs) = (refl, no_clones_after e xs)

apart_clones : (o n : ℕ) (e : FilesetEntry) (x : SlotItem) → is_clone_of o x ≡ false → share_original x (Clone o n e) ≡ false
apart_clones o n e Free other = refl
apart_clones o n e (Original f) other = refl
apart_clones o n e (Clone p m f) other = nat_eq_equiv.symm o p ∙ other
apart_clones o n e (Removed t q) other = refl

clones_before : (o n : ℕ) (e : FilesetEntry) (xs : List SlotItem) → list_any (is_clone_of o) xs ≡ false → NoneBefore share_original (Clone o n e) xs
clones_before o n e [] none = tt
clones_before o n e (x ∷ xs) none =
    let p = or_parts (is_clone_of o x) (list_any (is_clone_of o) xs) none in
    (apart_clones o n e x p.0, clones_before o n e xs p.1)

clones_after : (o n : ℕ) (e : FilesetEntry) (xs : List SlotItem) → list_any (is_clone_of o) xs ≡ false → NoneAfter share_original (Clone o n e) xs
clones_after o n e [] none = tt
clones_after o n e (x ∷ xs) none = let p = or_parts (is_clone_of o x) (list_any (is_clone_of o) xs) none in (p.0, clones_after o n e xs p.1)

-- ---- what clones name

or_none : (a b : Bool) → a ≡ false → b ≡ false → (a || b) ≡ false
or_none a b x y = ap (λ c. c || b) x ∙ y

-- no clone names a slot that is free
not_named : (slots : List SlotItem) (n : ℕ) (x : SlotItem) → slice_get slots n ≡ Some Free → leads_to_original slots x ≡ true → is_clone_of n x ≡ false
not_named slots n Free free leads = refl
not_named slots n (Original e) free leads = refl
not_named slots n (Removed t q) free leads = refl
not_named slots n (Clone o m e) free leads = by_test (nat_eq o n) refl
  where
    by_test : (b : Bool) → nat_eq o n ≡ b → b ≡ false
    by_test true same = absurd (true≢false (sym leads ∙ ap (λ k. option_map_or is_original (slice_get slots k) false) (eqb-true o n same) ∙ ap (λ s. option_map_or is_original s false) free))
    by_test false other = refl

none_named : (slots xs : List SlotItem) (n : ℕ) → slice_get slots n ≡ Some Free → list_all (leads_to_original slots) xs ≡ true → list_any (is_clone_of n) xs ≡ false
none_named slots [] n free leads = refl
none_named slots (x ∷ xs) n free leads =
    let l = and_parts (leads_to_original slots x) (list_all (leads_to_original slots) xs) leads in
    or_none (is_clone_of n x) (list_any (is_clone_of n) xs) (not_named slots n x free l.0) (none_named slots xs n free l.1)

clone_leads : (slots : List SlotItem) (n o m : ℕ) (e : FilesetEntry) (item : SlotItem) → slice_get slots n ≡ Some Free → option_map_or is_original (slice_get slots o) false ≡ true
    → leads_to_original (slice_set slots n item) (Clone o m e) ≡ true
clone_leads slots n o m e item free original = ap (λ s. option_map_or is_original s false) (get_other slots n o item (by_test (nat_eq o n) refl)) ∙ original
  where
    by_test : (b : Bool) → nat_eq o n ≡ b → nat_eq o n ≡ false
    by_test true same = absurd (true≢false (sym original ∙ ap (λ k. option_map_or is_original (slice_get slots k) false) (eqb-true o n same) ∙ ap (λ s. option_map_or is_original s false) free))
    by_test false other = other

module _ (t : Table) (n : ℕ) (was : IsTable t) (free : slice_get t.slots n ≡ Some Free) (few : count_by is_fileset t.slots < 16) (e : FilesetEntry) (named : list_any (has_name e.name) t.slots ≡ false) where
  joins : (item : SlotItem) → entry_of item ≡ Some e → IsAllowed item → leads_to_original (slice_set t.slots n item) item ≡ true → NoneBefore share_original item t.slots → NoneAfter share_original item t.slots
      → IsTable (with_slot n item t)
  joins item is allowed leads before after =
      set_is_table t n item was allowed
      (record {
        few = let f = one_more t.slots n item in omega (arith, few, f);
        names = distinct_put share_name item t.slots n (names_before item e t.slots is named) (names_after item e t.slots is named) was.together.names;
        originals = set_leads (slice_set t.slots n item) t.slots n item leads
            (all_lead t.slots t.slots n item (none_named t.slots t.slots n free was.together.originals) was.together.originals);
        clones = distinct_put share_original item t.slots n before after was.together.clones;
      })

  pub original_joins : IsAllowed (Original e) → IsTable (with_slot n (Original e) t)
  original_joins allowed = joins (Original e) refl allowed refl (no_clones_before e t.slots) (no_clones_after e t.slots)

  pub clone_joins : (o m : ℕ) → IsAllowed (Clone o m e) → option_map_or is_original (slice_get t.slots o) false ≡ true → list_any (is_clone_of o) t.slots ≡ false → IsTable (with_slot n (Clone o m e) t)
  clone_joins o m allowed original none = joins (Clone o m e) refl allowed (clone_leads t.slots n o m e (Clone o m e) free original) (clones_before o m e t.slots none) (clones_after o m e t.slots none)
