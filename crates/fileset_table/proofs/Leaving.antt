-- A table that one fileset leaves.
use Rattle.std.proofs.Common.{◌≡◌, ◌∙◌, ℕ, zero, suc, ◌≤◌, Bool, true, false, cond, ◌&&◌, ◌||◌, nat_eq, List, [], ◌∷◌, slice_get, slice_set, count_by, refl, sym, ap, arith}
use Rattle.std.proofs.lemmas.Bool.{and_parts, eqb-true, eq-eqb, true≢false}
use Rattle.std.proofs.lemmas.List.Sums.{sum_by-cons}
use Rattle.std.specs.List.{AllByRecursion, IsDistinct, list_all, list_any}
use Rattle.std.specs.Option.{option_map_or}
use Rattle.fileset_table.specs.declared.slot.SlotItem.{SlotItem}
use Rattle.fileset_table.specs.declared.slot.SlotItem.TheVariants.{Free, Original, Clone, Removed}
use Rattle.fileset_table.specs.Table.{IsAllowed, IsTable, Table, is_clone_of, is_fileset, is_original, leads_to_original, share_name, share_original, with_slot}
use Rattle.fileset_table.proofs.Tried.{set_is_table}

-- ---- what a slot without a fileset shares

shares_none : (item other : SlotItem) → is_fileset item ≡ false → (share_name item other ≡ false) × (share_original item other ≡ false)
shares_none Free other none = (refl, refl)
shares_none (Original e) other none = absurd (true≢false none)
shares_none (Clone o n e) other none = absurd (true≢false none)
shares_none (Removed t q) other none = (refl, refl)

none_shares : (other item : SlotItem) → is_fileset item ≡ false → (share_name other item ≡ false) × (share_original other item ≡ false)
none_shares other (Original e) none = absurd (true≢false none)
none_shares other (Clone o n e) none = absurd (true≢false none)
none_shares Free Free none = (refl, refl)
none_shares (Original e) Free none = (refl, refl)
none_shares (Clone o n e) Free none = (refl, refl)
none_shares (Removed t q) Free none = (refl, refl)
none_shares Free (Removed t q) none = (refl, refl)
none_shares (Original e) (Removed t q) none = (refl, refl)
none_shares (Clone o n e) (Removed t q) none = (refl, refl)
none_shares (Removed u r) (Removed t q) none = (refl, refl)

module _ (share : SlotItem → SlotItem → Bool) (item : SlotItem) (before : (x : SlotItem) → share x item ≡ false) (after : (x : SlotItem) → share item x ≡ false) where
  all_after : (xs : List SlotItem) → AllByRecursion (λ x. share item x ≡ false) xs
  all_after [] = tt
  all_after (x ∷ xs) = (after x, all_after xs)

  all_set : (y : SlotItem) (xs : List SlotItem) (n : ℕ) → AllByRecursion (λ x. share y x ≡ false) xs → AllByRecursion (λ x. share y x ≡ false) (slice_set xs n item)
  all_set y [] n all = tt
  all_set y (x ∷ xs) zero all = (before y, all.1)
  all_set y (x ∷ xs) (suc n) all = (all.0, all_set y xs n all.1)

  distinct_set : (xs : List SlotItem) (n : ℕ) → IsDistinct share xs → IsDistinct share (slice_set xs n item)
  unfolding IsDistinct
  distinct_set [] n distinct = tt
  distinct_set (x ∷ xs) zero distinct = (all_after xs, distinct.1)
  distinct_set (x ∷ xs) (suc n) distinct = (all_set x xs n distinct.0, distinct_set xs n distinct.1)

-- ---- how many filesets there are

abbrev one_if : Bool → ℕ
one_if b = cond b 1 0

fewer : (xs : List SlotItem) (n : ℕ) (item : SlotItem) → is_fileset item ≡ false → count_by is_fileset (slice_set xs n item) ≤ count_by is_fileset xs
fewer [] n item none = omega arith
fewer (x ∷ xs) zero item none =
    let a = sum_by-cons (λ y. cond (is_fileset y) 1 0) item xs in
    let b = sum_by-cons (λ y. cond (is_fileset y) 1 0) x xs in
    let c : cond (is_fileset item) 1 0 ≡ 0 = ap one_if none in
    omega (arith, a, b, c)
fewer (x ∷ xs) (suc n) item none =
    let a = sum_by-cons (λ y. cond (is_fileset y) 1 0) x (slice_set xs n item) in
    let b = sum_by-cons (λ y. cond (is_fileset y) 1 0) x xs in
    let c = fewer xs n item none in
    omega (arith, a, b, c)

-- ---- what clones name

pub get_other : (xs : List SlotItem) (n k : ℕ) (item : SlotItem) → nat_eq k n ≡ false → slice_get (slice_set xs n item) k ≡ slice_get xs k
get_other [] n k item other = refl
get_other (x ∷ xs) zero zero item other = absurd (true≢false (sym (eq-eqb 0 0 refl) ∙ other))
get_other (x ∷ xs) zero (suc k) item other = refl
get_other (x ∷ xs) (suc n) zero item other = refl
get_other (x ∷ xs) (suc n) (suc k) item other = get_other xs n k item (apart (nat_eq k n) refl)
  where
    apart : (b : Bool) → nat_eq k n ≡ b → nat_eq k n ≡ false
    apart true same = absurd (true≢false (sym (eq-eqb (suc k) (suc n) (ap suc (eqb-true k n same))) ∙ other))
    apart false is = is

leads_still : (slots : List SlotItem) (n : ℕ) (item x : SlotItem) → is_clone_of n x ≡ false → leads_to_original slots x ≡ true → leads_to_original (slice_set slots n item) x ≡ true
leads_still slots n item Free other leads = refl
leads_still slots n item (Original e) other leads = refl
leads_still slots n item (Clone o m e) other leads = ap (λ s. option_map_or is_original s false) (get_other slots n o item other) ∙ leads
leads_still slots n item (Removed t q) other leads = refl

pub or_parts : (a b : Bool) → (a || b) ≡ false → (a ≡ false) × (b ≡ false)
or_parts true b is = absurd (true≢false is)
or_parts false b is = (refl, is)

leads_nowhere : (slots : List SlotItem) (item : SlotItem) → is_fileset item ≡ false → leads_to_original slots item ≡ true
leads_nowhere slots Free none = refl
leads_nowhere slots (Original e) none = absurd (true≢false none)
leads_nowhere slots (Clone o n e) none = absurd (true≢false none)
leads_nowhere slots (Removed t q) none = refl

and_both : (a b : Bool) → a ≡ true → b ≡ true → (a && b) ≡ true
and_both a b x y = ap (λ c. c && b) x ∙ y

pub all_lead : (all xs : List SlotItem) (n : ℕ) (item : SlotItem) → list_any (is_clone_of n) xs ≡ false → list_all (leads_to_original all) xs ≡ true → list_all (leads_to_original (slice_set all n item)) xs ≡ true
all_lead all [] n item none leads = refl
all_lead all (x ∷ xs) n item none leads =
    let o = or_parts (is_clone_of n x) (list_any (is_clone_of n) xs) none in
    let l = and_parts (leads_to_original all x) (list_all (leads_to_original all) xs) leads in
    and_both (leads_to_original (slice_set all n item) x) (list_all (leads_to_original (slice_set all n item)) xs) (leads_still all n item x o.0 l.0) (all_lead all xs n item o.1 l.1)

pub set_leads : (all xs : List SlotItem) (k : ℕ) (item : SlotItem) → leads_to_original all item ≡ true → list_all (leads_to_original all) xs ≡ true → list_all (leads_to_original all) (slice_set xs k item) ≡ true
set_leads all [] k item this leads = refl
set_leads all (x ∷ xs) zero item this leads =
    let l = and_parts (leads_to_original all x) (list_all (leads_to_original all) xs) leads in
    and_both (leads_to_original all item) (list_all (leads_to_original all) xs) this l.1
set_leads all (x ∷ xs) (suc k) item this leads =
    let l = and_parts (leads_to_original all x) (list_all (leads_to_original all) xs) leads in
    and_both (leads_to_original all x) (list_all (leads_to_original all) (slice_set xs k item)) l.0 (set_leads all xs k item this l.1)

pub leaves : (t : Table) (n : ℕ) (item : SlotItem) → IsTable t → list_any (is_clone_of n) t.slots ≡ false → is_fileset item ≡ false → IsAllowed item → IsTable (with_slot n item t)
leaves t n item was no_clone none allowed =
    set_is_table t n item was allowed
    (record {
      few = let few = was.together.few in let f = fewer t.slots n item none in omega (arith, few, f);
      names = distinct_set share_name item (λ x. (none_shares x item none).0) (λ x. (shares_none item x none).0) t.slots n was.together.names;
      originals = set_leads (slice_set t.slots n item) t.slots n item (leads_nowhere (slice_set t.slots n item) item none) (all_lead t.slots t.slots n item no_clone was.together.originals);
      clones = distinct_set share_original item (λ x. (none_shares x item none).1) (λ x. (shares_none item x none).1) t.slots n was.together.clones;
    })
