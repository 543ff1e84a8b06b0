-- A slot that is set where that leaves a table.
use Rattle.std.proofs.Common.{◌≡◌, ◌∙◌, ℕ, zero, suc, ◌<◌, List, [], ◌∷◌, length, slice_get, slice_set, Option, Some, Result, Ok, Err, refl, sym, ap, subst, arith}
use Rattle.std.proofs.lemmas.List.{length-set, set-get_or, set-set}
use Rattle.std.proofs.lemmas.Option.{get_or_from_slice_get}
use Rattle.std.specs.List.{AllByRecursion}
use Rattle.std.specs.Option.{unwrap_or}
use Rattle.std.specs.Result.{IfErr, OnOk}
use Rattle.fileset_table.specs.declared.slot.SlotItem.{SlotItem}
use Rattle.fileset_table.specs.Table.{AreTogether, IsAllowed, IsTable, Table, with_slot}

all_set : (xs : List SlotItem) (n : ℕ) (y : SlotItem) → AllByRecursion IsAllowed xs → IsAllowed y → AllByRecursion IsAllowed (slice_set xs n y)
all_set [] n y all is = tt
all_set (x ∷ xs) zero y all is = (is, all.1)
all_set (x ∷ xs) (suc n) y all is = (all.0, all_set xs n y all.1 is)

all_there : (xs : List SlotItem) (n : ℕ) (y : SlotItem) → n < length xs → AllByRecursion IsAllowed (slice_set xs n y) → IsAllowed y
all_there [] n y within all = absurd (omega (arith, within))
all_there (x ∷ xs) zero y within all = all.0
all_there (x ∷ xs) (suc n) y within all = all_there xs n y (omega (arith, within)) all.1

pub not_allowed : (t : Table) (n : ℕ) (item : SlotItem) → n < 32 → IsTable (with_slot n item t) → IsAllowed item
not_allowed t n item within is = let len = length-set t.slots n item in all_there t.slots n item (omega (arith, within, len, is.whole)) is.allowed

pub set_is_table : (t : Table) (n : ℕ) (item : SlotItem) → IsTable t → IsAllowed item → AreTogether (slice_set t.slots n item) → IsTable (with_slot n item t)
set_is_table t n item was allowed together = record { whole = length-set t.slots n item ∙ was.whole; allowed = all_set t.slots n item was.allowed allowed; together = together; count = was.count }

-- what had stood there is put back
pub put_back : (slots mid new : List SlotItem) (n : ℕ) (item had : SlotItem) → mid ≡ slice_set slots n item → slice_get slots n ≡ Some had → new ≡ slice_set mid n had → new ≡ slots
put_back slots mid new n item had first there second =
    second ∙ ap (λ (l : List SlotItem). slice_set l n had) first ∙ set-set slots n item had ∙ ap (slice_set slots n) (sym (get_or_from_slice_get slots n had had there)) ∙ set-get_or slots n had

get_set : (xs : List SlotItem) (n : ℕ) (y : SlotItem) → n < length xs → slice_get (slice_set xs n y) n ≡ Some y
get_set [] n y within = absurd (omega (arith, within))
get_set (x ∷ xs) zero y within = refl
get_set (x ∷ xs) (suc n) y within = get_set xs n y (omega (arith, within))

-- what comes back is what was put there
pub comes_back : (slots mid : List SlotItem) (n : ℕ) (item back : SlotItem) → n < length slots → mid ≡ slice_set slots n item → slice_get mid n ≡ Some back → back ≡ item
comes_back slots mid n item back within is there =
    ap (λ (o : Option SlotItem). unwrap_or o back) (sym there ∙ ap (λ (l : List SlotItem). slice_get l n) is ∙ get_set slots n item within)

-- ---- what is answered of the table

module _ (t : Table) (n : ℕ) (item : SlotItem) (new : List SlotItem) (was : IsTable t) (within : n < 32) (allowed : IsAllowed item) where
  abbrev result : Table
  result = record { slots = new; made = t.made }

  same : new ≡ slice_set t.slots n item → result ≡ with_slot n item t
  same is = λ i. record { slots = is i; made = t.made }

  unchanged : new ≡ t.slots → result ≡ t
  unchanged is = λ i. record { slots = is i; made = t.made }

  abbrev Kept : Result (Unit {0}) SlotItem → Type 0
  Kept r = OnOk r (AreTogether (slice_set t.slots n item) × (new ≡ slice_set t.slots n item))

  abbrev Refused : Result (Unit {0}) SlotItem → Type 0
  Refused r = IfErr r (λ back. (back ≡ item) × (new ≡ t.slots) × ¬ AreTogether (slice_set t.slots n item))

  pub is_table : (r : Result (Unit {0}) SlotItem) → Kept r → Refused r → IsTable result
  is_table (Ok x) kept refused = subst IsTable (sym (same kept.1)) (set_is_table t n item was allowed kept.0)
  is_table (Err back) kept refused = subst IsTable (sym (unchanged refused.1)) was

  pub set_there : (r : Result (Unit {0}) SlotItem) → Kept r → OnOk r (IsTable (with_slot n item t) × (result ≡ with_slot n item t))
  set_there (Ok x) kept = (set_is_table t n item was allowed kept.0, same kept.1)
  set_there (Err back) kept = tt

  pub handed_back : (r : Result (Unit {0}) SlotItem) → Refused r → IfErr r (λ back. (back ≡ item) × (result ≡ t) × ¬ IsTable (with_slot n item t))
  handed_back (Ok x) refused = tt
  handed_back (Err back) refused = (refused.0, unchanged refused.1, λ is. refused.2 is.together)
