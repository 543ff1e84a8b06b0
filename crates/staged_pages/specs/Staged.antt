-- Pages by their homes, and what they were before a change that is not kept yet.
use Rattle.std.specs.Prelude.{◌≡◌, ◌==◌, ◌+◌, ◌^◌, ◌≤◌, ℕ, Bool, true, false, List, [], ◌∷◌, Option, length, nat_lt, if◌then◌else◌}
use Rattle.std.specs.List.{list_all, list_any}
use Rattle.std.specs.Option.{ForSome, option_and_then}
use Rattle.page_store.specs.domain_base.declared.place.Home.{Home}
use Rattle.page_store.specs.Pages.{Pages, same_home}
use Rattle.page_store.specs.sorted_sets.Homes.{found_at, number_of}
use Rattle.page_store.specs.sorted_sets.Rising.{IsRising, value_at}
use Rattle.staged_pages.specs.declared.slot.Slot.{Slot}
use Rattle.staged_pages.specs.Slots.{AreWhole, is_same, page_before, page_now}

-- what each slot has
abbrev pub pages_in : (Slot → Option (List ℕ)) → List (ℕ × Slot) → Pages
pages_in which entries home = option_and_then which (found_at entries home)

-- a home is on a list
abbrev pub is_on : List Home → Home → Bool
is_on homes home = list_any (same_home home) homes

-- each home has a page that a volume may have
abbrev pub have_pages : List Home → Bool
have_pages homes = list_all (λ home. nat_lt home.page (2 ^ 32)) homes

-- how many have not changed
abbrev pub count_same : List (ℕ × Slot) → ℕ
count_same [] = 0
count_same (entry ∷ entries) =
    if is_same entry.1 then 1 + count_same entries else count_same entries

-- a home of that number is on the list
abbrev pub is_listed : List Home → ℕ → Bool
is_listed changed key = list_any (λ home. number_of home == key) changed

-- each that has changed is
abbrev pub AreListed : List (ℕ × Slot) → List Home → Type 0
AreListed entries changed = (key : ℕ) → ForSome (value_at entries key)
    (λ slot. is_same slot ≡ false → is_listed changed key ≡ true)

-- slots in the order of their homes; those that have changed are listed, each once
pub record AreSlots (entries : List (ℕ × Slot)) (changed : List Home) : Type 0 where
  pub rising : IsRising entries
  pub whole : (key : ℕ) → ForSome (value_at entries key) AreWhole
  pub listed : AreListed entries changed
  pub homes : have_pages changed ≡ true
  pub once : length changed + count_same entries ≤ length entries

-- there is room for `spare` more slots, and for all slots on the list
pub record HaveRoom (slots spare slot_room list_room : ℕ) : Type 0 where
  pub slots_fit : slots + spare ≤ slot_room
  pub list_fits : slots + spare ≤ list_room

-- the slot of a number is another one now, which has changed and was what the old one was; all
-- others are as they were
pub record EditsSlot (key : ℕ) (page : Option (List ℕ)) (old new : List (ℕ × Slot)) : Type 0 where
  pub pages : (q : ℕ) → option_and_then page_now (value_at new q)
      ≡ (if key == q then page else option_and_then page_now (value_at old q))
  pub before : (q : ℕ) → option_and_then page_before (value_at new q)
      ≡ option_and_then page_before (value_at old q)

-- the slot of a number has not changed now, and has the page that it had now or before; all others
-- are as they were
pub record SettlesSlot (which : Slot → Option (List ℕ)) (key : ℕ) (old new : List (ℕ × Slot))
    : Type 0 where
  pub others : (q : ℕ) → (key == q) ≡ false → value_at new q ≡ value_at old q
  pub same : ForSome (value_at new key) (λ slot. is_same slot ≡ true)
  pub page : option_and_then which (value_at new key) ≡ option_and_then which (value_at old key)
  pub count : count_same new + length old ≤ count_same old + length new + 1

-- all slots: each has the page that it had now or before, and none has changed now
pub record SettlesAll (which : Slot → Option (List ℕ)) (old new : List (ℕ × Slot)) : Type 0 where
  pub pages : (q : ℕ) → option_and_then which (value_at new q)
      ≡ option_and_then which (value_at old q)
  pub same : (q : ℕ) → ForSome (value_at new q) (λ slot. is_same slot ≡ true)
