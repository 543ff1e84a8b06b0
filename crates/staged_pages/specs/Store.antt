-- What a store has at each home, and what it had there before the change that is not kept yet.
use Rattle.std.specs.Prelude.{◌≡◌, ◌^◌, ℕ, true, false, List, Option, Some, None, IfSome, length, nat_lt, refl, if◌then◌else◌}
use Rattle.std.specs.Option.{ForSome, option_and_then}
use Rattle.page_store.specs.domain_base.Limits.{page_bytes}
use Rattle.page_store.specs.domain_base.declared.place.Home.{Home}
use Rattle.page_store.specs.Pages.{AreWhole as WholePages, Pages}
use Rattle.page_store.specs.sorted_sets.Homes.{number_of}
use Rattle.page_store.specs.sorted_sets.Rising.{value_at}
use Rattle.staged_pages.specs.declared.pages.StagedPages.{StagedPages}
use Rattle.staged_pages.specs.declared.slot.Change.{Change}
use Rattle.staged_pages.specs.declared.slot.Change.TheVariants.{Same, Rewritten, Added, Forgotten, Passed}
use Rattle.staged_pages.specs.declared.slot.Slot.{Slot}
use Rattle.staged_pages.specs.declared.slot.Slot.TheVariants.{Taken, Vacant}
use Rattle.staged_pages.specs.Slots.{AreWhole, after, page_before, page_now}
use Rattle.staged_pages.specs.Staged.{AreSlots, pages_in}

-- what a store has at each home, with the change
abbrev pub pages_of : StagedPages → Pages
pages_of store = pages_in page_now store.entries.items

-- what it had there before the change that is not kept yet
abbrev pub before_of : StagedPages → Pages
before_of store = pages_in page_before store.entries.items

-- the homes that the change has touched
abbrev pub changed_in : StagedPages → List Home
changed_in store = store.changed.items

if_some : (found : Option Slot) → ForSome found AreWhole
    → IfSome (option_and_then page_now found) (λ page. length page ≡ page_bytes)
if_some None whole = tt
if_some (Some slot) whole = of_slot slot (whole slot refl)
  where
    of_change : (change : Change) (page : List ℕ) → length page ≡ page_bytes
        → IfSome (after change page) (λ page. length page ≡ page_bytes)
    of_change Same page is = is
    of_change Rewritten page is = is
    of_change Added page is = is
    of_change Forgotten page is = tt
    of_change Passed page is = tt

    of_slot : (slot : Slot) → AreWhole slot
        → IfSome (page_now slot) (λ page. length page ≡ page_bytes)
    of_slot Vacant are = tt
    of_slot (Taken page other change) are = of_change change page are.page

-- each page has all its bytes
pub whole_pages : (entries : List (ℕ × Slot)) (changed : List Home) → AreSlots entries changed
    → WholePages (pages_in page_now entries)
whole_pages entries changed slots home =
    elim (nat_lt home.page (2 ^ 32)) as
    (λ b. IfSome (option_and_then page_now (if b then value_at entries (number_of home) else None))
    (λ page. length page ≡ page_bytes)) [
      | true ↦ if_some _ (slots.whole (number_of home))
      | false ↦ tt
    ]

-- for how many homes more there is room
abbrev pub room_of : StagedPages → ℕ
room_of store = length store.spare.items
