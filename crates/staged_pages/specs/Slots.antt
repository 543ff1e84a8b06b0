-- A page, and what stood in its place before a change.
use Rattle.std.specs.Prelude.{◌≡◌, ℕ, Bool, true, false, List, Option, Some, None, length}
use Rattle.page_store.specs.domain_base.Limits.{page_bytes}
use Rattle.staged_pages.specs.declared.slot.Change.{Change}
use Rattle.staged_pages.specs.declared.slot.Change.TheVariants.{Same, Rewritten, Added, Forgotten, Passed}
use Rattle.staged_pages.specs.declared.slot.Slot.{Slot}
use Rattle.staged_pages.specs.declared.slot.Slot.TheVariants.{Taken, Vacant}

-- the page that stands there after a change
abbrev pub after : Change → List ℕ → Option (List ℕ)
after Same page = Some page
after Rewritten page = Some page
after Added page = Some page
after Forgotten page = None
after Passed page = None

-- the page that stood there before
abbrev pub before : Change → List ℕ → List ℕ → Option (List ℕ)
before Same page other = Some page
before Rewritten page other = Some other
before Added page other = None
before Forgotten page other = Some other
before Passed page other = None

abbrev pub stays : Change → Bool
stays Same = true
stays Rewritten = false
stays Added = false
stays Forgotten = false
stays Passed = false

-- what stands at the home of a slot now
abbrev pub page_now : Slot → Option (List ℕ)
page_now Vacant = None
page_now (Taken page other change) = after change page

-- what stood there when pages were last kept
abbrev pub page_before : Slot → Option (List ℕ)
page_before Vacant = None
page_before (Taken page other change) = before change page other

-- nothing has changed
abbrev pub is_same : Slot → Bool
is_same Vacant = true
is_same (Taken page other change) = stays change

-- how many bytes its page has, and the other one; a vacant slot lacks none
abbrev pub page_length : Slot → ℕ
page_length Vacant = page_bytes
page_length (Taken page other change) = length page

abbrev pub other_length : Slot → ℕ
other_length Vacant = page_bytes
other_length (Taken page other change) = length other

-- both pages have all their bytes
pub record AreWhole (slot : Slot) : Type 0 where
  pub page : page_length slot ≡ page_bytes
  pub other : other_length slot ≡ page_bytes
