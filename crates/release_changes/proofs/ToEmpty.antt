-- What may be emptied of memory, or that nothing may be.
use Rattle.std.proofs.Common.{◌≡◌, ◌∙◌, ◌<◌, ◌≤◌, ℕ, zero, suc, Bool, true, false, MatchBool, List, [], ◌∷◌, Option, Some, None, is_some, inl, inr, length, slice_get, slice_set, refl, sym, ap, subst, arith, ⊎_elim, true≢false}
use Rattle.std.proofs.Math.Logic.{∥∥₁_map}
use Rattle.std.proofs.lemmas.Bool.{cases_lt}
use Rattle.std.proofs.lemmas.Option.{slice_get_past}
use Rattle.std.specs.Option.{option_and_then}
use Rattle.domain_changes.specs.domain_base.declared.place.CellAt.{CellAt}
use Rattle.domain_changes.specs.domain_base.declared.place.Tag.{Tag}
use Rattle.domain_changes.specs.domain_base.declared.place.Home.{Home}
use Rattle.domain_changes.specs.fileset_table.Table.{IsTable, Table}
use Rattle.domain_changes.specs.fileset_table.declared.slot.SlotItem.{SlotItem}
use Rattle.domain_changes.specs.fileset_table.declared.slot.SlotItem.TheVariants as slot
use Rattle.domain_changes.specs.domain_layout.TagRules.{quota_of}
use Rattle.domain_changes.proofs.OfStoredSet.Stable.{one_number}
use Rattle.domain_changes.specs.domain_standing.Chains.{IsRemoved}
use Rattle.domain_changes.specs.domain_memory.Memory.{with_was}
use Rattle.domain_changes.specs.domain_memory.Staged.{MayGoBack}
use Rattle.domain_changes.specs.domain_memory.declared.memory.DomainMemory.{DomainMemory}
use Rattle.domain_changes.specs.domain_memory.declared.memory.ReplacedSlot.{ReplacedSlot}
use Rattle.domain_changes.specs.domain_memory.Going.{HasNoQuota, HasQuotaCells, IsUsedIn, MayEmpty, NoneToEmpty}
use Rattle.release_changes.specs.Emptying.{IsUsedOrBare}

-- ---- what has no quota cell

no_cell : (o : Option CellAt) → is_some o ≡ false → o ≡ None
no_cell None none = refl
no_cell (Some at) none = absurd (true≢false none)

module _ (memory : DomainMemory) (number : ℕ) (item : SlotItem) (first_tag : Option Home) (quota : Option CellAt) (there : slice_get memory.table.slots number ≡ Some item) (is : item ≡ slot.Removed first_tag quota) where
  pub goes_away : IsRemoved (slice_get memory.table.slots number)
  goes_away = subst IsRemoved (sym (there ∙ ap (λ (i : SlotItem). Some i) is)) tt

  pub may_be_freed : is_some quota ≡ false → memory.list.list.tag_pages ≡ [] → IsUsedOrBare memory number
  may_be_freed none listed = record {
    removed = goes_away;
    some = inr (record {
      none = ap (option_and_then quota_of) (there ∙ ap (λ (i : SlotItem). Some i) is) ∙ no_cell quota none;
      none_listed = listed;
    });
  }

-- ---- slots that there are

length_put : (slots : List SlotItem) (number : ℕ) (item : SlotItem) → length (slice_set slots number item) ≡ length slots
length_put [] number item = refl
length_put (s ∷ slots) zero item = refl
length_put (s ∷ slots) (suc number) item = ap suc (length_put slots number item)

table_was : (was : Option ReplacedSlot) (table : Table) → IsTable (with_was was table) → length table.slots ≡ 32
table_was None table is = is.whole
table_was (Some was) table is = sym (length_put table.slots was.number was.item) ∙ is.whole

table_whole : (memory : DomainMemory) → ∥ MayGoBack memory ∥₁ → length memory.table.slots ≡ 32
table_whole memory may = one_number _ _ (∥∥₁_map may (λ m. table_was memory.was memory.table m.table))

-- none may be if none of the 32 may be
pub none_may : (memory : DomainMemory) → ∥ MayGoBack memory ∥₁ → (n : ℕ) → 32 ≤ n → ((number : ℕ) → number < n → ¬ MayEmpty memory number) → NoneToEmpty memory
none_may memory may n far before number empties = ⊎_elim
    (λ low. before number low empties)
    (λ high. subst IsRemoved (slice_get_past memory.table.slots number (omega (arith, table_whole memory may, far, high))) empties.removed)
    (cases_lt number n)

-- ---- with quota cells, or without

module _ (memory : DomainMemory) (number : ℕ) where
  pub may_lose : (at : CellAt) × HasQuotaCells memory number at → MayEmpty memory number
  may_lose q = record { removed = q.1.removed; some = inr (inl q) }

  module _ (none : (at : CellAt) → ¬ HasQuotaCells memory number at) where
    pub either : (b : Bool) → MatchBool b (IsUsedOrBare memory number) (¬ IsUsedOrBare memory number) → MatchBool b (MayEmpty memory number) (¬ MayEmpty memory number)
    either true is = record { removed = is.removed; some = ⊎_elim (λ used. inl used) (λ bare. inr (inr bare)) is.some }
    either false is_not = λ may. is_not (record {
      removed = may.removed;
      some = ⊎_elim (λ used. inl used) (λ rest. ⊎_elim (λ q. absurd (none q.0 q.1)) (λ bare. inr bare) rest) may.some;
    })

    pub bare_left : MayEmpty memory number → ((tag : Tag) → ¬ IsUsedIn memory number tag) → HasNoQuota memory number
    bare_left may unused = ⊎_elim (λ used. absurd (unused used.0 used.1)) (λ rest. ⊎_elim (λ q. absurd (none q.0 q.1)) (λ bare. bare) rest) may.some
