-- Slots that are read one after the other.
use Rattle.std.proofs.Common.{◌≡◌, ◌∙◌, ◌⊎◌, inl, inr, ℕ, true, zero, suc, ◌+◌, ◌<◌, Option, Some, None, List, [], ◌∷◌, ◌++◌, length, slice_get, refl, sym, ap, subst, arith, length-append}
use Rattle.std.proofs.lemmas.Bool.{cases_lt}
use Rattle.std.specs.Option.{IsSomeAnd}
use Rattle.fileset_table.specs.declared.slot.SlotItem.{SlotItem}
use Rattle.fileset_table.specs.declared.slot.TableFault.{TableFault}
use Rattle.fileset_table.specs.declared.slot.TableFault.TheVariants.{Bad, OutOfMemory}
use Rattle.fileset_table.specs.Reading.{Fails}
use Rattle.metadata_cells.specs.domain_base.declared.place.CellAt.{CellAt}
use Rattle.metadata_cells.specs.cell_records.Fields.{number_at}
use Rattle.metadata_cells.specs.Cell.{IsAddress}
use Rattle.word_forms.specs.Forms.{is_fileset_name}
use Rattle.std.specs.List.{AllByRecursion}
use Rattle.fileset_table.specs.declared.slot.FilesetEntry.{FilesetEntry}
use Rattle.fileset_table.specs.declared.slot.SlotItem.TheVariants.{Free, Original, Clone, Removed}
use Rattle.fileset_table.specs.Slot.{HasQuota, IsEntry, IsSlot}
use Rattle.fileset_table.specs.Table.{IsAllowed, IsCellNumber}
use Rattle.fileset_table.specs.Page.{AreSlots, IsTablePage, slot_bytes}

-- the slots that were read so far
pub record ReadSo (page : List ℕ) (number : ℕ) (slots : List SlotItem) : Type 0 where
  pub counted : length slots ≡ number
  pub each : (k : ℕ) → k < number → IsSomeAnd (slice_get slots k) (IsSlot (slot_bytes page k))

get_before : (xs : List SlotItem) (y : SlotItem) (k : ℕ) → k < length xs → slice_get (xs ++ y ∷ []) k ≡ slice_get xs k
get_before [] y k less = absurd (omega (arith, less))
get_before (x ∷ xs) y zero less = refl
get_before (x ∷ xs) y (suc k) less = get_before xs y k (omega (arith, less))

get_last : (xs : List SlotItem) (y : SlotItem) → slice_get (xs ++ y ∷ []) (length xs) ≡ Some y
get_last [] y = refl
get_last (x ∷ xs) y = get_last xs y

pub read_more : (page : List ℕ) (number : ℕ) (old new : List SlotItem) (item : SlotItem) → ReadSo page number old → IsSlot (slot_bytes page number) item → new ≡ old ++ item ∷ [] → ReadSo page (number + 1) new
read_more page number old new item so is pushed = record {
  counted = omega (arith, ap length pushed, length-append old (item ∷ []), so.counted);
  each = λ k less. subst (λ (xs : List SlotItem). IsSomeAnd (slice_get xs k) (IsSlot (slot_bytes page k))) (sym pushed) (by_order k (before k number less));
}
  where
    before : (k n : ℕ) → k < n + 1 → (k < n) ⊎ (k ≡ n)
    before k n less = elim (cases_lt k n) [ inl smaller ↦ inl smaller | inr not_less ↦ inr (omega (arith, less, not_less)) ]

    by_order : (k : ℕ) → (k < number) ⊎ (k ≡ number) → IsSomeAnd (slice_get (old ++ item ∷ []) k) (IsSlot (slot_bytes page k))
    by_order k (inl smaller) = subst (λ o. IsSomeAnd o (IsSlot (slot_bytes page k))) (sym (get_before old item k (omega (arith, smaller, so.counted)))) (so.each k smaller)
    by_order k (inr same) =
        subst (λ o. IsSomeAnd o (IsSlot (slot_bytes page k))) (sym (ap (slice_get (old ++ item ∷ [])) (same ∙ sym so.counted) ∙ get_last old item))
        (subst (λ n. IsSlot (slot_bytes page n) item) (sym same) is)

-- where one slot can't be read, the slots can't
pub no_slots : (page : List ℕ) (number : ℕ) (fault : TableFault) → number < 32 → Fails (IsSlot (slot_bytes page number)) fault → Fails (AreSlots page) fault
no_slots page number Bad within none = λ slots are. refuted (slice_get slots number) (are.said number within)
  where
    refuted : (o : Option SlotItem) → IsSomeAnd o (IsSlot (slot_bytes page number)) → ⊥
    refuted None is = absurd is
    refuted (Some item) is = none item is
no_slots page number OutOfMemory within none = tt

-- where the slots can't be read, no table can
pub no_table_there : (page : List ℕ) (fault : TableFault) → Fails (AreSlots page) fault → Fails (IsTablePage page) fault
no_table_there page Bad none = λ t is. none t.slots is.slots
no_table_there page OutOfMemory none = tt

quota_allowed : (bytes : List ℕ) (quota : Option CellAt) → HasQuota bytes quota → IsCellNumber quota
quota_allowed bytes None is = tt
quota_allowed bytes (Some at) is = cell_below (number_at 1 82 bytes) (number_at 1 83 bytes) (number_at 4 84 bytes) at is.address
  where
    cell_below : (v c p : ℕ) (at : CellAt) → IsAddress v c p (Some at) → at.cell < 28
    cell_below v c p at is = let e : at.cell ≡ c = ap (λ (x : CellAt). x.cell) is.1 in omega (arith, e, is.0.2)

entry_allowed : (bytes : List ℕ) (entry : FilesetEntry) → IsEntry bytes entry → (is_fileset_name entry.name ≡ true) × IsCellNumber entry.quota
entry_allowed bytes entry is = (is.named.form, quota_allowed bytes entry.quota is.quota)

slot_allowed : (bytes : List ℕ) (item : SlotItem) → IsSlot bytes item → IsAllowed item
slot_allowed bytes Free is = tt
slot_allowed bytes (Original e) is = entry_allowed bytes e is.2
slot_allowed bytes (Clone o n e) is = entry_allowed bytes e is.3
slot_allowed bytes (Removed t q) is = quota_allowed bytes q is.2

each_allowed : (slots : List SlotItem) → ((k : ℕ) → k < length slots → IsSomeAnd (slice_get slots k) IsAllowed) → AllByRecursion IsAllowed slots
each_allowed [] each = tt
each_allowed (s ∷ ss) each = (each 0 (omega arith), each_allowed ss (λ k less. each (suc k) (omega (arith, less))))

some_allowed : (bytes : List ℕ) (o : Option SlotItem) → IsSomeAnd o (IsSlot bytes) → IsSomeAnd o IsAllowed
some_allowed bytes None is = is
some_allowed bytes (Some item) is = slot_allowed bytes item is

pub slots_allowed : (page : List ℕ) (slots : List SlotItem) → AreSlots page slots → AllByRecursion IsAllowed slots
slots_allowed page slots are = each_allowed slots (λ k less. some_allowed (slot_bytes page k) (slice_get slots k) (are.said k (omega (arith, less, are.whole))))
