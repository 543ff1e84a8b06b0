-- What is in the slots of a domain's memory once one of them is set.
use Rattle.std.proofs.Common.{◌≡◌, ◌<◌, ℕ, zero, suc, List, [], ◌∷◌, Option, length, slice_set, refl, ap, arith}
use Rattle.domain_memory.specs.Slots.{slot_in}
use Rattle.domain_memory.specs.declared.slots.SlotFiles.{SlotFiles}

-- the slot has it
pub slot_set : (slots : List (Option SlotFiles)) (number : ℕ) (slot : Option SlotFiles) → number < length slots → slot_in (slice_set slots number slot) number ≡ slot
slot_set [] number slot within = absurd (omega (arith, within))
slot_set (s ∷ slots) zero slot within = refl
slot_set (s ∷ slots) (suc number) slot within = slot_set slots number slot (omega (arith, within))

-- and the others have what they had
pub slot_other : (slots : List (Option SlotFiles)) (number n : ℕ) (slot : Option SlotFiles) → ¬ n ≡ number → slot_in (slice_set slots number slot) n ≡ slot_in slots n
slot_other [] number n slot differ = refl
slot_other (s ∷ slots) zero zero slot differ = absurd (differ refl)
slot_other (s ∷ slots) zero (suc n) slot differ = refl
slot_other (s ∷ slots) (suc number) zero slot differ = refl
slot_other (s ∷ slots) (suc number) (suc n) slot differ = slot_other slots number n slot (λ same. differ (ap suc same))

pub length_set : (slots : List (Option SlotFiles)) (number : ℕ) (slot : Option SlotFiles) → length (slice_set slots number slot) ≡ length slots
length_set [] number slot = refl
length_set (s ∷ slots) zero slot = refl
length_set (s ∷ slots) (suc number) slot = ap suc (length_set slots number slot)
