-- Slots that are changed one after the other.
use Rattle.std.proofs.Common.{◌≡◌, ◌∙◌, ℕ, zero, suc, ◌+◌, ◌<◌, ◌≤◌, List, [], ◌∷◌, length, get_or, set, Option, None, refl, sym, subst, arith, ⊎_elim}
use Rattle.std.proofs.lemmas.Bool.{cases_eq, cases_lt}
use Rattle.std.proofs.lemmas.List.{length-set, get_or-set_same, get_or-set_other}
use Rattle.domain_memory.specs.Slots.{ChangesSlot, ChangesSlots, slot_in}
use Rattle.domain_memory.specs.declared.slots.SlotFiles.{SlotFiles}

pub slot_at : (slots : List (Option SlotFiles)) (k : ℕ) → slot_in slots k ≡ get_or slots k None
slot_at [] k = refl
slot_at (s ∷ slots) zero = refl
slot_at (s ∷ slots) (suc k) = slot_at slots k

past : (slots : List (Option SlotFiles)) (k : ℕ) → length slots ≤ k → get_or slots k None ≡ None
past [] k far = refl
past (s ∷ slots) zero far = absurd (omega (arith, far))
past (s ∷ slots) (suc k) far = past slots k (omega (arith, far))

-- the first i slots are changed, and the others are as they were
pub record ChangesPart (change : SlotFiles → SlotFiles → Type 0) (old new : List (Option SlotFiles)) (i : ℕ) : Type 0 where
  pub len : length new ≡ length old
  pub done : (k : ℕ) → k < i → ChangesSlot change (get_or old k None) (get_or new k None)
  pub others : (k : ℕ) → i ≤ k → get_or new k None ≡ get_or old k None

module _ (change : SlotFiles → SlotFiles → Type 0) where
  pub none_changed : (old : List (Option SlotFiles)) → ChangesPart change old old 0
  none_changed old = record { len = refl; done = λ k below. absurd (omega (arith, below)); others = λ k from. refl }

  pub more_changed : (old new : List (Option SlotFiles)) (i : ℕ) (slot : Option SlotFiles) → ChangesPart change old new i → i < length new → ChangesSlot change (get_or new i None) slot → ChangesPart change old (set new i slot) (i + 1)
  more_changed old new i slot part within is = record {
    len = length-set new i slot ∙ part.len;
    done = λ k below. ⊎_elim
        (λ here. subst (λ x. ChangesSlot change (get_or old x None) (get_or (set new i slot) x None)) (sym here)
        (subst (ChangesSlot change (get_or old i None)) (sym (get_or-set_same new i slot None within)) (subst (λ o. ChangesSlot change o slot) (part.others i (omega arith)) is)))
        (λ apart. subst (ChangesSlot change (get_or old k None)) (sym (get_or-set_other new i k slot None apart)) (part.done k (omega (arith, below, apart))))
        (cases_eq k i);
    others = λ k after. get_or-set_other new i k slot None (λ same. absurd (omega (arith, after, same))) ∙ part.others k (omega (arith, after));
  }

  pub all_changed : (old new : List (Option SlotFiles)) (i : ℕ) → ChangesPart change old new i → length new ≤ i → ChangesSlots change old new
  all_changed old new i part far = record {
    count = part.len;
    each = λ k. subst (λ o. ChangesSlot change o (slot_in new k)) (sym (slot_at old k)) (subst (ChangesSlot change (get_or old k None)) (sym (slot_at new k)) (at k));
  }
    where
      at : (k : ℕ) → ChangesSlot change (get_or old k None) (get_or new k None)
      at k = ⊎_elim
          (λ below. part.done k below)
          (λ from. subst (λ o. ChangesSlot change o (get_or new k None)) (sym (past old k (omega (arith, from, far, part.len)))) (past new k (omega (arith, from, far))))
          (cases_lt k i)
