-- Whether no two slots share something, decided from the first slot on.
use Rattle.std.proofs.Common.{◌≡◌, ◌∙◌, ◌-◌, ◌<◌, ◌≤◌, Bool, true, false, not, ◌&&◌, List, [], ◌∷◌, length, take, drop, get_or, refl, sym, ap, subst, arith}
use Rattle.std.proofs.lemmas.Bool.{and_parts, true≢false}
use Rattle.std.proofs.lemmas.List.{take_all}
use Rattle.std.specs.Bool.{IsTrue}
use Rattle.std.specs.List.{AllByRecursion, IsDistinct, list_all}
use Rattle.fileset_table.specs.declared.slot.SlotItem.{SlotItem}

module _ (share : SlotItem → SlotItem → Bool) where
  abbrev pub Decides : Bool → List SlotItem → Type 0
  Decides r slots = (IsTrue r → IsDistinct share slots) × (IsDistinct share slots → IsTrue r)

  abbrev pub apart_from : SlotItem → List SlotItem → Bool
  apart_from x ys = list_all (λ y. not (share x y)) ys

  not_true : (b : Bool) → not b ≡ true → b ≡ false
  not_true true is = absurd (true≢false (sym is))
  not_true false is = refl

  each_apart : (x : SlotItem) (ys : List SlotItem) → apart_from x ys ≡ true → AllByRecursion (λ y. share x y ≡ false) ys
  each_apart x [] is = tt
  each_apart x (y ∷ ys) is =
      let parts = and_parts (not (share x y)) (apart_from x ys) is in
      (not_true (share x y) parts.0, each_apart x ys parts.1)

  apart_each : (x : SlotItem) (ys : List SlotItem) → AllByRecursion (λ y. share x y ≡ false) ys → apart_from x ys ≡ true
  apart_each x [] are = refl
  apart_each x (y ∷ ys) are = ap (λ b. not b && apart_from x ys) are.0 ∙ apart_each x ys are.1

  slots_are : (slots : List SlotItem) (x : SlotItem) → 1 ≤ length slots → x ≡ get_or slots 0 x → slots ≡ x ∷ take (length slots - 1) (drop 1 slots)
  slots_are [] x some is = absurd (omega (arith, some))
  slots_are (s ∷ ss) x some is = λ i. sym is i ∷ sym (take_all (length (s ∷ ss) - 1) ss (omega arith)) i

  pub none_case : (slots : List SlotItem) → length slots < 1 → Decides true slots
  unfolding IsDistinct
  none_case [] few = (λ is. tt, λ is. refl)
  none_case (s ∷ ss) few = absurd (omega (arith, few))

  pub then_case : (slots : List SlotItem) (x : SlotItem) → 1 ≤ length slots → x ≡ get_or slots 0 x → apart_from x (take (length slots - 1) (drop 1 slots)) ≡ true
      → (r : Bool) → Decides r (take (length slots - 1) (drop 1 slots)) → Decides r slots
  unfolding IsDistinct
  then_case slots x some is apart r rest =
      let behind = take (length slots - 1) (drop 1 slots) in
      subst (Decides r) (sym (slots_are slots x some is)) (λ yes. (each_apart x behind apart, rest.0 yes), λ all. rest.1 all.1)

  pub else_case : (slots : List SlotItem) (x : SlotItem) → 1 ≤ length slots → x ≡ get_or slots 0 x → (r : Bool) → r ≡ apart_from x (take (length slots - 1) (drop 1 slots)) → r ≡ false → Decides r slots
  unfolding IsDistinct
  else_case slots x some is r apart fails =
      let behind = take (length slots - 1) (drop 1 slots) in
      subst (Decides r) (sym (slots_are slots x some is))
      (λ yes. absurd (true≢false (sym yes ∙ fails)), λ all. apart ∙ apart_each x behind all.0)
