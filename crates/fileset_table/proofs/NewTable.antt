-- A table of free slots.
use Rattle.std.proofs.Common.{◌≡◌, ◌∙◌, Bool, true, false, ◌&&◌, List, [], ◌∷◌, ◌++◌, length, count_by, refl, sym, ap, subst, arith}
use Rattle.std.specs.List.{AllByRecursion, IsDistinct, list_all}
use Rattle.fileset_table.specs.declared.slot.SlotItem.{SlotItem}
use Rattle.fileset_table.specs.declared.slot.SlotItem.TheVariants.{Free}
use Rattle.fileset_table.specs.Table.{IsAllowed, IsTable, is_fileset, leads_to_original, share_name, share_original}

abbrev pub AreFree : List SlotItem → Type 0
AreFree slots = AllByRecursion (λ item. item ≡ Free) slots

pub free_more : (slots : List SlotItem) (item : SlotItem) → AreFree slots → item ≡ Free → AreFree (slots ++ item ∷ [])
free_more [] item are is = (is, tt)
free_more (s ∷ ss) item are is = (are.0, free_more ss item are.1 is)

allowed : (slots : List SlotItem) → AreFree slots → AllByRecursion IsAllowed slots
allowed [] are = tt
allowed (s ∷ ss) are = (subst IsAllowed (sym are.0) tt, allowed ss are.1)

none_counted : (slots : List SlotItem) → AreFree slots → count_by is_fileset slots ≡ 0
none_counted [] are = refl
none_counted (s ∷ ss) are = ap (λ x. count_by is_fileset (x ∷ ss)) are.0 ∙ none_counted ss are.1

all_lead : (all slots : List SlotItem) → AreFree slots → list_all (leads_to_original all) slots ≡ true
all_lead all [] are = refl
all_lead all (s ∷ ss) are = ap (λ x. leads_to_original all x && list_all (leads_to_original all) ss) are.0 ∙ all_lead all ss are.1

none_after : (shares : SlotItem → SlotItem → Bool) → ((y : SlotItem) → shares Free y ≡ false) → (x : SlotItem) → x ≡ Free → (slots : List SlotItem) → AllByRecursion (λ y. shares x y ≡ false) slots
none_after shares none x is [] = tt
none_after shares none x is (s ∷ ss) = (ap (λ z. shares z s) is ∙ none s, none_after shares none x is ss)

distinct : (shares : SlotItem → SlotItem → Bool) → ((y : SlotItem) → shares Free y ≡ false) → (slots : List SlotItem) → AreFree slots → IsDistinct shares slots
unfolding IsDistinct
distinct shares none [] are = tt
distinct shares none (s ∷ ss) are = (none_after shares none s are.0 ss, distinct shares none ss are.1)

pub new_is_table : (slots : List SlotItem) → length slots ≡ 32 → AreFree slots → IsTable (record { slots = slots; made = 0 })
new_is_table slots whole are = record {
  whole = whole;
  allowed = allowed slots are;
  together = record {
    few = let e = none_counted slots are in omega (arith, e);
    names = distinct share_name (λ y. refl) slots are;
    originals = all_lead slots slots are;
    clones = distinct share_original (λ y. refl) slots are;
  };
  count = omega arith;
}
