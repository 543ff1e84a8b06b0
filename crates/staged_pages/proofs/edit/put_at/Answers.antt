use Rattle.std.proofs.Common.{◌≡◌, ◌∙◌, ◌⊎◌, inl, inr, ℕ, List, true, false, Option, IsSome, Some, None, set, refl, sym, ap, subst, arith}
use mathlib.Core.Bool.{false≢true}
use Rattle.page_store.specs.sorted_sets.Rising.{IsGapFor}
use Rattle.page_store.proofs.OfSortedSets.Search.{value_in_gap}
use Rattle.staged_pages.specs.declared.slot.Slot.{Slot}
use Rattle.std.proofs.lemmas.Option.{same_Some}
use Rattle.std.specs.Option.{option_and_then}
use Rattle.staged_pages.specs.Slots.{is_same, page_now}
use Rattle.staged_pages.specs.Staged.{AreSlots}
use Rattle.staged_pages.proofs.Edits.{edits_entry, has_room, its_slot, slots_with}
use Rattle.staged_pages.proofs.edit.put_at.Goals as goal

pub returns-in_default-clause-edits : goal.returns-in_default-clause-edits
returns-in_default-clause-edits c =
    let gap = subst (λ k. IsGapFor c.args.entries.now.items k c.in_default.field-0) c.home_number.ensures.value (subst (λ l. IsGapFor l c.home_number.result c.in_default.field-0) c.deref.ensures.value c.in_default.ensures.gap) in
    absurd (false≢true (rw (value_in_gap _ _ _ gap) at c.requires.there))

page_or_room : (found : Option (List ℕ)) (P : Type 0) → (found ≡ None → P) → IsSome found ⊎ P
page_or_room None P room = inr (room refl)
page_or_room (Some page) P room = inl refl

pub put-requires : goal.put-requires
put-requires c =
    let slot = its_slot _ _ c.requires.slots c.args.home _ c.deref.ensures.value _ c.home_number.ensures.value _ c.in-Ok.ensures.place c.index_mut.result.now c.index_mut.ensures.value in
    page_or_room _ (IsSome c.args.other) (subst (λ o. option_and_then page_now o ≡ None → IsSome c.args.other) slot c.requires.page_room)

pub push_reserved-requires : goal.push_reserved-requires
push_reserved-requires c =
    let room = has_room _ _ c.requires.slots c.args.home _ c.deref.ensures.value _ c.home_number.ensures.value _ c.in-Ok.ensures.place c.index.result.now c.index.ensures (sym c.is_same-is_new.ensures ∙ c.if-is_new.true) in
    omega (arith, room, c.requires.room)

pub returns-then-is_new-clause-edits : goal.returns-then-is_new-clause-edits
returns-then-is_new-clause-edits c = edits_entry _ _ c.requires.slots c.args.home _ c.deref.ensures.value _ c.home_number.ensures.value _ c.in-Ok.ensures.place c.index_mut.result.now c.index_mut.ensures.value c.put.new.self (Some c.args.page) c.put.ensures.page c.put.ensures.before

pub returns-then-is_new-clause-slots : goal.returns-then-is_new-clause-slots
returns-then-is_new-clause-slots c =
    let slot = its_slot _ _ c.requires.slots c.args.home _ c.deref.ensures.value _ c.home_number.ensures.value _ c.in-Ok.ensures.place in
    let one = same_Some _ _ (sym (slot c.index.result.now c.index.ensures) ∙ slot c.index_mut.result.now c.index_mut.ensures.value) in
    let says = ap (λ (s : Slot). is_same s) one in
    let kept = slots_with _ _ c.requires.slots c.args.home _ c.deref.ensures.value _ c.home_number.ensures.value _ c.in-Ok.ensures.place c.index_mut.result.now c.index_mut.ensures.value c.put.new.self true (sym c.if-is_new.true ∙ c.is_same-is_new.ensures ∙ says) c.home_number.ensures.width c.put.ensures.changed c.put.ensures.whole in
    subst (λ l. AreSlots (set c.args.entries.now.items c.in-Ok.place (c.index_mut.result.now.0, c.put.new.self)) l) (sym c.push_reserved.ensures.items) kept

pub returns-else-is_new-clause-edits : goal.returns-else-is_new-clause-edits
returns-else-is_new-clause-edits c = edits_entry _ _ c.requires.slots c.args.home _ c.deref.ensures.value _ c.home_number.ensures.value _ c.in-Ok.ensures.place c.index_mut.result.now c.index_mut.ensures.value c.put.new.self (Some c.args.page) c.put.ensures.page c.put.ensures.before

pub returns-else-is_new-clause-slots : goal.returns-else-is_new-clause-slots
returns-else-is_new-clause-slots c =
    let slot = its_slot _ _ c.requires.slots c.args.home _ c.deref.ensures.value _ c.home_number.ensures.value _ c.in-Ok.ensures.place in
    let one = same_Some _ _ (sym (slot c.index.result.now c.index.ensures) ∙ slot c.index_mut.result.now c.index_mut.ensures.value) in
    let says = ap (λ (s : Slot). is_same s) one in
    let kept = slots_with _ _ c.requires.slots c.args.home _ c.deref.ensures.value _ c.home_number.ensures.value _ c.in-Ok.ensures.place c.index_mut.result.now c.index_mut.ensures.value c.put.new.self false (sym c.if-is_new.false ∙ c.is_same-is_new.ensures ∙ says) c.home_number.ensures.width c.put.ensures.changed c.put.ensures.whole in
    kept
