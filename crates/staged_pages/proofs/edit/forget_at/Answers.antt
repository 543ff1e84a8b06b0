use Rattle.std.proofs.Common.{◌≡◌, ◌∙◌, true, false, not, Option, Some, None, Bor, IsSome, is_some, refl, set, sym, ap, subst, arith}
use mathlib.Core.Bool.{false≢true}
use Rattle.page_store.specs.sorted_sets.Rising.{IsGapFor}
use Rattle.page_store.proofs.OfSortedSets.Search.{value_in_gap}
use Rattle.staged_pages.specs.declared.slot.Slot.{Slot}
use Rattle.std.proofs.lemmas.Option.{same_Some}
use Rattle.std.specs.Option.{option_and_then, option_copied}
use Rattle.staged_pages.specs.Slots.{is_same, page_now}
use Rattle.staged_pages.specs.Staged.{AreSlots}
use Rattle.staged_pages.proofs.Edits.{edits_entry, edits_none, has_room, its_slot, slots_with}
use Rattle.staged_pages.proofs.edit.forget_at.Goals as goal

pub returns-in_default-clause-edits : goal.returns-in_default-clause-edits
returns-in_default-clause-edits c =
    let gap = subst (λ k. IsGapFor c.args.entries.now.items k c.in_default.field-0) c.home_number.ensures.value (subst (λ l. IsGapFor l c.home_number.result c.in_default.field-0) c.deref.ensures.value c.in_default.ensures.gap) in
    edits_none _ _ (ap (option_and_then page_now) (value_in_gap _ _ _ gap))

none_copied : {X : Type 0} (o : Option (Bor X)) → is_some o ≡ false → option_copied o ≡ None
none_copied None none = refl
none_copied (Some x) none = absurd (false≢true (sym none))

some_copied : {X : Type 0} (o : Option (Bor X)) → is_some o ≡ true → IsSome (option_copied o)
some_copied None some = absurd (false≢true some)
some_copied (Some x) some = refl

pub returns-then-is_none-clause-edits : goal.returns-then-is_none-clause-edits
returns-then-is_none-clause-edits c =
    let slot = its_slot _ _ c.requires.slots c.args.home _ c.deref.ensures.value _ c.home_number.ensures.value _ c.in-Ok.ensures.place c.index.result.now c.index.ensures in
    edits_none _ _ (ap (option_and_then page_now) slot ∙ sym c.page.ensures ∙ none_copied c.page.result (c.is_none.ensures ∙ ap not c.if-is_none.true))

pub forget-requires : goal.forget-requires
forget-requires c =
    let slot = its_slot _ _ c.requires.slots c.args.home _ c.deref.ensures.value _ c.home_number.ensures.value _ c.in-Ok.ensures.place in
    let one = same_Some _ _ (sym (slot c.index.result.now c.index.ensures) ∙ slot c.index_mut.result.now c.index_mut.ensures.value) in
    let there = subst (λ o. IsSome o) c.page.ensures (some_copied c.page.result (c.is_none.ensures ∙ ap not c.if-is_none.false)) in
    subst (λ (s : Slot). IsSome (page_now s)) one there

pub push_reserved-requires : goal.push_reserved-requires
push_reserved-requires c =
    let room = has_room _ _ c.requires.slots c.args.home _ c.deref.ensures.value _ c.home_number.ensures.value _ c.in-Ok.ensures.place c.index.result.now c.index.ensures (sym c.is_same-is_new.ensures ∙ c.if-is_new.true) in
    omega (arith, room, c.requires.room)

pub returns-then-is_new-clause-edits : goal.returns-then-is_new-clause-edits
returns-then-is_new-clause-edits c = edits_entry _ _ c.requires.slots c.args.home _ c.deref.ensures.value _ c.home_number.ensures.value _ c.in-Ok.ensures.place c.index_mut.result.now c.index_mut.ensures.value c.forget.new.self None c.forget.ensures.page c.forget.ensures.before

pub returns-then-is_new-clause-slots : goal.returns-then-is_new-clause-slots
returns-then-is_new-clause-slots c =
    let slot = its_slot _ _ c.requires.slots c.args.home _ c.deref.ensures.value _ c.home_number.ensures.value _ c.in-Ok.ensures.place in
    let one = same_Some _ _ (sym (slot c.index.result.now c.index.ensures) ∙ slot c.index_mut.result.now c.index_mut.ensures.value) in
    let says = ap (λ (s : Slot). is_same s) one in
    let kept = slots_with _ _ c.requires.slots c.args.home _ c.deref.ensures.value _ c.home_number.ensures.value _ c.in-Ok.ensures.place c.index_mut.result.now c.index_mut.ensures.value c.forget.new.self true (sym c.if-is_new.true ∙ c.is_same-is_new.ensures ∙ says) c.home_number.ensures.width c.forget.ensures.changed c.forget.ensures.whole in
    subst (λ l. AreSlots (set c.args.entries.now.items c.in-Ok.place (c.index_mut.result.now.0, c.forget.new.self)) l) (sym c.push_reserved.ensures.items) kept

pub returns-else-is_new-clause-edits : goal.returns-else-is_new-clause-edits
returns-else-is_new-clause-edits c = edits_entry _ _ c.requires.slots c.args.home _ c.deref.ensures.value _ c.home_number.ensures.value _ c.in-Ok.ensures.place c.index_mut.result.now c.index_mut.ensures.value c.forget.new.self None c.forget.ensures.page c.forget.ensures.before

pub returns-else-is_new-clause-slots : goal.returns-else-is_new-clause-slots
returns-else-is_new-clause-slots c =
    let slot = its_slot _ _ c.requires.slots c.args.home _ c.deref.ensures.value _ c.home_number.ensures.value _ c.in-Ok.ensures.place in
    let one = same_Some _ _ (sym (slot c.index.result.now c.index.ensures) ∙ slot c.index_mut.result.now c.index_mut.ensures.value) in
    let says = ap (λ (s : Slot). is_same s) one in
    let kept = slots_with _ _ c.requires.slots c.args.home _ c.deref.ensures.value _ c.home_number.ensures.value _ c.in-Ok.ensures.place c.index_mut.result.now c.index_mut.ensures.value c.forget.new.self false (sym c.if-is_new.false ∙ c.is_same-is_new.ensures ∙ says) c.home_number.ensures.width c.forget.ensures.changed c.forget.ensures.whole in
    kept
