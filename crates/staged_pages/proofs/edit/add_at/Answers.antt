use Rattle.std.proofs.Common.{rules, ◌≡◌, ◌∙◌, Some, None, sym, subst, arith}
use Rattle.std.specs.List.{insert}
use Rattle.page_store.specs.sorted_sets.Homes.{number_of}
use Rattle.page_store.specs.sorted_sets.Rising.{IsPlaceOf}
use Rattle.page_store.proofs.OfSortedSets.Search.{value_at_place}
use Rattle.staged_pages.specs.declared.slot.Slot.{Slot}
use Rattle.staged_pages.specs.declared.slot.Slot.TheVariants.{Vacant}
use Rattle.staged_pages.specs.Staged.{AreSlots, EditsSlot}
use Rattle.staged_pages.proofs.Edits.{edits_new, slots_new}
use Rattle.staged_pages.proofs.edit.add_at.Goals as goal

none_some : (x : Slot) → None ≡ Some x → ⊥
none_some x is = grind arith

pub returns-in_default-clause-edits : goal.returns-in_default-clause-edits
returns-in_default-clause-edits c =
    let place = subst (λ k. IsPlaceOf c.args.entries.now.items k c.in_default.field-0) c.home_number-key.ensures.value (subst (λ l. IsPlaceOf l c.home_number-key.result c.in_default.field-0) c.deref.ensures.value c.in_default.ensures.place) in
    absurd (none_some _ (sym c.requires.none ∙ value_at_place _ _ _ place c.requires.slots.rising (0, Vacant)))

pub returns-in_default-clause-len : goal.returns-in_default-clause-len
returns-in_default-clause-len c =
    let place = subst (λ k. IsPlaceOf c.args.entries.now.items k c.in_default.field-0) c.home_number-key.ensures.value (subst (λ l. IsPlaceOf l c.home_number-key.result c.in_default.field-0) c.deref.ensures.value c.in_default.ensures.place) in
    absurd (none_some _ (sym c.requires.none ∙ value_at_place _ _ _ place c.requires.slots.rising (0, Vacant)))

pub returns-clause-edits : goal.returns-clause-edits
returns-clause-edits c =
    let items : c.insert.new.self.items ≡ insert c.args.entries.now.items c.in-Err.place (c.home_number-key.result, c.added.result) = search rules in
    subst (λ l. EditsSlot (number_of c.args.home) (Some c.args.page) c.args.entries.now.items l) (sym items) (edits_new _ _ c.requires.slots c.args.home _ c.deref.ensures.value _ c.home_number-key.ensures.value _ c.in-Err.ensures.gap c.added.result (Some c.args.page) c.added.ensures.page c.added.ensures.before)

pub returns-clause-slots : goal.returns-clause-slots
returns-clause-slots c =
    let items : c.insert.new.self.items ≡ insert c.args.entries.now.items c.in-Err.place (c.home_number-key.result, c.added.result) = search rules in
    subst (λ l. AreSlots l c.push_reserved.new.self.items) (sym items) (subst (λ l. AreSlots (insert c.args.entries.now.items c.in-Err.place (c.home_number-key.result, c.added.result)) l) (sym c.push_reserved.ensures.items) (slots_new _ _ c.requires.slots c.args.home _ c.deref.ensures.value _ c.home_number-key.ensures.value _ c.in-Err.ensures.gap c.added.result c.added.ensures.changed c.added.ensures.whole c.home_number-key.ensures.width))
