use Rattle.std.proofs.Common.{◌∙◌, ◌<◌, length, None, IfSome, get_or, sym, ap, subst, arith}
use Rattle.std.proofs.lemmas.List.{get_or_read, with_items_is}
use Rattle.domain_memory.specs.Slots.{CanGoBack, ChangesSlot, ChangesSlots, IsTakenBack}
use Rattle.domain_memory.proofs.SlotsChanged.{all_changed, more_changed, none_changed, slot_at}
use Rattle.domain_memory.proofs.slots.take_back_slots.Goals as goal

pub loop-slot-init : goal.loop-slot-init
loop-slot-init c = none_changed IsTakenBack c.deref_mut-slot-items.result.now

pub take_back_slot-requires : goal.take_back_slot-requires
take_back_slot-requires c =
    let within : c.loop-slot.slot-index < length c.loop-slot.slot-items = omega (arith, c.loop-slot-test.true, c.loop-slot.auto.slot-items) in
    subst (λ o. IfSome o CanGoBack)
    (slot_at c.args.slots.now.items c.loop-slot.slot-index ∙ ap (λ l. get_or l c.loop-slot.slot-index None) (sym c.deref_mut-slot-items.ensures.value) ∙ sym (c.loop-slot.invariant.others c.loop-slot.slot-index (omega arith))
    ∙ sym (get_or_read c.loop-slot.slot-items c.loop-slot.slot-index c.slot-item.result within c.slot-item.is None) ∙ c.slot-item.is)
    (c.requires c.loop-slot.slot-index)

pub loop-slot-preserved : goal.loop-slot-preserved
loop-slot-preserved c =
    let within : c.loop-slot.slot-index < length c.loop-slot.slot-items = omega (arith, c.loop-slot-test.true, c.loop-slot.auto.slot-items) in
    more_changed IsTakenBack c.deref_mut-slot-items.result.now c.loop-slot.slot-items c.loop-slot.slot-index c.take_back_slot.new.slot c.loop-slot.invariant within
    (subst (λ o. ChangesSlot IsTakenBack o c.take_back_slot.new.slot) (sym c.slot-item.is ∙ get_or_read c.loop-slot.slot-items c.loop-slot.slot-index c.slot-item.result within c.slot-item.is None) c.take_back_slot.ensures)

pub returns : goal.returns
returns c =
    subst (ChangesSlots IsTakenBack c.args.slots.now.items) (sym (with_items_is c.args.slots.now c.loop-slot.slot-items (c.loop-slot.invariant.len ∙ c.deref_mut-slot-items.ensures.len)))
    (subst (λ old. ChangesSlots IsTakenBack old c.loop-slot.slot-items) c.deref_mut-slot-items.ensures.value
    (all_changed IsTakenBack c.deref_mut-slot-items.result.now c.loop-slot.slot-items c.loop-slot.slot-index c.loop-slot.invariant (omega (arith, c.loop-slot-test.false, c.loop-slot.auto.slot-items))))
