use Rattle.std.proofs.Common.{◌∙◌, ◌<◌, length, None, sym, subst, arith}
use Rattle.std.proofs.lemmas.List.{get_or_read, with_items_is}
use Rattle.domain_memory.specs.Slots.{ChangesSlot, ChangesSlots, IsKept}
use Rattle.domain_memory.proofs.SlotsChanged.{all_changed, more_changed, none_changed}
use Rattle.domain_memory.proofs.slots.keep_slots.Goals as goal

pub loop-slot-init : goal.loop-slot-init
loop-slot-init c = none_changed IsKept c.deref_mut-slot-items.result.now

pub loop-slot-preserved : goal.loop-slot-preserved
loop-slot-preserved c =
    let within : c.loop-slot.slot-index < length c.loop-slot.slot-items = omega (arith, c.loop-slot-test.true, c.loop-slot.auto.slot-items) in
    more_changed IsKept c.deref_mut-slot-items.result.now c.loop-slot.slot-items c.loop-slot.slot-index c.keep_slot.new.slot c.loop-slot.invariant within
    (subst (λ o. ChangesSlot IsKept o c.keep_slot.new.slot) (sym c.slot-item.is ∙ get_or_read c.loop-slot.slot-items c.loop-slot.slot-index c.slot-item.result within c.slot-item.is None) c.keep_slot.ensures)

pub returns : goal.returns
returns c =
    subst (ChangesSlots IsKept c.args.slots.now.items) (sym (with_items_is c.args.slots.now c.loop-slot.slot-items (c.loop-slot.invariant.len ∙ c.deref_mut-slot-items.ensures.len)))
    (subst (λ old. ChangesSlots IsKept old c.loop-slot.slot-items) c.deref_mut-slot-items.ensures.value
    (all_changed IsKept c.deref_mut-slot-items.result.now c.loop-slot.slot-items c.loop-slot.slot-index c.loop-slot.invariant (omega (arith, c.loop-slot-test.false, c.loop-slot.auto.slot-items))))
