use Rattle.std.proofs.Common.{◌≡◌, None, slice_get, refl, arith}
use Rattle.std.proofs.lemmas.Option.{slice_get_past}
use Rattle.attached_domain.specs.domain_standing.Domain.{layout_of}
use Rattle.attached_domain.specs.domain_memory.Staged.{staged_in}
use Rattle.domain_attaching.proofs.TablesMarked.{all_slots, no_slots, one_slot_more}
use Rattle.domain_attaching.proofs.tables.mark_slots.Goals as goal

pub loop-number-init : goal.loop-number-init
loop-number-init c = no_slots (layout_of (staged_in c.args.memory.now)) c.args.vol c.args.marks.now

pub loop-number-preserved : goal.loop-number-preserved
loop-number-preserved c = one_slot_more (layout_of (staged_in c.args.memory.now)) c.args.vol c.loop-number.number c.args.marks.now c.loop-number.marks c.mark_slot.new.marks c.loop-number.invariant c.mark_slot.ensures

pub returns : goal.returns
returns c =
    all_slots (layout_of (staged_in c.args.memory.now)) c.args.vol c.loop-number.number c.args.marks.now c.loop-number.marks
    (λ number past.
    let count = c.len-number-end.ensures in
    let end = c.loop-number-test.false in
    let none : slice_get c.args.memory.now.slots.items number ≡ None = slice_get_past c.args.memory.now.slots.items number (omega (arith, past, count, end)) in
    rw none refl)
    c.loop-number.invariant
