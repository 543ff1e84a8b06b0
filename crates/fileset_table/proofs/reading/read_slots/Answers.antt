use Rattle.std.proofs.Common.{◌≡◌, ◌+◌, ◌-◌, ◌*◌, ◌<◌, arith, drop, subst, take}
use Rattle.std.proofs.lemmas.Result.{err_from_is_err_and}
use Rattle.fileset_table.specs.Reading.{Fails}
use Rattle.fileset_table.specs.Slot.{IsSlot}
use Rattle.fileset_table.proofs.ReadSlots.{no_slots, read_more}
use Rattle.fileset_table.proofs.reading.read_slots.Goals as goal

pub returns-in_err-slot : goal.returns-in_err-slot
returns-in_err-slot c =
    let start = 16 + 128 * c.loop-number.number in
    let within : c.loop-number.number < 32 = omega arith in
    let size : start + 128 - start ≡ 128 = omega arith in
    let none = subst (λ n. Fails (IsSlot (take n (drop start c.args.bytes.now))) c.in_err-slot.field-0.0) size c.in_err-slot.ensures in
    let p = err_from_is_err_and c.from_residual-in_err-slot.result c.from_residual-in_err-slot.ensures.1 in
    rw (p.1, p.2) (no_slots c.args.bytes.now c.loop-number.number c.in_err-slot.field-0.0 within none)

pub loop-number-preserved : goal.loop-number-preserved
loop-number-preserved c =
    let start = 16 + 128 * c.loop-number.number in
    let size : start + 128 - start ≡ 128 = omega arith in
    read_more c.args.bytes.now c.loop-number.number c.loop-number.slots.items c.push.new.self.items c.in_ok-slot.slot c.loop-number.invariant
    (subst (λ n. IsSlot (take n (drop start c.args.bytes.now)) c.in_ok-slot.slot) size c.in_ok-slot.ensures) c.in_ok-push.ensures.items
