use Rattle.std.proofs.Common.{◌≡◌, ◌∙◌, refl, sym, subst, arith, ⊎_elim}
use Rattle.std.proofs.lemmas.Bool.{cases_lt}
use mathlib.Core.Bool.{false≢true}
use Rattle.tag_faults.specs.Quotas.{IsWrongIn}
use Rattle.tag_faults.proofs.Counted.{within_of}
use Rattle.tag_faults.proofs.slots.has_wrong_slot.Goals as goal

pub returns-then-is_wrong_in : goal.returns-then-is_wrong_in
returns-then-is_wrong_in g c frame are =
    let wrong = (c.is_wrong_in.ensures frame are).0 c.if-is_wrong_in.true in
    ((λ yes. record { number = c.slot_number.result; item = wrong.0; there = wrong.1; wrong = wrong.2 }), (λ slot. refl))

pub loop-number-preserved : goal.loop-number-preserved
loop-number-preserved g c frame are number below wrong =
    let pages = g.M.MetaPages.pages c.args.pages.now in
    ⊎_elim (λ low. c.loop-number.invariant frame are number low wrong)
    (λ high.
    let here : number ≡ c.slot_number.result = omega (arith, below, high, c.slot_number.ensures) in
    false≢true (sym c.if-is_wrong_in.false ∙ (c.is_wrong_in.ensures frame are).1 (subst (IsWrongIn pages frame c.args.table.now) here wrong)))
    (cases_lt number c.loop-number.number)

pub returns : goal.returns
returns g c frame are = (
  λ yes. absurd (false≢true yes),
  λ slot. absurd (c.loop-number.invariant frame are slot.number
      (omega (arith, within_of c.args.table.now.slots slot.number slot.item slot.there, c.count_slots-number-end.ensures.whole, c.count_slots-number-end.ensures.value, c.loop-number-test.false)) (slot.item, slot.there, slot.wrong)),
)
