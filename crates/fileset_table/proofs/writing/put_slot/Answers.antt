use Rattle.std.proofs.Common.{◌∙◌, ◌+◌, ◌*◌, ap, length, refl, subst, sym, arith}
use Rattle.metadata_cells.specs.domain_base.Page.{zero_bytes}
use Rattle.fileset_table.specs.Writing.{SetsSlot}
use Rattle.fileset_table.proofs.Slots.{sets_slot, whole_before}
use Rattle.fileset_table.proofs.writing.put_slot.Goals as goal

pub spell_slot-requires-clause-zeros : goal.spell_slot-requires-clause-zeros
unfolding zero_bytes
spell_slot-requires-clause-zeros c = refl

pub returns : goal.returns
returns c =
    let start = 16 + 128 * c.args.number in
    let whole = whole_before c.args.page.now c.spell_slot.new.out start (omega (arith, c.requires.number, c.spell_slot.ensures.len)) (sym (ap length c.set.ensures.value) ∙ c.set.ensures.len) in
    subst (SetsSlot c.args.number c.args.item.now c.args.page.now) (sym c.set.ensures.value)
    (sets_slot c.args.page.now c.spell_slot.new.out c.args.number c.args.item.now whole c.spell_slot.ensures.len c.requires.number c.spell_slot.ensures.slot)
