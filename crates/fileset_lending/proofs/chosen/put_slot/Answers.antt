use Rattle.std.proofs.Common.{◌∙◌, ℕ, Some, None, set, sym, ap}
use Rattle.std.proofs.lemmas.List.{get_or-set_other, get_or-set_same}
use Rattle.domain_memory.specs.Slots.{slot_in}
use Rattle.domain_memory.proofs.SlotsChanged.{slot_at}
use Rattle.fileset_lending.proofs.chosen.put_slot.Goals as goal

pub returns-clause-is : goal.returns-clause-is
returns-clause-is c =
    let slots = c.args.slots.now.items in
    ap (λ (k : ℕ). slot_in (set slots k (Some c.args.files)) c.args.number) c.number.ensures.value
    ∙ slot_at (set slots c.args.number (Some c.args.files)) c.args.number
    ∙ get_or-set_same slots c.args.number (Some c.args.files) None c.requires

pub returns-clause-others : goal.returns-clause-others
returns-clause-others c = λ n differ.
    let slots = c.args.slots.now.items in
    ap (λ (k : ℕ). slot_in (set slots k (Some c.args.files)) n) c.number.ensures.value
    ∙ slot_at (set slots c.args.number (Some c.args.files)) n
    ∙ get_or-set_other slots c.args.number n (Some c.args.files) None differ
    ∙ sym (slot_at slots n)
