use Rattle.std.proofs.Common.{◌∙◌, ◌<◌, sym, subst}
use Rattle.fileset_lending.proofs.Lending.{its_set, not_empty, within}
use Rattle.fileset_lending.proofs.chosen.choose.Goals as goal

pub take_slot-requires : goal.take_slot-requires
take_slot-requires c = within c.args.memory c.args.number c.requires.stands c.requires.back c.requires.original

pub unreachable-requires : goal.unreachable-requires
unreachable-requires c = not_empty c.args.memory c.args.number c.requires.stands c.requires.back c.requires.original (sym c.take_slot.ensures.was ∙ c.in_default.is)

pub new-set-requires : goal.new-set-requires
new-set-requires c =
    its_set c.args.memory c.args.number c.requires.stands c.requires.back c.requires.original c.in-Some.field-0 (sym c.take_slot.ensures.was ∙ c.in-Some.is)

pub invariant_of-rest : goal.invariant_of-rest
invariant_of-rest c = record { there = subst (λ n. c.args.number < n) (sym c.take_slot.ensures.count) (within c.args.memory c.args.number c.requires.stands c.requires.back c.requires.original) }
