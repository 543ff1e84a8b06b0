use Rattle.std.proofs.Common.{subst, sym}
use Rattle.fileset_table.specs.Slot.{IsSlot}
use Rattle.fileset_table.proofs.Written.{zero_state}
use Rattle.fileset_table.proofs.writing.spell_slot.Goals as goal

pub returns-in-Free-clause-slot : goal.returns-in-Free-clause-slot
returns-in-Free-clause-slot c = subst (IsSlot c.args.out.now) (sym c.in-Free.is) (zero_state c.args.out.now c.requires.zeros)
