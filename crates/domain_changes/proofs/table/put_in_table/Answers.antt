use Rattle.std.proofs.Common.{refl}
use Rattle.domain_changes.proofs.SlotPut.{puts_it}
use Rattle.domain_changes.proofs.table.put_in_table.Goals as goal

pub returns-clause-ok : goal.returns-clause-ok
returns-clause-ok c =
    puts_it c.args.number c.args.item c.replace_slot-had.result c.args.memory.now _ c.in-Some.home c.write.new.page c.in-Some.is c.replace_slot-had.ensures.had c.replace_slot-had.ensures.value refl c.write.ensures.table c.put.ensures.value c.put.ensures.before refl
