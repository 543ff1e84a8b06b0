use Rattle.std.proofs.Common.{None, refl}
use Rattle.domain_changes.specs.fileset_table.declared.slot.SlotItem.TheVariants as slot
use Rattle.domain_changes.proofs.OfDomainMemory.KeptStands.{kept_joined}
use Rattle.domain_changes.specs.domain_memory.declared.memory.DomainMemory.{DomainMemory}
use Rattle.release_changes.proofs.LastTaken.{belong_here, last_lost, on_here, table_there, used_here}
use Rattle.release_changes.proofs.QuotaTaken.{kept_without}
use Rattle.domain_changes.proofs.SlotPut.{kept_end, on_ok}
use Rattle.release_changes.proofs.quotas.lose_last.Goals as goal

pub free_cell-requires-clause-belong : goal.free_cell-requires-clause-belong
free_cell-requires-clause-belong c = let w = c.requires.quotas in belong_here c.args.memory.now c.args.at w.0 w.1 c.requires.last

pub free_cell-requires-clause-used : goal.free_cell-requires-clause-used
free_cell-requires-clause-used c = let w = c.requires.quotas in used_here c.args.memory.now c.args.at w.0 w.1 c.requires.last

pub free_cell-requires-clause-table : goal.free_cell-requires-clause-table
free_cell-requires-clause-table c = let w = c.requires.quotas in on_here c.args.memory.now c.args.at w.0 w.1 c.requires.last

pub put_in_table-requires-clause-there : goal.put_in_table-requires-clause-there
put_in_table-requires-clause-there c =
    let w = c.requires.quotas in
    let memory = c.args.memory.now in
    let mid : DomainMemory = record memory { pages = c.free_cell.new.pages; cells = c.free_cell.new.self } in
    let f = c.free_cell.ensures in
    table_there memory c.args.at w.0 w.1 c.requires.last mid refl f.value f.others f.belong f.headers f.elsewhere c.requires.there

pub returns-clause-ok : goal.returns-clause-ok
returns-clause-ok c = λ files has.
    let memory = c.args.memory.now in
    let mid : DomainMemory = record memory { pages = c.free_cell.new.pages; cells = c.free_cell.new.self } in
    let f = c.free_cell.ensures in
    on_ok c.put_in_table.result (λ puts. last_lost memory c.args.at files has c.requires.last mid refl f.value f.others f.belong f.headers f.elsewhere c.args.number c.args.first_tag c.put_in_table.new.memory puts c.requires.was) c.put_in_table.ensures.ok

pub returns-clause-kept : goal.returns-clause-kept
returns-clause-kept c =
    let memory = c.args.memory.now in
    let mid : DomainMemory = record memory { pages = c.free_cell.new.pages; cells = c.free_cell.new.self } in
    let f = c.free_cell.ensures in
    kept_joined memory mid c.put_in_table.new.memory (kept_without memory mid refl f.before f.value.keeps f.value.marks)
    (kept_end c.args.number (slot.Removed c.args.first_tag None) mid c.put_in_table.new.memory c.requires.fresh c.put_in_table.result c.put_in_table.ensures.ok c.put_in_table.ensures.err)
