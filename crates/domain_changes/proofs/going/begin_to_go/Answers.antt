use Rattle.std.proofs.Common.{◌∙◌, Some, refl, ap}
use Rattle.domain_memory.proofs.OfFilesetTable.Leaving.{leaves}
use Rattle.domain_memory.specs.fileset_table.declared.slot.SlotItem.TheVariants as slot
use Rattle.domain_changes.proofs.FilesetGoing.{books_end, parents_end, staged_end}
use Rattle.domain_changes.proofs.SlotPut.{allowed_at, asks_no_clone, asks_page, back_end, kept_end}
use Rattle.domain_changes.proofs.going.begin_to_go.Goals as goal

pub put_in_table-requires-clause-table : goal.put_in_table-requires-clause-table
put_in_table-requires-clause-table c =
    let its = c.in-Original.entry in
    let allowed = allowed_at c.args.memory.now.table.slots c.args.number (slot.Original its) c.slot.ensures.good.allowed (c.slot.ensures.value ∙ ap Some c.in-Original.is) in
    leaves c.args.memory.now.table c.args.number (slot.Removed (Some its.first_tag) its.quota) c.slot.ensures.good (asks_no_clone c.args.memory.now c.requires.stands c.args.number) refl allowed.1

pub put_in_table-requires-clause-there : goal.put_in_table-requires-clause-there
put_in_table-requires-clause-there c = asks_page c.args.memory.now c.requires.stands

pub returns-clause-staged : goal.returns-clause-staged
returns-clause-staged c =
    staged_end c.args.number c.in-Original.entry c.args.memory.now c.put_in_table.new.memory c.requires.fresh (c.slot.ensures.value ∙ ap Some c.in-Original.is) c.put_in_table.result c.put_in_table.ensures.ok

pub returns-clause-parents : goal.returns-clause-parents
returns-clause-parents c =
    parents_end c.args.number c.in-Original.entry c.args.memory.now c.put_in_table.new.memory c.requires.fresh (c.slot.ensures.value ∙ ap Some c.in-Original.is) c.put_in_table.result c.put_in_table.ensures.ok

pub returns-clause-books : goal.returns-clause-books
returns-clause-books c =
    books_end c.args.number c.in-Original.entry c.args.memory.now c.put_in_table.new.memory c.requires.fresh (c.slot.ensures.value ∙ ap Some c.in-Original.is) c.put_in_table.result c.put_in_table.ensures.ok

pub returns-clause-kept : goal.returns-clause-kept
returns-clause-kept c =
    kept_end c.args.number (slot.Removed (Some c.in-Original.entry.first_tag) c.in-Original.entry.quota) c.args.memory.now c.put_in_table.new.memory c.requires.fresh c.put_in_table.result c.put_in_table.ensures.ok c.put_in_table.ensures.err

pub returns-clause-back : goal.returns-clause-back
returns-clause-back c =
    back_end c.args.number (slot.Removed (Some c.in-Original.entry.first_tag) c.in-Original.entry.quota) c.args.memory.now c.put_in_table.new.memory c.requires.fresh c.put_in_table.result c.put_in_table.ensures.ok c.put_in_table.ensures.err c.requires.back
