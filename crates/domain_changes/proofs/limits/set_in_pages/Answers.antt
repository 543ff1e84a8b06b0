use Rattle.domain_memory.specs.fileset_table.declared.slot.SlotItem.TheVariants as slot
use Rattle.domain_memory.specs.standing_laws.BoundedFileset.{entry_bounded}
use Rattle.domain_changes.proofs.SlotPut.{asks_page, kept_put}
use Rattle.domain_changes.proofs.limits.set_in_pages.Goals as goal

pub set_in_slot-requires-clause-there : goal.set_in_slot-requires-clause-there
set_in_slot-requires-clause-there c = asks_page c.args.memory.now c.requires.stands

pub returns-in_ok-set_in_slot-in-Fileset-clause-kept : goal.returns-in_ok-set_in_slot-in-Fileset-clause-kept
returns-in_ok-set_in_slot-in-Fileset-clause-kept c =
    let b = c.in_ok-set_in_slot-in-Fileset.ensures.ok in
    kept_put c.args.number (slot.Original (entry_bounded c.args.limits.now b.entry)) c.args.memory.now c.set_in_slot.new.memory c.requires.fresh b.puts
