use Rattle.std.proofs.Common.{◌∙◌, refl, sym, ap, subst}
use Rattle.domain_memory.specs.fileset_table.Table.{IsTable, with_slot}
use Rattle.domain_memory.specs.fileset_table.declared.slot.SlotItem.TheVariants as slot
use Rattle.domain_memory.specs.standing_laws.SetsQuota.{entry_limited}
use Rattle.domain_memory.proofs.KeptStands.{kept_joined}
use Rattle.domain_memory.specs.declared.memory.DomainMemory.{DomainMemory}
use Rattle.domain_changes.proofs.LimitsAsks.{mid_page, slot_changes, start_low}
use Rattle.domain_changes.proofs.QuotasKnown.{asks_allocated, asks_chain}
use Rattle.domain_changes.proofs.SlotPut.{asks_page, kept_end}
use Rattle.domain_changes.proofs.limits.set_in_quotas.Goals as goal

pub set_in_chain-requires-clause-allocated : goal.set_in_chain-requires-clause-allocated
set_in_chain-requires-clause-allocated c = asks_allocated c.args.memory.now c.requires.stands

pub set_in_chain-requires-clause-chain : goal.set_in_chain-requires-clause-chain
set_in_chain-requires-clause-chain c = asks_chain c.args.memory.now c.args.number c.in_ok-entry.entry c.in_ok-entry.ensures.entry c.requires.stands

pub put_in_table-requires-clause-table : goal.put_in_table-requires-clause-table
put_in_table-requires-clause-table c =
    let its = c.in_ok-entry.entry in
    let found = asks_chain c.args.memory.now c.args.number its c.in_ok-entry.ensures.entry c.requires.stands in
    let low = start_low c.args.number c.args.prefer c.args.who c.args.limits.now its c.in_ok-start.start c.args.memory.now c.set_in_chain.new.memory c.in_ok-start.ensures.ok found.0 found.1 in
    subst (λ (m : DomainMemory). IsTable (with_slot c.args.number (slot.Original (entry_limited c.in_ok-start.start its)) m.table)) (sym c.set_in_chain.ensures.same)
    (slot_changes c.args.memory.now c.args.number its (entry_limited c.in_ok-start.start its) c.in_ok-entry.ensures.table c.in_ok-entry.ensures.entry refl low)

pub put_in_table-requires-clause-there : goal.put_in_table-requires-clause-there
put_in_table-requires-clause-there c =
    mid_page c.args.number c.args.prefer c.args.who c.args.limits.now c.in_ok-entry.entry c.in_ok-start.start c.args.memory.now c.set_in_chain.new.memory c.in_ok-start.ensures.ok (asks_page c.args.memory.now c.requires.stands)

pub returns-clause-kept : goal.returns-clause-kept
returns-clause-kept c =
    kept_joined c.args.memory.now c.set_in_chain.new.memory c.put_in_table.new.memory c.set_in_chain.ensures.kept
    (kept_end c.args.number (slot.Original (entry_limited c.in_ok-start.start c.in_ok-entry.entry)) c.set_in_chain.new.memory c.put_in_table.new.memory (ap (λ (m : DomainMemory). m.was) c.set_in_chain.ensures.same ∙ c.requires.fresh) c.put_in_table.result c.put_in_table.ensures.ok c.put_in_table.ensures.err)
