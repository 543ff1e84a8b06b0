use Rattle.std.proofs.Common.{refl}
use Rattle.domain_changes.proofs.LimitsAsks.{its_quota, slot_changes}
use Rattle.domain_changes.proofs.limits.set_in_slot.Goals as goal

pub put_in_table-requires-clause-table : goal.put_in_table-requires-clause-table
put_in_table-requires-clause-table c =
    let its = c.in_ok-entry.entry in
    slot_changes c.args.memory.now c.args.number its (record its { files_limit = c.args.limits.now.files; blocks_limit = c.args.limits.now.blocks }) c.in_ok-entry.ensures.table c.in_ok-entry.ensures.entry refl
    (its_quota c.args.memory.now c.args.number its c.in_ok-entry.ensures.table c.in_ok-entry.ensures.entry)
