use Rattle.release_changes.proofs.ToEmpty.{either, may_lose}
use Rattle.release_changes.proofs.emptying.may_empty_slot.Goals as goal

pub returns-then-names_quota_cells : goal.returns-then-names_quota_cells
returns-then-names_quota_cells c = may_lose c.args.memory.now c.args.number (c.names_quota_cells.ensures.some c.if-names_quota_cells.true)

pub returns : goal.returns
returns c = either c.args.memory.now c.args.number (c.names_quota_cells.ensures.none c.if-names_quota_cells.false) c.is_used_or_bare.result c.is_used_or_bare.ensures
