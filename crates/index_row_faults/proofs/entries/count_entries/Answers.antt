use Rattle.index_row_faults.proofs.Read.{entries_counted}
use Rattle.index_row_faults.proofs.entries.count_entries.Goals as goal

pub returns-then-count-le1022-clause-count : goal.returns-then-count-le1022-clause-count
returns-then-count-le1022-clause-count c = entries_counted c.args.page.now c.bytes.result.now c.u32_at-count.result c.u32_at-count.ensures c.bytes.ensures.value c.if-count-le1022.true
