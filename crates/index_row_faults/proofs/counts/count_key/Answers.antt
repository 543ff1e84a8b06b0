use Rattle.index_row_faults.proofs.Keys.{one_more}
use Rattle.index_row_faults.proofs.counts.count_key.Goals as goal

pub returns : goal.returns
returns c hash page =
    one_more c.args.counts.now c.insert.new.self c.args.key c.count_of-count.result c.count_of-count.ensures c.in_ok-insert.ensures.updates.0 hash page
