use Rattle.domain_faults.proofs.FaultRows.{none_there}
use Rattle.domain_faults.proofs.meaning.is_none.Goals as goal

pub returns : goal.returns
returns c = none_there c.args.rows.now c.is_empty.result c.is_empty.ensures
