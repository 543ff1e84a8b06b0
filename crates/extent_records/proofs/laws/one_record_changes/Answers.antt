use Rattle.extent_records.proofs.ChainLemmas.{follows_change}
use Rattle.extent_records.proofs.laws.one_record_changes.Goals as goal

pub returns : goal.returns
returns c = follows_change
