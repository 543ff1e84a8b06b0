use Rattle.extent_records.proofs.ChainLemmas.{one_page_follows}
use Rattle.extent_records.proofs.laws.one_page_changes.Goals as goal

pub returns : goal.returns
returns c = one_page_follows
