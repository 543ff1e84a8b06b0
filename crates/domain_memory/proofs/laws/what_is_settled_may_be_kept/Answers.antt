use Rattle.domain_memory.proofs.SettledKept.{settled_kept}
use Rattle.domain_memory.proofs.laws.what_is_settled_may_be_kept.Goals as goal

pub returns : goal.returns
returns c = settled_kept
