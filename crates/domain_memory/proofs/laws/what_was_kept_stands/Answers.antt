use Rattle.domain_memory.proofs.KeptStands.{stands_so}
use Rattle.domain_memory.proofs.laws.what_was_kept_stands.Goals as goal

pub returns : goal.returns
returns c = stands_so
