use Rattle.domain_memory.proofs.KeptStands.{kept_joined}
use Rattle.domain_memory.proofs.laws.changes_leave_what_was_kept.Goals as goal

pub returns : goal.returns
returns c = kept_joined
