use Rattle.domain_state.proofs.AttachedStart.{has_start}
use Rattle.domain_state.proofs.laws.an_attached_domain_has_a_start.Goals as goal

pub returns : goal.returns
returns c = has_start
