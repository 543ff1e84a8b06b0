use Rattle.domain_state.proofs.NewStart.{is_start}
use Rattle.domain_state.proofs.laws.a_new_domain_is_a_start.Goals as goal

pub returns : goal.returns
returns c = is_start
