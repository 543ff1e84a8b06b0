use Rattle.client_commands.proofs.Coming.{may_commit}
use Rattle.client_commands.proofs.laws.what_a_client_is_answered_may_be_committed.Goals as goal

pub returns : goal.returns
returns c = may_commit
