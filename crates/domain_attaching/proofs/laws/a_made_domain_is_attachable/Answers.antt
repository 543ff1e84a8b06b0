use Rattle.domain_attaching.proofs.Attachable.{made_attachable}
use Rattle.domain_attaching.proofs.laws.a_made_domain_is_attachable.Goals as goal

pub returns : goal.returns
returns c = made_attachable
