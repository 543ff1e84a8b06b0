use Rattle.domain_attaching.proofs.Attachable.{closed_attachable}
use Rattle.domain_attaching.proofs.laws.a_closed_domain_is_attachable.Goals as goal

pub returns : goal.returns
returns c = closed_attachable
