use Rattle.standing_laws.proofs.BegunDomain.{domain_begun}
use Rattle.standing_laws.proofs.beginning.a_domain_stands_on_where_a_fileset_begins.Goals as goal

pub returns : goal.returns
returns c = domain_begun
