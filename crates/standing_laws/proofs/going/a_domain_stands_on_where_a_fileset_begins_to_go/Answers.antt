use Rattle.standing_laws.proofs.FilesetGoes.{domain_went}
use Rattle.standing_laws.proofs.going.a_domain_stands_on_where_a_fileset_begins_to_go.Goals as goal

pub returns : goal.returns
returns c = domain_went
