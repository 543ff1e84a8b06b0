use Rattle.standing_laws.proofs.FilesetBounded.{domain_bounded}
use Rattle.standing_laws.proofs.bounds.a_domain_stands_on_where_a_fileset_is_bounded.Goals as goal

pub returns : goal.returns
returns c = domain_bounded
