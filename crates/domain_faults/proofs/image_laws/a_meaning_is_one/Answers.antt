use Rattle.domain_faults.proofs.OneMeaning.{one_meaning}
use Rattle.domain_faults.proofs.image_laws.a_meaning_is_one.Goals as goal

pub returns : goal.returns
returns c = one_meaning
