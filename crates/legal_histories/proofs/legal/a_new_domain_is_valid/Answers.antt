use Rattle.legal_histories.proofs.NewDomainLemmas.{new-valid}
use Rattle.legal_histories.proofs.legal.a_new_domain_is_valid.Goals as goal

pub returns : goal.returns
returns c = new-valid
