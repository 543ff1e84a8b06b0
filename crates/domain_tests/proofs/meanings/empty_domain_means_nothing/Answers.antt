use Rattle.domain_tests.proofs.EmptyMeans.{means_nothing}
use Rattle.domain_tests.proofs.meanings.empty_domain_means_nothing.Goals as goal

pub returns : goal.returns
returns c = means_nothing
