use Rattle.domain_tests.proofs.OneMeans.{means_one}
use Rattle.domain_tests.proofs.meanings.one_fileset_means_itself.Goals as goal

pub returns : goal.returns
returns c = means_one
