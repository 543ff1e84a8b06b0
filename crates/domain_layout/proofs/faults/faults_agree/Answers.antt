use Rattle.domain_layout.proofs.SameFaults.{same_faults}
use Rattle.domain_layout.proofs.faults.faults_agree.Goals as goal

pub returns : goal.returns
returns c = λ one other frame row agree. same_faults one other frame row agree
