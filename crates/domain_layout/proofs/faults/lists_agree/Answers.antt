use Rattle.domain_layout.proofs.SameFaults.{same_lists}
use Rattle.domain_layout.proofs.faults.lists_agree.Goals as goal

pub returns : goal.returns
returns c = λ one other frame rows agree. same_lists one other frame rows agree
