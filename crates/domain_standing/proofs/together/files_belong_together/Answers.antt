use Rattle.domain_standing.proofs.Belonging.{together}
use Rattle.domain_standing.proofs.together.files_belong_together.Goals as goal

pub returns : goal.returns
returns c = together
