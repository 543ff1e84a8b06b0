use Rattle.domain_layout.proofs.OneSlot.{one_filling}
use Rattle.domain_layout.proofs.laws.one_filling.Goals as goal

pub returns : goal.returns
returns c = one_filling
