use Rattle.domain_layout.proofs.OneShape.{one_shape}
use Rattle.domain_layout.proofs.laws.one_shape.Goals as goal

pub returns : goal.returns
returns c = one_shape
