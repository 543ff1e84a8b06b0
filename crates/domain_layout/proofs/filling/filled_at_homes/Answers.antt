use Rattle.domain_layout.proofs.FilledAlike.{filled_at_homes}
use Rattle.domain_layout.proofs.filling.filled_at_homes.Goals as goal

pub returns : goal.returns
returns c = filled_at_homes
