use Rattle.std.proofs.Common.{inr}
use Rattle.metadata_cells.proofs.chain.leads_on.Goals as goal

pub returns-in-None-clause-value : goal.returns-in-None-clause-value
returns-in-None-clause-value g c = inr (λ head there. absurd (c.in-None.ensures.none head there))
