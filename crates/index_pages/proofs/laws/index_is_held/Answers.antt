use Rattle.index_pages.proofs.Held.{held_inserted}
use Rattle.index_pages.proofs.laws.index_is_held.Goals as goal

pub returns : goal.returns
returns c = λ space homes number home held can. held_inserted homes number home space held can
