use Rattle.release_steps.proofs.Linked.{links_stay}
use Rattle.release_steps.proofs.steps.listed_pages_lead_on.Goals as goal

pub returns : goal.returns
returns c = links_stay
