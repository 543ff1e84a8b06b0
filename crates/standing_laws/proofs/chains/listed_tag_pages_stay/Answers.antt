use Rattle.standing_laws.proofs.ChainsNamed.{tag_pages_now}
use Rattle.standing_laws.proofs.chains.listed_tag_pages_stay.Goals as goal

pub returns : goal.returns
returns c = tag_pages_now
