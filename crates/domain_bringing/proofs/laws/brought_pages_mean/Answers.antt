use Rattle.domain_bringing.proofs.Means.{mean_same}
use Rattle.domain_bringing.proofs.laws.brought_pages_mean.Goals as goal

pub returns : goal.returns
returns c = λ sizes image pages found frame good has anchor from all. mean_same sizes image pages found frame good has anchor from all
