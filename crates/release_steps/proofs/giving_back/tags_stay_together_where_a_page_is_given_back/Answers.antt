use Rattle.release_steps.proofs.GivenBack.{given_among, given_together}
use Rattle.release_steps.proofs.giving_back.tags_stay_together_where_a_page_is_given_back.Goals as goal

pub returns : goal.returns
returns c = λ first home kind group well is fileset places chains together among beside. (given_together first home kind group well is fileset places chains together among beside, given_among first home kind group well is fileset places chains together among beside)
