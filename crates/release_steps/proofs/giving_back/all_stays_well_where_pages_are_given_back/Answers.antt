use Rattle.release_steps.proofs.GivenAway.{all_given_well}
use Rattle.release_steps.proofs.giving_back.all_stays_well_where_pages_are_given_back.Goals as goal

pub returns : goal.returns
returns c = all_given_well
