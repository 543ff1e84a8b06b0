use Rattle.release_steps.proofs.GivenBack.{given_well}
use Rattle.release_steps.proofs.giving_back.all_stays_well_where_a_page_is_given_back.Goals as goal

pub returns : goal.returns
returns c = given_well
