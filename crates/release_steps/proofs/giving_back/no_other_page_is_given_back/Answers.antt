use Rattle.release_steps.proofs.GivenBack.{held_but}
use Rattle.release_steps.proofs.giving_back.no_other_page_is_given_back.Goals as goal

pub returns : goal.returns
returns c = held_but
