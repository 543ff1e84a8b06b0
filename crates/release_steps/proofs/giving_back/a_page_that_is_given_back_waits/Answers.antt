use Rattle.release_steps.proofs.GivenBack.{waits_and}
use Rattle.release_steps.proofs.giving_back.a_page_that_is_given_back_waits.Goals as goal

pub returns : goal.returns
returns c = waits_and
