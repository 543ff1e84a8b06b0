use Rattle.set_standing.proofs.Truncated.{cleared_last, cleared_none}
use Rattle.set_standing.proofs.commands.the_last_page_is_cleared.Goals as goal

pub returns-clause-there : goal.returns-clause-there
returns-clause-there c = cleared_last

pub returns-clause-none : goal.returns-clause-none
returns-clause-none c = cleared_none
