use Rattle.set_standing.proofs.AroundWritten.{is_written}
use Rattle.set_standing.proofs.pages.all_stands_around_a_page_that_is_written.Goals as goal

pub returns : goal.returns
returns c = is_written
