use Rattle.set_standing.proofs.Added.{is_added}
use Rattle.set_standing.proofs.pages.all_stands_around_a_directory_that_gets_a_page.Goals as goal

pub returns : goal.returns
returns c = is_added
