use Rattle.set_standing.proofs.FileCalls.{given_again}
use Rattle.set_standing.proofs.files.all_stands_around_a_file_that_gets_a_page.Goals as goal

pub returns : goal.returns
returns c = given_again
