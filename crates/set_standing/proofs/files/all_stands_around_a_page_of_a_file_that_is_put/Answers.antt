use Rattle.set_standing.proofs.FileCalls.{put_again}
use Rattle.set_standing.proofs.files.all_stands_around_a_page_of_a_file_that_is_put.Goals as goal

pub returns : goal.returns
returns c = put_again
