use Rattle.set_standing.proofs.IndexAround.{is_written}
use Rattle.set_standing.proofs.indexes.all_stands_around_an_index_page_that_is_written.Goals as goal

pub returns : goal.returns
returns c = is_written
