use Rattle.set_standing.proofs.IndexAround.{is_put_in}
use Rattle.set_standing.proofs.indexes.all_stands_around_an_index_page_that_is_put_in.Goals as goal

pub returns : goal.returns
returns c = is_put_in
