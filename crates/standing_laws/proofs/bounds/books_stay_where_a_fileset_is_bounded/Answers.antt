use Rattle.standing_laws.proofs.FilesetBounded.{books_bounded}
use Rattle.standing_laws.proofs.bounds.books_stay_where_a_fileset_is_bounded.Goals as goal

pub returns : goal.returns
returns c = books_bounded
