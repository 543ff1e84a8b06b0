use Rattle.standing_laws.proofs.BooksStay.{books_limited}
use Rattle.standing_laws.proofs.beside.books_stay_where_limits_are_set.Goals as goal

pub returns : goal.returns
returns c = books_limited
