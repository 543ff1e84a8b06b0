use Rattle.standing_laws.proofs.BooksStay.{books_begun}
use Rattle.standing_laws.proofs.beside.books_stay_where_a_fileset_begins.Goals as goal

pub returns : goal.returns
returns c = books_begun
