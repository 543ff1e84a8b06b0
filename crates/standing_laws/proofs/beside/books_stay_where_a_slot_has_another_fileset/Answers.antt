use Rattle.standing_laws.proofs.BooksStay.{books_put}
use Rattle.standing_laws.proofs.beside.books_stay_where_a_slot_has_another_fileset.Goals as goal

pub returns : goal.returns
returns c = books_put
