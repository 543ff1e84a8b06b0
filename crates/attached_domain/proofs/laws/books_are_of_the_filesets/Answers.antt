use Rattle.attached_domain.proofs.AllBooks.{all_books}
use Rattle.attached_domain.proofs.laws.books_are_of_the_filesets.Goals as goal

pub returns : goal.returns
returns c = all_books
