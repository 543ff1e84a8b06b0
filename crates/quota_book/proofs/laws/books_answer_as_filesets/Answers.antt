use Rattle.quota_book.proofs.Sums.{asked_same, empty_is}
use Rattle.quota_book.proofs.laws.books_answer_as_filesets.Goals as goal

pub returns-clause-asked : goal.returns-clause-asked
returns-clause-asked c = asked_same

pub returns-clause-empty : goal.returns-clause-empty
returns-clause-empty c = empty_is
