use Rattle.quota_book.proofs.Sums.{charged_book}
use Rattle.quota_book.proofs.laws.charges_keep_the_sums.Goals as goal

pub returns : goal.returns
returns c = charged_book
