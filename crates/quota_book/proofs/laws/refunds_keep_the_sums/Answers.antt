use Rattle.quota_book.proofs.Sums.{has_enough, refunded_book}
use Rattle.quota_book.proofs.laws.refunds_keep_the_sums.Goals as goal

pub returns-clause-sums : goal.returns-clause-sums
returns-clause-sums c = refunded_book

pub returns-clause-enough : goal.returns-clause-enough
returns-clause-enough c = has_enough
