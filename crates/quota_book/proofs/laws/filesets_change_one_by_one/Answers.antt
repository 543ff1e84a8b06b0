use Rattle.quota_book.proofs.ModelChanges.{changed, gone, made}
use Rattle.quota_book.proofs.laws.filesets_change_one_by_one.Goals as goal

pub returns-clause-made : goal.returns-clause-made
returns-clause-made c = made

pub returns-clause-changed : goal.returns-clause-changed
returns-clause-changed c = changed

pub returns-clause-gone : goal.returns-clause-gone
returns-clause-gone c = gone
