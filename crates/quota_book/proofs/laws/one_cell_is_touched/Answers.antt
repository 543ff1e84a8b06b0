use Rattle.quota_book.proofs.Cells.{one_added, one_touched}
use Rattle.quota_book.proofs.laws.one_cell_is_touched.Goals as goal

pub returns-clause-touched : goal.returns-clause-touched
returns-clause-touched c = one_touched

pub returns-clause-added : goal.returns-clause-added
returns-clause-added c = one_added
