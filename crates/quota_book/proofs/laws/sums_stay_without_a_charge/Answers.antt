use Rattle.quota_book.proofs.Unchanged.{limited_same, linked_same, moved_same, unlinked_same}
use Rattle.quota_book.proofs.laws.sums_stay_without_a_charge.Goals as goal

pub returns-clause-linked : goal.returns-clause-linked
returns-clause-linked c = linked_same

pub returns-clause-unlinked : goal.returns-clause-unlinked
returns-clause-unlinked c = unlinked_same

pub returns-clause-moved : goal.returns-clause-moved
returns-clause-moved c = moved_same

pub returns-clause-limited : goal.returns-clause-limited
returns-clause-limited c = limited_same
