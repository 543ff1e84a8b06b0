use Rattle.quota_book.proofs.ModelChanges.{grown, one}
use Rattle.quota_book.proofs.laws.nodes_count_for_their_ids.Goals as goal

pub returns-clause-one : goal.returns-clause-one
returns-clause-one c = one

pub returns-clause-grown : goal.returns-clause-grown
returns-clause-grown c = grown
