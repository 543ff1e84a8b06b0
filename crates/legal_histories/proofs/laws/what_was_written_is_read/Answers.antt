use Rattle.legal_histories.proofs.ByteLemmas.{read_within, read_outside}
use Rattle.legal_histories.proofs.laws.what_was_written_is_read.Goals as goal

pub returns-clause-within : goal.returns-clause-within
returns-clause-within c = read_within

pub returns-clause-outside : goal.returns-clause-outside
returns-clause-outside c = read_outside
