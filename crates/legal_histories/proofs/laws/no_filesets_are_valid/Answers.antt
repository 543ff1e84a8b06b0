use Rattle.legal_histories.proofs.ValidSetLemmas.{none-valid}
use Rattle.legal_histories.proofs.laws.no_filesets_are_valid.Goals as goal

pub returns : goal.returns
returns c = none-valid
