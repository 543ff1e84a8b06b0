use Rattle.legal_histories.proofs.MarkedLemmas.{plain}
use Rattle.legal_histories.proofs.legal.legal_answers_are_plain.Goals as goal

pub returns : goal.returns
returns c = plain
