use Rattle.legal_histories.proofs.ValidAnswerLemmas.{answers-valid}
use Rattle.legal_histories.proofs.laws.every_answer_keeps_all_valid.Goals as goal

pub returns : goal.returns
returns c = answers-valid
