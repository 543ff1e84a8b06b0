use Rattle.legal_histories.proofs.PlainLemmas.{legal}
use Rattle.legal_histories.proofs.legal.plain_runs_are_legal.Goals as goal

pub returns : goal.returns
returns c = legal
