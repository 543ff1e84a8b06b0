use Rattle.legal_histories.proofs.ValidLemmas.{with_tree-valid}
use Rattle.legal_histories.proofs.laws.a_valid_tree_keeps_all_valid.Goals as goal

pub returns : goal.returns
returns c = with_tree-valid
