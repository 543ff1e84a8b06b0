use Rattle.legal_histories.proofs.CutLemmas.{cut_below, cut_behind}
use Rattle.legal_histories.proofs.laws.a_cut_leaves_zeros.Goals as goal

pub returns-clause-below : goal.returns-clause-below
returns-clause-below c = cut_below

pub returns-clause-behind : goal.returns-clause-behind
returns-clause-behind c = cut_behind
