use Rattle.extent_records.proofs.ChainLemmas.{cuts_chain}
use Rattle.extent_records.proofs.laws.cut_records_cut_the_map.Goals as goal

pub returns : goal.returns
returns c = cuts_chain
