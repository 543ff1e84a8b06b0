use Rattle.extent_records.proofs.ChainLemmas.{shows_record}
use Rattle.extent_records.proofs.laws.a_chain_shows_its_records.Goals as goal

pub returns : goal.returns
returns c = shows_record
