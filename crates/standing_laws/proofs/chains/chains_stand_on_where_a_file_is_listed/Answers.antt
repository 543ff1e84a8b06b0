use Rattle.standing_laws.proofs.EntryListed.{chains_listed}
use Rattle.standing_laws.proofs.chains.chains_stand_on_where_a_file_is_listed.Goals as goal

pub returns : goal.returns
returns c = chains_listed
