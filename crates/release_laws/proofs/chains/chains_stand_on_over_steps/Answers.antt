use Rattle.release_laws.proofs.ChainsGo.{chains_go}
use Rattle.release_laws.proofs.chains.chains_stand_on_over_steps.Goals as goal

pub returns : goal.returns
returns c = chains_go
