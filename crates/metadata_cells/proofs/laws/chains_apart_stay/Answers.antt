use Rattle.metadata_cells.proofs.Frames.{chain_stays}
use Rattle.metadata_cells.proofs.laws.chains_apart_stay.Goals as goal

pub returns : goal.returns
returns c = λ old new changed start cells leaves apart chain. chain_stays old new changed leaves start cells apart chain
