use Rattle.metadata_cells.proofs.Linked.{chain_of, linked}
use Rattle.metadata_cells.proofs.laws.chains_are_linked.Goals as goal

pub returns-clause-linked : goal.returns-clause-linked
returns-clause-linked c = λ pages start cells chain. linked pages start cells chain

pub returns-clause-chain : goal.returns-clause-chain
returns-clause-chain c = λ pages first rest links. chain_of pages first rest links
