use Rattle.domain_making.proofs.Alone.{alone, settled}
use Rattle.domain_making.proofs.laws.making_laws.Goals as goal

pub returns-clause-alone : goal.returns-clause-alone
returns-clause-alone c = alone

pub returns-clause-settled : goal.returns-clause-settled
returns-clause-settled c = settled
