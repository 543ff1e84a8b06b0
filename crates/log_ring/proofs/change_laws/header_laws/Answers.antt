use Rattle.log_ring.proofs.HeaderPages.{header-behind_gate, one_header}
use Rattle.log_ring.proofs.change_laws.header_laws.Goals as goal

pub returns-clause-one : goal.returns-clause-one
returns-clause-one c = one_header

pub returns-clause-behind_gate : goal.returns-clause-behind_gate
returns-clause-behind_gate c = header-behind_gate
