use Rattle.log_ring.proofs.HeaderPages.{one_header}
use Rattle.log_ring.proofs.OnImages.{groups-same, one_way, read_on_log}
use Rattle.log_ring.proofs.Staying.{log_along, log_beside, log_stays}
use Rattle.log_ring.proofs.ring_laws.log_laws.Goals as goal

pub returns-clause-stays : goal.returns-clause-stays
returns-clause-stays c = log_stays

pub returns-clause-one_way : goal.returns-clause-one_way
returns-clause-one_way c = one_way one_header

pub returns-clause-depends : goal.returns-clause-depends
returns-clause-depends c = groups-same

pub returns-clause-on_ring : goal.returns-clause-on_ring
returns-clause-on_ring c = read_on_log

pub returns-clause-along : goal.returns-clause-along
returns-clause-along c = log_along

pub returns-clause-beside : goal.returns-clause-beside
returns-clause-beside c = log_beside
