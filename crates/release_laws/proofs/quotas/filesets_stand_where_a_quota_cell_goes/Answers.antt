use Rattle.release_laws.proofs.QuotaLost.{bits_lost, parents_lost, slots_lost}
use Rattle.release_laws.proofs.quotas.filesets_stand_where_a_quota_cell_goes.Goals as goal

pub returns-clause-slots : goal.returns-clause-slots
returns-clause-slots c = slots_lost

pub returns-clause-parents : goal.returns-clause-parents
returns-clause-parents c = parents_lost

pub returns-clause-bits : goal.returns-clause-bits
returns-clause-bits c = bits_lost
