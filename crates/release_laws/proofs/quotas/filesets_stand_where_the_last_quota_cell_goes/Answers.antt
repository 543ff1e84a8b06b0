use Rattle.release_laws.proofs.QuotaEnded.{bits_ended, parents_ended, slots_ended}
use Rattle.release_laws.proofs.quotas.filesets_stand_where_the_last_quota_cell_goes.Goals as goal

pub returns-clause-slots : goal.returns-clause-slots
returns-clause-slots c = slots_ended

pub returns-clause-parents : goal.returns-clause-parents
returns-clause-parents c = parents_ended

pub returns-clause-bits : goal.returns-clause-bits
returns-clause-bits c = bits_ended
