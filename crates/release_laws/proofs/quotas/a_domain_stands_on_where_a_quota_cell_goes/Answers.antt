use Rattle.release_laws.proofs.QuotaLost.{alone_lost, below_lost, sound_lost}
use Rattle.release_laws.proofs.quotas.a_domain_stands_on_where_a_quota_cell_goes.Goals as goal

pub returns-clause-below : goal.returns-clause-below
returns-clause-below c = below_lost

pub returns-clause-alone : goal.returns-clause-alone
returns-clause-alone c = alone_lost

pub returns-clause-sound : goal.returns-clause-sound
returns-clause-sound c = sound_lost
