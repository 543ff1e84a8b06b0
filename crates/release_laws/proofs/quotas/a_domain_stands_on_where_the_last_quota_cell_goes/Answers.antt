use Rattle.release_laws.proofs.QuotaEnded.{alone_ended, below_ended, sound_ended}
use Rattle.release_laws.proofs.quotas.a_domain_stands_on_where_the_last_quota_cell_goes.Goals as goal

pub returns-clause-below : goal.returns-clause-below
returns-clause-below c = below_ended

pub returns-clause-alone : goal.returns-clause-alone
returns-clause-alone c = alone_ended

pub returns-clause-sound : goal.returns-clause-sound
returns-clause-sound c = sound_ended
