use Rattle.standing_laws.proofs.QuotaSets.{slot_stays}
use Rattle.standing_laws.proofs.quotas.other_slots_stay_where_limits_are_set.Goals as goal

pub returns : goal.returns
returns c = λ number d now files files_now indexes below s other entry shape fileset differ there stood agree. slot_stays number d now files files_now indexes below s other entry shape fileset there stood differ agree
