use Rattle.release_steps.proofs.TagsTogether.{among_now, together_now}
use Rattle.release_steps.proofs.laws.tags_stay_together_where_limits_are_set.Goals as goal

pub returns-clause-together : goal.returns-clause-together
returns-clause-together c = together_now

pub returns-clause-among : goal.returns-clause-among
returns-clause-among c = among_now
