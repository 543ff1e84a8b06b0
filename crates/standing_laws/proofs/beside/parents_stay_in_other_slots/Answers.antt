use Rattle.standing_laws.proofs.ParentsElsewhere.{parents_elsewhere}
use Rattle.standing_laws.proofs.beside.parents_stay_in_other_slots.Goals as goal

pub returns : goal.returns
returns c = parents_elsewhere
