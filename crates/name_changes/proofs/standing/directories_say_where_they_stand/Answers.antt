use Rattle.name_changes.proofs.SaidParents.{parents_follow}
use Rattle.name_changes.proofs.standing.directories_say_where_they_stand.Goals as goal

pub returns : goal.returns
returns c = parents_follow
