use Rattle.standing_laws.proofs.OthersStand.{others_stand}
use Rattle.standing_laws.proofs.others.all_stands_on_where_other_pages_change.Goals as goal

pub returns : goal.returns
returns c = others_stand
