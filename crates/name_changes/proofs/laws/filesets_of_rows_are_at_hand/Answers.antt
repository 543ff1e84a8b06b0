use Rattle.name_changes.proofs.AtHand.{at_hand}
use Rattle.name_changes.proofs.laws.filesets_of_rows_are_at_hand.Goals as goal

pub returns : goal.returns
returns c = at_hand
