use Rattle.release_laws.proofs.FilesAtHand.{files_at_hand}
use Rattle.release_laws.proofs.at_hand.files_are_at_hand.Goals as goal

pub returns : goal.returns
returns c = files_at_hand
