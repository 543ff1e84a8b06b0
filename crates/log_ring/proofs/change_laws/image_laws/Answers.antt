use Rattle.log_ring.proofs.Overlays.{JoinsWell-joined, image_at-joined, overlaid-append}
use Rattle.log_ring.proofs.change_laws.image_laws.Goals as goal

pub returns-clause-in_turn : goal.returns-clause-in_turn
returns-clause-in_turn c = overlaid-append

pub returns-clause-at : goal.returns-clause-at
returns-clause-at c = image_at-joined

pub returns-clause-well : goal.returns-clause-well
returns-clause-well c = JoinsWell-joined
