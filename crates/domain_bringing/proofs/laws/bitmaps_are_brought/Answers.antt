use Rattle.domain_bringing.proofs.Held.{has_bitmaps}
use Rattle.domain_bringing.proofs.laws.bitmaps_are_brought.Goals as goal

pub returns : goal.returns
returns c = has_bitmaps
