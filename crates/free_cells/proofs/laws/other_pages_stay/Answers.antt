use Rattle.free_cells.proofs.Belongs.{belong_beside}
use Rattle.free_cells.proofs.laws.other_pages_stay.Goals as goal

pub returns : goal.returns
returns c = belong_beside
