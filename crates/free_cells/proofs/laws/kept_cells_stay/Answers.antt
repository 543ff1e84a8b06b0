use Rattle.free_cells.proofs.Kept.{back_same}
use Rattle.free_cells.proofs.laws.kept_cells_stay.Goals as goal

pub returns : goal.returns
returns c = back_same
