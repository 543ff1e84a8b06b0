use Rattle.free_cells.proofs.Kept.{same_belong}
use Rattle.free_cells.proofs.laws.same_cells_belong.Goals as goal

pub returns : goal.returns
returns c = same_belong
