use Rattle.free_cells.proofs.Belongs.{belong_still}
use Rattle.free_cells.proofs.laws.other_cells_stay.Goals as goal

pub returns : goal.returns
returns c = λ cells old new changed others good headers apart belong. belong_still cells old new changed others good headers apart belong
