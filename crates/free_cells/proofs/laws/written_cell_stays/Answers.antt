use Rattle.free_cells.proofs.Belongs.{belong_written}
use Rattle.free_cells.proofs.laws.written_cell_stays.Goals as goal

pub returns : goal.returns
returns c = λ old new before after at takes others good headers belong. belong_written old new before after at takes others good headers belong
